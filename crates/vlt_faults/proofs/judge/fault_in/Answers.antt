use Rattle.vlt_core.specs.View.{program_of, func_of}
use Rattle.vlt_faults.proofs.OfJudge.Instances.{first_of_all, none_of_all, always_of_all}
use Rattle.vlt_faults.proofs.judge.fault_in.Goals as goal

pub returns-in-Some-clause-first : goal.returns-in-Some-clause-first
returns-in-Some-clause-first c =
    let told = first_of_all (program_of c.args.p.now) (func_of c.args.f.now) _ c.in_ok-told_in.ensures.first c.in-Some.told c.in-Some.is in
    rw (c.fault_of.ensures.origin, c.fault_of.ensures.at, c.fault_of.ensures.tok, c.fault_of.ensures.kind) told

pub returns-in-None-clause-always : goal.returns-in-None-clause-always
returns-in-None-clause-always c = λ none. always_of_all (program_of c.args.p.now) (func_of c.args.f.now) _ c.in_ok-told_in.ensures.first c.in-None.is

pub returns-in-None-clause-none : goal.returns-in-None-clause-none
returns-in-None-clause-none c = λ none. none_of_all (program_of c.args.p.now) (func_of c.args.f.now) _ c.in_ok-told_in.ensures.first c.in-None.is
