use Rattle.std.proofs.Common.{sym}
use Rattle.vlt_core.specs.View.{program_of, func_of}
use Rattle.vlt_check.specs.Checks.{fault_of}
use Rattle.vlt_witness.proofs.Showing.{some_witness, none_witness, unfit_witness, no_func}
use Rattle.vlt_witness.proofs.explain.paths_for.Goals as goal

pub returns-in-None-clause-none : goal.returns-in-None-clause-none
returns-in-None-clause-none c = λ e.
    let there = rw c.in-None.is at c.func_at.ensures in
    no_func (program_of c.args.p.now) (fault_of c.args.fault.now) there

pub returns-in-Some-clause-shows : goal.returns-in-Some-clause-shows
returns-in-Some-clause-shows c =
    let there = rw c.in-Some.is at c.func_at.ensures in
    some_witness (program_of c.args.p.now) (func_of c.in-Some.f.now) (fault_of c.args.fault.now) (sym there) c.paths_at.result c.paths_at.ensures

pub returns-in-Some-clause-none : goal.returns-in-Some-clause-none
returns-in-Some-clause-none c =
    let there = rw c.in-Some.is at c.func_at.ensures in
    none_witness (program_of c.args.p.now) (func_of c.in-Some.f.now) (fault_of c.args.fault.now) (sym there) c.paths_at.result c.paths_at.ensures

pub returns-in-Some-clause-unfit : goal.returns-in-Some-clause-unfit
returns-in-Some-clause-unfit c =
    let there = rw c.in-Some.is at c.func_at.ensures in
    unfit_witness (program_of c.args.p.now) (func_of c.in-Some.f.now) (fault_of c.args.fault.now) (sym there) c.paths_at.result c.paths_at.ensures
