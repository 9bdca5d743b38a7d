use Rattle.std.proofs.Common.{◌<◌, arith, length}
use Rattle.std.proofs.lemmas.List.{get_or_default}
use Rattle.vlt_core.specs.View.{program_of, func_of}
use Rattle.cert_check.specs.Notes.{plain_notes}
use Rattle.cert_check.proofs.Instances.{testing_first, testing_more, testing_stops, testing_ends, testing_none}
use Rattle.cert_check.proofs.whole.test_instances.Goals as goal

pub loop-i-init : goal.loop-i-init
loop-i-init c = testing_first (program_of c.args.p.now) (func_of c.args.f.now) (plain_notes c.args.notes.now) c.args.list.now c.requires

pub loop-i-preserved : goal.loop-i-preserved
loop-i-preserved c =
    let lt : c.loop-i.i < length c.args.list.now = omega arith in
    testing_more (program_of c.args.p.now) (func_of c.args.f.now) (plain_notes c.args.notes.now) c.args.list.now _ _ _ lt (get_or_default _ _ _ _ lt) c.loop-i.invariant _ c.in_ok-test_body.ensures

pub returns-in_err-test_body : goal.returns-in_err-test_body
returns-in_err-test_body c =
    let lt : c.loop-i.i < length c.args.list.now = omega arith in
    testing_stops (program_of c.args.p.now) (func_of c.args.f.now) (plain_notes c.args.notes.now) c.args.list.now _ _ _ lt (get_or_default _ _ _ _ lt) c.loop-i.invariant _ _ _ _
    c.from_residual.ensures.1 c.in_err-test_body.was c.test_body.ensures

pub returns-in-Some : goal.returns-in-Some
returns-in-Some c = testing_ends (program_of c.args.p.now) (func_of c.args.f.now) (plain_notes c.args.notes.now) c.args.list.now _ _ _ (omega arith) c.in-Some.is c.loop-i.invariant

pub returns-in-None : goal.returns-in-None
returns-in-None c = record {
  outcome = testing_none (program_of c.args.p.now) (func_of c.args.f.now) (plain_notes c.args.notes.now) c.args.list.now _ _ (omega arith) c.in-None.is c.loop-i.invariant;
}
