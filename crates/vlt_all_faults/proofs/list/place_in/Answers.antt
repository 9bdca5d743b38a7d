use Rattle.std.proofs.Common.{◌<◌, ◌≤◌, ◌+◌, length, arith, ap, sym, subst}
use Rattle.vlt_all_faults.specs.Tokens.{finding_of, findings_of}
use Rattle.vlt_all_faults_laws.specs.Listing.{IsPlace}
use Rattle.vlt_all_faults.proofs.Lists.{placing_first, placing_more, placing_here, placing_ends}
use Rattle.vlt_all_faults.proofs.list.place_in.Goals as goal

pub returns-then-not-is_no_later-clause-place : goal.returns-then-not-is_no_later-clause-place
returns-then-not-is_no_later-clause-place c =
    let lt : c.loop-other.other-index < length c.args.list.now = omega (arith, c.loop-other-test.true) in
    subst (IsPlace (finding_of c.args.fault) (findings_of c.args.list.now)) (sym c.loop-other.invariant.0)
    (placing_here _ _ _ c.other-item.result lt c.other-item.is c.if-not-is_no_later.ensures.order c.loop-other.invariant.1)

pub loop-other-preserved : goal.loop-other-preserved
loop-other-preserved c =
    let lt : c.loop-other.other-index < length c.args.list.now = omega (arith, c.loop-other-test.true) in
    (ap (λ n. n + 1) c.loop-other.invariant.0, placing_more _ _ _ c.other-item.result lt c.other-item.is c.if-not-is_no_later.ensures.order c.loop-other.invariant.1)

pub returns-clause-place : goal.returns-clause-place
returns-clause-place c =
    subst (IsPlace (finding_of c.args.fault) (findings_of c.args.list.now)) (sym c.loop-other.invariant.0)
    (placing_ends _ _ _ (omega (arith, c.loop-other-test.false)) c.loop-other.invariant.1)
