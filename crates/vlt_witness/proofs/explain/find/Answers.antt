use Rattle.std.proofs.Common.{rules, ◌<◌, ◌≤◌, IsTrue, false, length, arith, ap, subst}
use Rattle.vlt_core.specs.FaultView.{choices_of}
use Rattle.vlt_witness.specs.Ways.{end_of_join}
use Rattle.vlt_witness.proofs.Showing.{none_more, found_at, none_at_all}
use Rattle.vlt_witness.proofs.explain.find.Goals as goal

not_true : IsTrue false → ⊥
not_true h = search rules

pub loop-seen-init : goal.loop-seen-init
loop-seen-init c = record { none = λ f cs p. p }

pub loop-seen-preserved : goal.loop-seen-preserved
loop-seen-preserved c =
    let lt : c.loop-seen.seen-index < length c.args.list.now = omega arith in
    record { none = none_more c.args.list.now c.loop-seen.seen-index c.seen-item.result (end_of_join c.args.join) lt c.seen-item.is (λ e. not_true (subst IsTrue (search rules) (c.is_same_join.ensures.1 e))) c.loop-seen.invariant.none }

pub returns-then-is_same_join : goal.returns-then-is_same_join
returns-then-is_same_join c =
    let lt : c.loop-seen.seen-index < length c.args.list.now = omega arith in
    let path = rw c.as_slice.ensures at c.in_ok-path.ensures in
    found_at c.args.list.now c.loop-seen.seen-index c.seen-item.result (end_of_join c.args.join) (choices_of c.in_ok-path.path) lt c.seen-item.is (c.is_same_join.ensures.0 (search rules)) (ap choices_of path)

pub returns : goal.returns
returns c =
    let past : length c.args.list.now ≤ c.loop-seen.seen-index = omega arith in
    none_at_all c.args.list.now c.loop-seen.seen-index (end_of_join c.args.join) past c.loop-seen.invariant.none
