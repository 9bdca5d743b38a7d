use Rattle.std.proofs.Common.{◌<◌, ◌≤◌, length, arith}
use Rattle.std.specs.Option.{option_map}
use Rattle.vlt_core.specs.FaultView.{choices_of}
use Rattle.vlt_witness.specs.Ways.{IsSeen, OnSeen}
use Rattle.vlt_witness.proofs.Showing.{no_pair, as_no_pair, no_pair_first, no_pair_more, no_pair_ends, pair_at}
use Rattle.vlt_witness.proofs.explain.pair.Goals as goal

pub loop-seen-init : goal.loop-seen-init
loop-seen-init c = no_pair_first (OnSeen c.args.present.now)

pub loop-seen-preserved : goal.loop-seen-preserved
loop-seen-preserved c =
    let lt : c.loop-seen.seen-index < length c.args.absent.now = omega arith in
    let none = as_no_pair (IsSeen c.seen-item.result) (OnSeen c.args.present.now) (rw c.in-None.is at c.in_ok-other.ensures) in
    no_pair_more c.args.absent.now c.loop-seen.seen-index c.seen-item.result (OnSeen c.args.present.now) lt c.seen-item.is none c.loop-seen.invariant

pub returns-in-Some : goal.returns-in-Some
returns-in-Some c =
    let lt : c.loop-seen.seen-index < length c.args.absent.now = omega arith in
    let found = rw c.in-Some.is at c.in_ok-other.ensures in
    pair_at c.args.absent.now c.loop-seen.seen-index c.seen-item.result (OnSeen c.args.present.now) (choices_of c.in-Some.found.first) (option_map choices_of c.in-Some.found.second) lt c.seen-item.is found

pub returns : goal.returns
returns c =
    let past : length c.args.absent.now ≤ c.loop-seen.seen-index = omega arith in
    no_pair (OnSeen c.args.absent.now) (OnSeen c.args.present.now) (no_pair_ends c.args.absent.now c.loop-seen.seen-index (OnSeen c.args.present.now) past c.loop-seen.invariant)
