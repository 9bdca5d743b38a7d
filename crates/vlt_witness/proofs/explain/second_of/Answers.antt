use Rattle.std.proofs.Common.{ap}
use Rattle.vlt_core.specs.FaultView.{choices_of}
use Rattle.vlt_witness.specs.Ways.{IsSeen, OnSeen}
use Rattle.vlt_witness.proofs.Showing.{no_pair, no_second, second_pair}
use Rattle.vlt_witness.proofs.explain.second_of.Goals as goal

pub returns-in-None : goal.returns-in-None
returns-in-None c =
    let none = rw c.in-None.is at c.in_ok-find.ensures in
    no_pair (IsSeen c.args.seen.now) (OnSeen c.args.present.now) (no_second c.args.seen.now c.args.join (OnSeen c.args.present.now) c.requires none)

pub returns-in_ok-first-in-Some : goal.returns-in_ok-first-in-Some
returns-in_ok-first-in-Some c =
    let other = rw c.in-Some.is at c.in_ok-find.ensures in
    let path = rw c.as_slice.ensures at (ap choices_of c.in_ok-first-in-Some.ensures) in
    second_pair c.args.seen.now c.args.join (OnSeen c.args.present.now) (choices_of c.in_ok-first-in-Some.first) (choices_of c.in-Some.second) c.requires path other
