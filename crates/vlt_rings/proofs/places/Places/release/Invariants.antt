use Rattle.std.proofs.Common.{◌≡◌, ℕ}
use Rattle.vlt_rings.specs.Places.{IsSound, IsSameBut}
use Rattle.vlt_rings.specs.Things.{Thing, Things, IsAt, Hold}
use Rattle.vlt_rings.proofs.Sounds.{Going, weight}
use Rattle.vlt_rings.proofs.places.Places.release.Given as goal

abbrev pub invariant-loop-doomed : goal.invariant-loop-doomed
invariant-loop-doomed l = record {
  sound : IsSound l.self;
  same : IsSameBut l.fn.self l.self;
  things : (ts : Things) (n : ℕ) (t : Thing) → Hold l.fn.self.places.items ts → IsAt ts n t → t.place ≡ l.fn.c → Going ts n l.self.places.items;
}

abbrev pub decreases-loop-doomed : goal.decreases-loop-doomed
decreases-loop-doomed l = weight l.self.places.items
