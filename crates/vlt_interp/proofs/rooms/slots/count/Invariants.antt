use Rattle.std.proofs.Common.{◌≡◌, ◌≤◌, take}
use Rattle.std.specs.List.{count_by}
use Rattle.vlt_core.specs.View.{ty_of}
use Rattle.vlt_interp.specs.Rooms.Sorts.{is_of}
use Rattle.vlt_interp.proofs.rooms.slots.count.Given as goal

abbrev pub invariant-loop-t : goal.invariant-loop-t
invariant-loop-t l = record {
  is : l.n ≡ count_by (λ t. is_of l.sort (ty_of t)) (take l.t-index l.payload);
  few : l.n ≤ l.t-index;
}
