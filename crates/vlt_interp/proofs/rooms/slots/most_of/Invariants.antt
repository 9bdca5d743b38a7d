use Rattle.std.proofs.Common.{◌≡◌, max, map, drop}
use Rattle.std.specs.List.{count_by}
use Rattle.vlt_core.specs.View.{case_of}
use Rattle.vlt_core.specs.Widths.{greatest}
use Rattle.vlt_interp.specs.Rooms.Sorts.{is_of}
use Rattle.vlt_interp.proofs.rooms.slots.most_of.Given as goal

abbrev pub invariant-loop-c : goal.invariant-loop-c
invariant-loop-c l =
    max l.most (greatest (λ c. count_by (is_of l.sort) c.payload) (map case_of (drop l.c-index l.cases))) ≡ greatest (λ c. count_by (is_of l.sort) c.payload) (map case_of l.cases)
