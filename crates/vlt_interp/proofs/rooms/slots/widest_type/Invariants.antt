use Rattle.std.proofs.Common.{◌≡◌, max, map, drop}
use Rattle.vlt_core.specs.View.{program_of, type_of}
use Rattle.vlt_core.specs.Widths.{greatest}
use Rattle.vlt_interp.specs.Rooms.Sorts.{capped_count, cells_in}
use Rattle.vlt_interp.proofs.rooms.slots.widest_type.Given as goal

abbrev pub invariant-loop-t : goal.invariant-loop-t
invariant-loop-t l =
    max l.most (capped_count (greatest (cells_in (program_of l.p)) (map type_of (drop l.t-index l.t-items)))) ≡ capped_count (greatest (cells_in (program_of l.p)) (program_of l.p).types)
