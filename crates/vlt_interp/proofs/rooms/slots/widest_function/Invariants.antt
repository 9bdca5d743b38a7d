use Rattle.std.proofs.Common.{◌≡◌, max, map, drop}
use Rattle.vlt_core.specs.View.{program_of, func_of}
use Rattle.vlt_core.specs.Widths as widths
use Rattle.vlt_core.specs.Widths.{greatest, width_of}
use Rattle.vlt_interp.specs.Rooms.Sorts.{capped_count}
use Rattle.vlt_interp.proofs.rooms.slots.widest_function.Given as goal

abbrev pub invariant-loop-f : goal.invariant-loop-f
invariant-loop-f l =
    max l.most (capped_count (greatest (width_of (program_of l.p)) (map func_of (drop l.f-index l.f-items)))) ≡ capped_count (widths.widest_function (program_of l.p))
