use Rattle.std.proofs.Common.{◌≡◌, max, map, drop}
use Rattle.vlt_core.specs.View.{program_of, func_of}
use Rattle.vlt_core.specs.Widths.{greatest}
use Rattle.vlt_interp.specs.Rooms.Sorts.{parts_in_result}
use Rattle.vlt_interp.proofs.rooms.parts.parts_in_results.Given as goal

abbrev pub invariant-loop-f : goal.invariant-loop-f
invariant-loop-f l =
    max l.most (greatest (parts_in_result (program_of l.p)) (map func_of (drop l.f-index l.f-items))) ≡ greatest (parts_in_result (program_of l.p)) (program_of l.p).fns
