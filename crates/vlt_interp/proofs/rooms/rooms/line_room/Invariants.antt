use Rattle.std.proofs.Common.{◌≡◌, max, map, drop}
use Rattle.vlt_core.specs.View.{program_of, func_of}
use Rattle.vlt_core.specs.Widths.{greatest}
use Rattle.vlt_interp.specs.Tasks.Sizes.{line_length}
use Rattle.vlt_interp.proofs.rooms.rooms.line_room.Given as goal

abbrev pub invariant-loop-f : goal.invariant-loop-f
invariant-loop-f l = max l.most (greatest line_length (map func_of (drop l.f-index l.f-items))) ≡ greatest line_length (program_of l.p).fns
