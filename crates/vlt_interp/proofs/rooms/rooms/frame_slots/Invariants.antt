use Rattle.std.proofs.Common.{◌≡◌, max, map, drop}
use Rattle.vlt_core.specs.View.{program_of, func_of}
use Rattle.vlt_core.specs.Widths.{greatest}
use Rattle.vlt_interp.specs.Tasks.Sizes as sizes
use Rattle.vlt_acts.specs.Frames.Frames.{frame_end}
use Rattle.vlt_interp.proofs.rooms.rooms.frame_slots.Given as goal

abbrev pub invariant-loop-f : goal.invariant-loop-f
invariant-loop-f l = max l.most (greatest (frame_end l.width 0) (map func_of (drop l.f-index l.f-items))) ≡ sizes.frame_slots (program_of l.p) l.width
