use Rattle.std.proofs.Common.{◌≡◌, max, map, drop}
use Rattle.vlt_core.specs.View.{program_of, type_of}
use Rattle.vlt_core.specs.Widths.{greatest}
use Rattle.vlt_interp.specs.Rooms.Sorts.{parts_in_type}
use Rattle.vlt_interp.proofs.rooms.parts.parts_in_types.Given as goal

abbrev pub invariant-loop-t : goal.invariant-loop-t
invariant-loop-t l =
    max l.most (greatest (parts_in_type (program_of l.p)) (map type_of (drop l.t-index l.t-items))) ≡ greatest (parts_in_type (program_of l.p)) (program_of l.p).types
