use Rattle.std.proofs.Common.{◌≡◌, max, map, drop}
use Rattle.vlt_core.specs.View.{case_of}
use Rattle.vlt_core.specs.Widths.{greatest}
use Rattle.vlt_interp.specs.Tasks.Sizes.{case_parts}
use Rattle.vlt_interp.proofs.rooms.parts.most_parts.Given as goal

abbrev pub invariant-loop-c : goal.invariant-loop-c
invariant-loop-c l =
    max l.most (greatest case_parts (map case_of (drop l.c-index l.cases))) ≡ greatest case_parts (map case_of l.cases)
