use Rattle.std.proofs.Common.{◌≡◌, take}
use Rattle.std.specs.List.{sum_by}
use Rattle.vlt_core.specs.View.{program_of, var_of}
use Rattle.vlt_core.specs.Widths.{slots_of}
use Rattle.vlt_interp.specs.Rooms.Sorts.{capped_count}
use Rattle.vlt_interp.proofs.rooms.slots.var_slots.Given as goal

abbrev pub invariant-loop-d : goal.invariant-loop-d
invariant-loop-d l = l.n ≡ capped_count (sum_by (λ d. slots_of (program_of l.p) (var_of d).ty) (take l.d-index l.vars))
