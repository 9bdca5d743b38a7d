use Rattle.std.proofs.Common.{◌≡◌, max, map, drop}
use Rattle.vlt_core.specs.View.{program_of, var_of}
use Rattle.vlt_core.specs.Widths.{greatest}
use Rattle.vlt_interp.specs.Tasks.Sizes.{parts_of}
use Rattle.vlt_interp.proofs.rooms.parts.var_parts.Given as goal

abbrev pub invariant-loop-d : goal.invariant-loop-d
invariant-loop-d l =
    max l.most (greatest (λ d. parts_of (program_of l.p) d.ty) (map var_of (drop l.d-index l.vars))) ≡ greatest (λ d. parts_of (program_of l.p) d.ty) (map var_of l.vars)
