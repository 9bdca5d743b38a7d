use Rattle.std.proofs.Common.{◌≡◌, ◌+◌, drop, map}
use Rattle.std.specs.Option.{option_map}
use Rattle.c_syntax.specs.View.{func_of}
use Rattle.c_interp.specs.Finding.{position_of}
use Rattle.c_interp.proofs.rules.position.Given as goal

abbrev pub invariant-loop-i : goal.invariant-loop-i
invariant-loop-i l = position_of (map func_of l.fns) l.number ≡ option_map (λ k. l.i + k) (position_of (map func_of (drop l.i l.fns)) l.number)
