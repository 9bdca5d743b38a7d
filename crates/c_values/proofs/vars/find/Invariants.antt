use Rattle.std.proofs.Common.{◌≡◌, ◌+◌, drop}
use Rattle.std.specs.Option.{option_map}
use Rattle.c_values.specs.Places.{place_in}
use Rattle.c_values.proofs.vars.find.Given as goal

abbrev pub invariant-loop-i : goal.invariant-loop-i
invariant-loop-i l = place_in l.names l.v ≡ option_map (λ k. l.i + k) (place_in (drop l.i l.names) l.v)
