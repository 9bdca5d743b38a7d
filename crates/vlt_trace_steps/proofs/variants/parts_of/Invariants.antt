use Rattle.std.proofs.Common.{◌≡◌, ◌++◌, Ok, map, drop}
use Rattle.vlt_meaning.specs.Found.{◌>>=◌}
use Rattle.vlt_meaning.specs.Operands.{parts_of}
use Rattle.vlt_trace_worlds.specs.View.{value_view, part_view}
use Rattle.vlt_trace_steps.proofs.variants.parts_of.Given as goal

abbrev pub invariant-loop-a : goal.invariant-loop-a
invariant-loop-a l =
    (parts_of (map value_view (drop l.a-index l.values)) >>= (λ rest. Ok (map part_view l.parts ++ rest)))
    ≡ parts_of (map value_view l.values)
