use Rattle.vlt_core.specs.View.{tok_of}
use Rattle.vlt_core.specs.Maps.{away_row}
use Rattle.vlt_keyset.specs.Held.{map_of}
use Rattle.vlt_flow_maps.proofs.Passing.{Going}
use Rattle.vlt_flow_maps.proofs.pass.pass_gone.Given as goal

abbrev pub invariant-loop-tok : goal.invariant-loop-tok
invariant-loop-tok l = Going (λ t. away_row (tok_of t)) l.toks (map_of l.initial.held) l.tok-index (map_of l.held)
