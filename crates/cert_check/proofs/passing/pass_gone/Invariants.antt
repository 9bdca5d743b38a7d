use Rattle.vlt_core.specs.View.{tok_of}
use Rattle.vlt_core.specs.Maps.{away_row}
use Rattle.vlt_keyset.specs.Held.{map_of}
use Rattle.cert_check.proofs.Rowing.{Rowing}
use Rattle.cert_check.proofs.passing.pass_gone.Given as goal

abbrev pub invariant-loop-tok : goal.invariant-loop-tok
invariant-loop-tok l = Rowing (λ t. away_row (tok_of t)) l.statement l.toks (map_of l.initial.held) l.tok-index (map_of l.held)
