use Rattle.std.proofs.Common.{[], ◌∷◌}
use Rattle.vlt_core.specs.View.{tok_of}
use Rattle.vlt_core.specs.Maps.{away_row}
use Rattle.vlt_rows.proofs.Looping.{Going}
use Rattle.vlt_rows.proofs.pieces.give_gone.Given as goal

abbrev pub invariant-loop-tok : goal.invariant-loop-tok
invariant-loop-tok g l = Going g.S.RowSink.takes g.S.RowSink.stops (λ t. away_row (tok_of t) ∷ []) (l.toks) l.fn.to l.tok-index l.to
