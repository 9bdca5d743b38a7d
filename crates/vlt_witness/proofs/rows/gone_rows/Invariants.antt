use Rattle.std.proofs.Common.{◌≡◌, ◌++◌, drop, map}
use Rattle.vlt_core.specs.Maps.{away_row}
use Rattle.vlt_core.specs.HeldView.{toks_of}
use Rattle.vlt_rows.specs.FlowView.{rows_view}
use Rattle.vlt_witness.proofs.rows.gone_rows.Given as goal

abbrev pub invariant-loop-tok : goal.invariant-loop-tok
invariant-loop-tok l = record { so_far : rows_view l.rows ++ map away_row (toks_of (drop l.tok-index l.toks)) ≡ map away_row (toks_of l.toks) }
