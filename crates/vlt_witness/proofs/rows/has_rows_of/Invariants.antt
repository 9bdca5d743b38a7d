use Rattle.std.proofs.Common.{drop}
use Rattle.vlt_core.specs.View.{tok_of}
use Rattle.vlt_rows.specs.FlowView.{rows_view}
use Rattle.vlt_witness.specs.Aims.{HasNoRow}
use Rattle.vlt_witness.proofs.rows.has_rows_of.Given as goal

-- no row so far is one of the token
abbrev pub invariant-loop-row : goal.invariant-loop-row
invariant-loop-row l = record { so_far : HasNoRow (tok_of l.tok) (rows_view (drop l.row-index l.rows)) → HasNoRow (tok_of l.tok) (rows_view l.rows) }
