use Rattle.vlt_core.specs.HeldView.{row_of}
use Rattle.vlt_keyset.specs.Held.{map_of}
use Rattle.cert_check.proofs.Rowing.{Rowing}
use Rattle.cert_check.proofs.passing.pass_rows.Given as goal

abbrev pub invariant-loop-row : goal.invariant-loop-row
invariant-loop-row l = Rowing row_of l.statement l.rows (map_of l.initial.held) l.row-index (map_of l.held)
