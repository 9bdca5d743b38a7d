use Rattle.vlt_core.specs.HeldView.{row_of}
use Rattle.vlt_keyset.specs.Held.{map_of}
use Rattle.vlt_flow_maps.proofs.Passing.{Going}
use Rattle.vlt_flow_maps.proofs.pass.pass_rows.Given as goal

abbrev pub invariant-loop-row : goal.invariant-loop-row
invariant-loop-row l = Going row_of l.rows (map_of l.initial.held) l.row-index (map_of l.held)
