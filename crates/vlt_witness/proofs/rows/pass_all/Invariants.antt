use Rattle.std.proofs.Common.{take}
use Rattle.vlt_core.specs.View.{tok_of}
use Rattle.vlt_rows.specs.FlowView.{rows_view}
use Rattle.vlt_witness.specs.Ways.{On, OnSeen, nothing_found}
use Rattle.vlt_witness.specs.Search.{Walks, Sees, Passes}
use Rattle.vlt_witness.specs.Aims.{RowsHere}
use Rattle.vlt_witness.proofs.rows.pass_all.Given as goal

abbrev pub invariant-loop-way : goal.invariant-loop-way
invariant-loop-way l = record {
  walks : Walks (Passes (tok_of l.aim.tok) (rows_view l.rows)) (On (take l.way-index l.ways)) nothing_found (On l.list);
  sees : Sees (RowsHere l.aim l.at (rows_view l.rows)) (On (take l.way-index l.ways)) (OnSeen l.fn.met) (OnSeen l.met);
}
