use Rattle.std.proofs.Common.{ap}
use Rattle.vlt_core.specs.HeldView.{wanted_of}
use Rattle.vlt_core.specs.FaultView.{kind_of}
use Rattle.vlt_core_laws.specs.Sweep.{In}
use Rattle.vlt_faults.specs.Finding.Ones.{many_of}
use Rattle.vlt_rows.specs.FlowView.{block_view}
use Rattle.vlt_check.specs.Checks.{fault_of}
use Rattle.vlt_witness.proofs.Showing.{row_fault, join_fault}
use Rattle.vlt_witness.proofs.explain.paths_of.Goals as goal

pub returns-in-Row : goal.returns-in-Row
returns-in-Row c = row_fault (block_view c.args.body.now) (In (many_of c.args.ones)) (fault_of c.args.fault.now) c.row_paths.result _ _ (wanted_of c.in-Row.wanted) (ap kind_of c.in-Row.is) c.row_paths.ensures

pub returns-in-Join : goal.returns-in-Join
returns-in-Join c = join_fault (block_view c.args.body.now) (In (many_of c.args.ones)) (fault_of c.args.fault.now) c.join_paths.result _ _ (ap kind_of c.in-Join.is) c.join_paths.ensures
