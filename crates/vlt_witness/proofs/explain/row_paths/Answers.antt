use Rattle.vlt_core.specs.FaultView.{choices_of}
use Rattle.vlt_faults.specs.Finding.Ones.{many_of}
use Rattle.vlt_core_laws.specs.Sweep.{In}
use Rattle.vlt_rows.specs.FlowView.{block_view}
use Rattle.vlt_witness.proofs.Showing.{row_shown, row_unshown}
use Rattle.vlt_witness.proofs.explain.row_paths.Goals as goal

pub returns-in-None : goal.returns-in-None
returns-in-None c =
    let none = rw (c.as_slice.ensures, c.in-None.is) at c.in_ok-find.ensures in
    row_unshown c.args.tok c.args.at c.args.wanted (block_view c.args.body.now) (In (many_of c.args.ones)) c.in_ok-list.list c.in_ok-list.ensures none

pub returns : goal.returns
returns c =
    let some = rw (c.as_slice.ensures, c.in-Some.is) at c.in_ok-find.ensures in
    row_shown c.args.tok c.args.at c.args.wanted (block_view c.args.body.now) (In (many_of c.args.ones)) c.in_ok-list.list (choices_of c.in-Some.first) c.in_ok-list.ensures some
