use Rattle.vlt_faults.specs.Finding.Ones.{many_of}
use Rattle.vlt_core_laws.specs.Sweep.{In}
use Rattle.vlt_rows.specs.FlowView.{block_view}
use Rattle.vlt_witness.proofs.Showing.{join_given}
use Rattle.vlt_witness.proofs.explain.join_paths.Goals as goal

pub returns : goal.returns
returns c =
    let pair = rw (c.as_slice.ensures, c.as_slice-2.ensures) at c.in_ok-pair.ensures in
    join_given c.args.tok c.args.at (block_view c.args.body.now) (In (many_of c.args.ones)) c.in_ok-first.first c.in_ok-second.second c.in_ok-pair.field-0 c.in_ok-first.ensures c.in_ok-second.ensures pair
