use Rattle.vlt_core.specs.Instances.{instance}
use Rattle.vlt_core.specs.View.{program_of, func_of}
use Rattle.vlt_core_laws.specs.Sweep.{In}
use Rattle.vlt_faults.specs.Finding.Ones.{many_of}
use Rattle.vlt_rows.specs.FlowView.{block_view}
use Rattle.vlt_check.specs.Checks.{fault_of}
use Rattle.vlt_witness.specs.Unfit.{no_start}
use Rattle.vlt_witness.proofs.Large.{passed_on}
use Rattle.vlt_witness.proofs.Showing.{no_flow, paths_in_body}
use Rattle.vlt_witness.proofs.explain.paths_in.Goals as goal

pub returns : goal.returns
returns c =
    let p = program_of c.args.p.now in
    paths_in_body p (instance p (func_of c.args.f.now) c.args.fault.now.origin) (fault_of c.args.fault.now) (block_view c.in_ok-flow.flow) (In (many_of c.in_ok-ones.ones)) c.paths_of.result c.in_ok-flow.ensures c.in_ok-ones.ensures c.paths_of.ensures

pub returns-in_err-flow : goal.returns-in_err-flow
returns-in_err-flow c =
    let p = program_of c.args.p.now in
    passed_on _ _ _ c.from_residual.ensures.1 c.in_err-flow.ensures (no_flow p (instance p (func_of c.args.f.now) c.args.fault.now.origin))

pub returns-in_err-ones : goal.returns-in_err-ones
returns-in_err-ones c = passed_on _ _ _ c.from_residual-in_err-ones.ensures.1 c.in_err-ones.ensures (λ h. no_start h)
