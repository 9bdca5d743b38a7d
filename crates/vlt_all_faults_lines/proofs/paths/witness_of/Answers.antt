use Rattle.vlt_core.specs.View.{program_of}
use Rattle.vlt_check.specs.Checks.{fault_of}
use Rattle.vlt_all_faults_lines.proofs.paths.witness_of.Goals as goal

pub unreachable-requires : goal.unreachable-requires
unreachable-requires c =
    let p = program_of c.args.p.now in
    let x = fault_of c.args.fault in
    c.in_ok-found.ensures.none c.in-None.is (c.faults_have_witnesses.ensures p x c.requires.well_formed c.requires.fault)
