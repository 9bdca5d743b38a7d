use Rattle.std.proofs.Common.{sym, subst}
use Rattle.std.specs.Option.{option_map}
use Rattle.vlt_core.specs.View.{program_of}
use Rattle.vlt_core.specs.FaultView.{choices_of}
use Rattle.vlt_core.specs.Witness.{IsWitness}
use Rattle.vlt_check.specs.Checks.{fault_of}
use Rattle.vlt_check_laws.specs.Shown.{IsFault}
use Rattle.vlt_faults.proofs.OfJudge.Unfitting.{handed_unfit}
use Rattle.vlt_all_faults_lines.specs.Unfit.{unfit}
use Rattle.vlt_all_faults_lines.proofs.paths.paths_of.Goals as goal

pub witness_of-requires-clause-fault : goal.witness_of-requires-clause-fault
witness_of-requires-clause-fault c = subst (IsFault (program_of c.args.p.now)) (sym c.flow_fault.ensures) c.requires.fault

pub returns-clause-lines : goal.returns-clause-lines
returns-clause-lines c =
    let p = program_of c.args.p.now in
    let found = c.in_ok-found.found in
    let first = choices_of found.first in
    let second = option_map choices_of found.second in
    (first, second, subst (λ x. IsWitness p x first second) c.flow_fault.ensures c.in_ok-found.ensures.shows, c.in_ok-lines.ensures)

pub returns-in_err-found-clause-unfit : goal.returns-in_err-found-clause-unfit
returns-in_err-found-clause-unfit c = handed_unfit _ _ c.from_residual.ensures.1 (unfit (fault_of c.flow_fault.result)) c.in_err-found.ensures.unfit
