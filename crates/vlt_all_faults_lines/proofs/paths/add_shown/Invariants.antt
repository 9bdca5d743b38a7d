use Rattle.std.proofs.Common.{map, drop}
use Rattle.vlt_core.specs.View.{program_of, func_of}
use Rattle.vlt_reports.specs.Placed.{IsPlace}
use Rattle.vlt_all_faults.specs.Tokens.{finding_of}
use Rattle.vlt_all_faults_lines.specs.Lines.{IsShown}
use Rattle.vlt_all_faults_lines.specs.Steps.{AreFaultsAt}
use Rattle.vlt_all_faults_lines.proofs.Lists.{Writing}
use Rattle.vlt_all_faults_lines.proofs.paths.add_shown.Given as goal

abbrev pub invariant-loop-told : goal.invariant-loop-told
invariant-loop-told l =
    IsPlace l.text l.place × AreFaultsAt (program_of l.p) l.function.fn_id.0 (map finding_of (drop l.told-index l.list)) ×
    Writing finding_of (IsShown l.text (program_of l.p) l.function.variable.now l.function.fn_id.0 (func_of l.function.f.now)) l.list l.told-index l.initial.out.items l.out.items
