use Rattle.vlt_core.specs.View.{program_of, func_of}
use Rattle.vlt_reports.specs.Placed.{IsPlace}
use Rattle.vlt_all_faults_lines.proofs.Telling.{Telling, IsLine}
use Rattle.vlt_all_faults_lines.proofs.faults.all_faults.Given as goal

abbrev pub invariant-loop-f : goal.invariant-loop-f
invariant-loop-f l =
    IsPlace l.text l.place × Telling func_of (IsLine l.text (program_of l.p)) (program_of l.p) l.p.fns l.f-index l.out.items l.count
