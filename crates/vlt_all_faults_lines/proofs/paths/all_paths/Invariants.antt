use Rattle.std.specs.Prelude.{◌≡◌, ℕ}
use Rattle.vlt_core.specs.Core.{Name}
use Rattle.vlt_core.specs.View.{program_of, func_of}
use Rattle.vlt_reports.specs.Placed.{IsPlace}
use Rattle.vlt_all_faults_lines.specs.Lines.{IsShown, AreNamesBy}
use Rattle.vlt_all_faults_lines.proofs.Telling.{Telling}
use Rattle.vlt_all_faults_lines.proofs.paths.all_paths.Given as goal

abbrev pub invariant-loop-f : goal.invariant-loop-f
invariant-loop-f l =
    IsPlace l.text l.place × (l.number ≡ l.f-index) ×
    ((variable : ℕ → Name) → AreNamesBy l.variables variable →
    Telling func_of (λ n f. IsShown l.text (program_of l.p) (variable n) n f) (program_of l.p) l.p.fns l.f-index l.out.items l.count)
