use Rattle.std.proofs.Common.{◌≡◌, ◌++◌, map, drop}
use Rattle.std.specs.List.{flat_map}
use Rattle.vlt_core.specs.View.{program_of, func_of}
use Rattle.vlt_reports.specs.Placed.{IsPlace}
use Rattle.vlt_all_faults.specs.Tokens.{finding_of}
use Rattle.vlt_all_faults_lines.specs.Lines.{finding_line}
use Rattle.vlt_all_faults_lines.proofs.faults.add_faults.Given as goal

abbrev pub invariant-loop-told : goal.invariant-loop-told
invariant-loop-told l =
    IsPlace l.text l.place ×
    (l.out.items ++ flat_map (finding_line l.text (program_of l.p) (func_of l.f)) (map finding_of (drop l.told-index l.list))
    ≡ l.initial.out.items ++ flat_map (finding_line l.text (program_of l.p) (func_of l.f)) (map finding_of l.list))
