use Rattle.std.proofs.Common.{◌≡◌, ◌++◌, map, drop, codes}
use Rattle.std.specs.List.{flat_map}
use Rattle.vlt_core.specs.View.{program_of, func_of}
use Rattle.vlt_core.specs.FaultView.{choice_of}
use Rattle.vlt_reports.specs.Reports.{choice_text}
use Rattle.vlt_reports.proofs.paths.path.Given as goal

abbrev pub invariant-loop-choice : goal.invariant-loop-choice
invariant-loop-choice l =
    l.out.items ++ flat_map (choice_text l.text (program_of l.p) (func_of l.f)) (map choice_of (drop l.choice-index l.choices))
    ≡ codes "path" ++ l.instance ++ flat_map (choice_text l.text (program_of l.p) (func_of l.f)) (map choice_of l.choices)
