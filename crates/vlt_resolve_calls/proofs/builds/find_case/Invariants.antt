use Rattle.std.proofs.Common.{◌≡◌, map, drop}
use Rattle.std.specs.List.{position, position_from}
use Rattle.std.specs.Str.{bytes_eq}
use Rattle.vlt_core.specs.View.{case_of}
use Rattle.vlt_resolve_calls.proofs.builds.find_case.Given as goal

abbrev pub invariant-loop-i : goal.invariant-loop-i
invariant-loop-i l =
    position (λ d. bytes_eq l.name d.name) (map case_of l.cases)
    ≡ position_from (λ d. bytes_eq l.name d.name) l.i (map case_of (drop l.i l.cases))
