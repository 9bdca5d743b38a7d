use Rattle.std.proofs.Common.{◌≡◌, drop, map}
use Rattle.vlt_syntax.specs.View as view
use Rattle.vlt_core.specs.View as core_view
use Rattle.vlt_kinds_types.specs.Names.Along.{found_along}
use Rattle.vlt_kinds_heads.specs.Places as p
use Rattle.vlt_kinds_heads.specs.Keys as k
use Rattle.vlt_kinds_heads.specs.Heads as h
use Rattle.vlt_kinds_heads.specs.Externals as e
use Rattle.vlt_kinds_heads.specs.Phase as q
use Rattle.vlt_kinds_heads.specs.Seen.{keys_seen}
use Rattle.vlt_kinds_heads.proofs.keys.HeadKeys.check_case_arguments.Given as goal

abbrev pub invariant-loop-i : goal.invariant-loop-i
invariant-loop-i l =
    found_along e.next_position (e.case_argument_refused (keys_seen l.self) (map core_view.case_of l.cases)) l.i (view.names_of (drop l.i l.args)) l.found.least
    ≡ found_along e.next_position (e.case_argument_refused (keys_seen l.self) (map core_view.case_of l.cases)) 0 (view.names_of l.args) l.initial.found.least
