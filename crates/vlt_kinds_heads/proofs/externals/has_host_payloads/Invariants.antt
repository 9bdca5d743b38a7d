use Rattle.std.proofs.Common.{◌≡◌, drop, map}
use Rattle.std.specs.List.{list_all}
use Rattle.vlt_syntax.specs.View as view
use Rattle.vlt_core.specs.View as core_view
use Rattle.vlt_kinds_heads.specs.Places as p
use Rattle.vlt_kinds_heads.specs.Keys as k
use Rattle.vlt_kinds_heads.specs.Heads as h
use Rattle.vlt_kinds_heads.specs.Externals as e
use Rattle.vlt_kinds_heads.specs.Phase as q
use Rattle.vlt_kinds_heads.proofs.externals.has_host_payloads.Given as goal

abbrev pub invariant-loop-case : goal.invariant-loop-case
invariant-loop-case l =
    list_all (e.has_host_payload (map core_view.type_of l.types)) (map core_view.case_of l.cases)
    ≡ list_all (e.has_host_payload (map core_view.type_of l.types)) (map core_view.case_of (drop l.case-index l.cases))
