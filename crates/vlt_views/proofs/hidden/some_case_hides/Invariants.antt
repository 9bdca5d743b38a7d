use Rattle.std.proofs.Common.{◌≡◌, drop, map}
use Rattle.std.specs.List.{list_any}
use Rattle.vlt_core.specs.View as core_view
use Rattle.vlt_views.specs.Hidden as h
use Rattle.vlt_iface.specs.Texts.{texts_seen}
use Rattle.vlt_views.proofs.hidden.some_case_hides.Given as goal

abbrev pub invariant-loop-case : goal.invariant-loop-case
invariant-loop-case l =
    list_any (h.case_hides (texts_seen l.names.keys) (map core_view.type_of l.types)) (map core_view.case_of l.cases)
    ≡ list_any (h.case_hides (texts_seen l.names.keys) (map core_view.type_of l.types)) (map core_view.case_of (drop l.case-index l.cases))
