use Rattle.std.proofs.Common.{◌≡◌, drop, map}
use Rattle.std.specs.List.{list_any}
use Rattle.vlt_core.specs.View as core_view
use Rattle.vlt_views.specs.Hidden as h
use Rattle.vlt_iface.specs.Texts.{texts_seen}
use Rattle.vlt_views.proofs.hidden.case_hides.Given as goal

abbrev pub invariant-loop-ty : goal.invariant-loop-ty
invariant-loop-ty l =
    h.case_hides (texts_seen l.names.keys) (map core_view.type_of l.types) (core_view.case_of l.case)
    ≡ list_any (h.hides (texts_seen l.names.keys) (map core_view.type_of l.types)) (map core_view.ty_of (drop l.ty-index l.case.payload))
