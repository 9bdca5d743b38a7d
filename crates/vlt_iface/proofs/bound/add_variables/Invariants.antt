use Rattle.std.proofs.Common.{◌≡◌, ◌++◌, drop, map}
use Rattle.std.specs.List.{flat_map}
use Rattle.vlt_syntax.specs.View as view
use Rattle.vlt_iface.specs.Texts.{texts_seen, variable_texts}
use Rattle.vlt_iface.proofs.bound.add_variables.Given as goal

abbrev pub invariant-loop-entry : goal.invariant-loop-entry
invariant-loop-entry l =
    texts_seen l.texts ++ flat_map variable_texts (map view.entry_of (drop l.entry-index l.entries)) ≡
    texts_seen l.initial.texts ++ flat_map variable_texts (map view.entry_of l.entries)
