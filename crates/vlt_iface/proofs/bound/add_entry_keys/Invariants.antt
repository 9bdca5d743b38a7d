use Rattle.std.proofs.Common.{◌≡◌, ◌++◌, drop, map}
use Rattle.vlt_syntax.specs.View as view
use Rattle.vlt_iface.specs.Clash as c
use Rattle.vlt_iface.specs.Texts.{texts_of, texts_seen}
use Rattle.vlt_iface.proofs.bound.add_entry_keys.Given as goal

abbrev pub invariant-loop-entry : goal.invariant-loop-entry
invariant-loop-entry l =
    texts_seen l.texts ++ texts_of (map c.entry_key (map view.entry_of (drop l.entry-index l.entries))) ≡
    texts_seen l.initial.texts ++ texts_of (map c.entry_key (map view.entry_of l.entries))
