use Rattle.std.proofs.Common.{◌≡◌, ◌++◌, drop}
use Rattle.vlt_syntax.specs.View as view
use Rattle.vlt_iface.specs.Texts.{texts_of, texts_seen}
use Rattle.vlt_iface.proofs.bound.add_names.Given as goal

abbrev pub invariant-loop-name : goal.invariant-loop-name
invariant-loop-name l =
    texts_seen l.texts ++ texts_of (view.names_of (drop l.name-index l.names)) ≡
    texts_seen l.initial.texts ++ texts_of (view.names_of l.names)
