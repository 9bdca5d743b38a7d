use Rattle.std.proofs.Common.{◌≡◌, ◌++◌, drop, map}
use Rattle.vlt_syntax.specs.View as view
use Rattle.vlt_iface.specs.Texts.{texts_of, texts_seen}
use Rattle.vlt_iface.proofs.bound.add_header.Given as goal

abbrev pub invariant-loop-param : goal.invariant-loop-param
invariant-loop-param l =
    texts_seen l.texts ++ texts_of (map (λ p. p.key) (map view.header_key_of (drop l.param-index l.params))) ≡
    texts_seen l.initial.texts ++ texts_of (map (λ p. p.key) (map view.header_key_of l.params))
