use Rattle.std.proofs.Common.{◌≡◌, ℕ, ◌||◌, List, drop}
use Rattle.vlt_iface.specs.Texts.{texts_seen, has_text}
use Rattle.vlt_iface_views.proofs.clash.set_of.Given as goal

abbrev pub invariant-loop-text : goal.invariant-loop-text
invariant-loop-text l =
    (n : List ℕ) → (has_text (texts_seen l.set.keys) n || has_text (texts_seen (drop l.text-index l.texts)) n) ≡ has_text (texts_seen l.texts) n
