use Rattle.std.proofs.Common.{◌≡◌, drop, map}
use Rattle.vlt_syntax.specs.View as view
use Rattle.vlt_kinds_types.specs.Files as f
use Rattle.vlt_kinds_types.proofs.tables.state_texts.Given as goal

abbrev pub invariant-loop-state : goal.invariant-loop-state
invariant-loop-state l =
    f.texts_after (map (λ n. n) l.texts) (map view.set_state_of (drop l.state-index l.states))
    ≡ f.state_texts (map view.set_state_of l.states)
