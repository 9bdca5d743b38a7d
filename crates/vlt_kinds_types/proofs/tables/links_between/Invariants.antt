use Rattle.std.proofs.Common.{◌≡◌, ◌++◌, drop, map}
use Rattle.vlt_syntax.specs.View as view
use Rattle.vlt_core.specs.View.{link_of}
use Rattle.vlt_kinds_types.specs.Files as f
use Rattle.vlt_kinds_types.proofs.tables.links_between.Given as goal

abbrev pub invariant-loop-state : goal.invariant-loop-state
invariant-loop-state l =
    map link_of l.links
    ++ f.links_after (map (λ n. n) l.texts) l.lower (map view.set_state_of (drop l.state-index l.states))
    ≡ f.links_after (map (λ n. n) l.texts) 0 (map view.set_state_of l.states)
