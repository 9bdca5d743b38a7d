use Rattle.std.proofs.Common.{◌≡◌, ◌==◌, ◌||◌, ◌&&◌, ◌<◌, ℕ, take}
use Rattle.std.specs.List.{list_any}
use Rattle.vlt_base.specs.States.{has_state}
use Rattle.vlt_core.proofs.lookups.with_lower.Given as goal

abbrev pub invariant-loop-l : goal.invariant-loop-l
invariant-loop-l l = (s : ℕ) → s < 32 →
    has_state l.all s ≡ (s == l.state || list_any (λ k. k.lower == s && has_state l.set k.upper) (take l.l-index l.links))
