use Rattle.std.proofs.Common.{◌≡◌, ◌<◌, ℕ, map}
use Rattle.vlt_base.specs.States.{has_state}
use Rattle.vlt_core.specs.View.{link_of}
use Rattle.vlt_core.specs.Lookups.{leads_up}
use Rattle.vlt_core.proofs.lookups.leading_up.Given as goal

abbrev pub invariant-loop-n : goal.invariant-loop-n
invariant-loop-n l = (s : ℕ) → s < 32 → has_state l.set s ≡ leads_up (map link_of l.links) l.n s l.state
