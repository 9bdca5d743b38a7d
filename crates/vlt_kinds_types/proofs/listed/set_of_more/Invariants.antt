use Rattle.std.proofs.Common.{◌≡◌, ◌||◌, ℕ, ◌∷◌, drop}
use Rattle.vlt_base.specs.States.{has_state}
use Rattle.vlt_syntax.specs.View as view
use Rattle.vlt_kinds_types.specs.Files as f
use Rattle.vlt_kinds_types.specs.Types as t
use Rattle.vlt_kinds_types.specs.declared.shapes.Wanted.TheVariants as wanted
use Rattle.vlt_kinds_types.proofs.listed.set_of_more.Given as goal

abbrev pub invariant-loop-number : goal.invariant-loop-number
invariant-loop-number l = (i : ℕ) → (has_state l.set i || t.is_listed (drop l.number-index l.more) i) ≡ t.is_listed (l.first ∷ l.more) i
