-- How the names of a variant's cases are written.
use Rattle.std.specs.Prelude.{◌≡◌, ℕ, List, ◌∷◌}
use Rattle.vlt_syntax.specs.Tree as s
use Rattle.vlt_syntax.specs.Tree.{Name, Decl}
use Rattle.vlt_syntax.specs.Lists.{Each}

-- the name of a case as it is written, with its `'`
abbrev pub IsTick : Name → Type 0
IsTick n = (name : List ℕ) × (n.text ≡ 39 ∷ name)

-- the cases of a variant have such names
abbrev pub HasTicks : Decl → Type 0
HasTicks (s.variant n ps cs at) = Each (λ c. IsTick c.name) cs
HasTicks d = Unit {0}
