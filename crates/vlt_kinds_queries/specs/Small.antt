-- What the limits of the grammar say of a file.
use Rattle.std.specs.Prelude.{ℕ, ◌≤◌, List, length, All, Option}
use Rattle.std.specs.Option.{ForSome}
use Rattle.std.specs.Borrow.{Bor}
use Rattle.vlt_core.specs.declared.program.SetDecl.{SetDecl}

-- there are 1 to 32 of them
pub record IsSmall {A : Type 0} (xs : List A) : Type 0 where
  pub some : 1 ≤ length xs
  pub few : length xs ≤ 32

-- a set has 1 to 32 states
abbrev pub IsSmallSet : SetDecl → Type 0
IsSmallSet d = IsSmall d.states

abbrev pub AreSmallSets : List SetDecl → Type 0
AreSmallSets = All IsSmallSet

abbrev pub AreSmallNames : Option (Bor (List (List ℕ))) → Type 0
AreSmallNames names = ForSome names (λ ns. IsSmall ns.now)
