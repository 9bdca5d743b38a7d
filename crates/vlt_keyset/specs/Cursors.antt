-- Places in a list of pairs; private contracts alone cite this.
use Rattle.std.specs.Prelude.{◌≡◌, ◌≤◌, ℕ, List, [], ◌∷◌, length, drop}
use Rattle.vlt_core.specs.Core.{Tok}
use Rattle.vlt_core.specs.Maps.{HeldMap, IsStatusBelow}
use Rattle.vlt_core.specs.View.{tok_of}
use Rattle.vlt_core.specs.HeldView.{status_of}
use Rattle.vlt_keyset.specs.Pairs.{Pair, map_of_pairs, IsBefore, ComesFirst, AreInOrder}
use Rattle.vlt_keyset.specs.declared.faults.Apart.{Apart}

-- no pair is of a token before this one
abbrev pub NoneBefore : Tok → List Pair → Type 0
NoneBefore t [] = Unit {0}
NoneBefore t (x ∷ xs) = (IsBefore (tok_of x.0) t → ⊥) × NoneBefore t xs

-- the pairs before the place i are of tokens before this one, and the others aren't
pub record IsAt (xs : List Pair) (i : ℕ) (t : Tok) : Type 0 where
  pub few : i ≤ length xs
  pub same : (u : Tok) → (IsBefore u t → ⊥) → map_of_pairs xs u ≡ map_of_pairs (drop i xs) u
  pub from : NoneBefore t (drop i xs)
  pub order : AreInOrder (drop i xs)

-- the pairs before the place i are of tokens up to this one, and the others of tokens after it
pub record IsPast (xs : List Pair) (i : ℕ) (t : Tok) : Type 0 where
  pub few : i ≤ length xs
  pub same : (u : Tok) → IsBefore t u → map_of_pairs xs u ≡ map_of_pairs (drop i xs) u
  pub from : ComesFirst t (drop i xs)
  pub order : AreInOrder (drop i xs)

-- the token's status in the map h isn't below that in the map k
pub record IsHere (h k : HeldMap) (t : Tok) (x : Apart) : Type 0 where
  pub tok : tok_of x.tok ≡ t
  pub found : status_of x.found ≡ h t
  pub wanted : status_of x.wanted ≡ k t
  pub apart : IsStatusBelow (h t) (k t) → ⊥

-- all tokens before this one are below
abbrev pub AreBelow : HeldMap → HeldMap → Tok → Type 0
AreBelow h k t = (u : Tok) → IsBefore u t → IsStatusBelow (h u) (k u)
