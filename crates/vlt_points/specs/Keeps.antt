-- What the code finds of all tokens, by statement; private contracts alone cite this.
use Rattle.std.specs.Prelude.{◌≡◌, ◌<◌, ◌≤◌, ◌+◌, ◌^◌, ℕ, Bool, IsTrue, List, [], Option, Some, None, ◌⊎◌, length, slice_index_or, slice_set, sum_by}
use Rattle.vlt_core.specs.Core.{Tok}
use Rattle.vlt_core_laws.specs.Sweep.{Stock}
use Rattle.vlt_faults.specs.declared.finding.ones.Ones.{Ones}
use Rattle.vlt_points.specs.Founds.{found, gap_to, IsJoin, IsCloser}

-- at the heads of loops, and after loops and choices, by statement; and whether a sweep found more
pub record Marks : Type 0 where
  pub around : List (List Ones)
  pub following : List (List Ones)
  pub grew : Bool

abbrev pub row : List (List Ones) → ℕ → List Ones
row xs i = slice_index_or xs i []

-- row n took m in
pub record IsRowJoined (n : ℕ) (m : List Ones) (xs ys : List (List Ones)) (g : Bool) : Type 0 where
  pub value : List Ones
  pub is : ys ≡ slice_set xs n value
  pub join : IsJoin m (row xs n) value
  pub closer : IsCloser g (length m) (row xs n) value

-- of one token
abbrev pub stock : Marks → Tok → Stock
stock k t = record { around = λ i. found (row k.around i) t; following = λ i. found (row k.following i) t }

-- how much could still come to the first n places of each
abbrev pub gap : ℕ → Marks → ℕ
gap n k = sum_by (gap_to n) k.around + sum_by (gap_to n) k.following

pub record IsStill (n : ℕ) (old new : Marks) : Type 0 where
  pub same : (t : Tok) → stock new t ≡ stock old t
  pub gaps : gap n new ≡ gap n old
  pub grew : new.grew ≡ old.grew

-- nothing changed, or something grew
abbrev pub IsGrown : ℕ → Marks → Marks → Type 0
IsGrown n old new = IsStill n old new ⊎ (IsTrue new.grew × (gap n new < gap n old))

-- all of it, and what comes to a point, has n places at most
pub record IsWithin (n : ℕ) (k : Marks) (m : List Ones) : Type 0 where
  pub around : (i : ℕ) → length (row k.around i) ≤ n
  pub following : (i : ℕ) → length (row k.following i) ≤ n
  pub here : length m ≤ n

-- from what came to a part to what comes out of it
pub record Went (old : Marks) (m : List Ones) (new : Marks) (left : List Ones) : Type 0 where
  pub around : length new.around ≡ length old.around
  pub following : length new.following ≡ length old.following
  pub within : (n : ℕ) → IsWithin n old m → IsWithin n new left
  pub grown : (n : ℕ) → IsWithin n old m → IsGrown n old new

abbrev pub ForLoop : Option ℕ → ℕ → Type 0
ForLoop None n = Unit {0}
ForLoop (Some l) n = l < n

-- so many statements, and the loop around, have places
pub record HasRoom (k : Marks) (l : Option ℕ) (m : ℕ) : Type 0 where
  pub fits : m ≤ length k.around
  pub long : length k.following ≡ length k.around
  pub few : length k.around < 2 ^ 63
  pub loop : ForLoop l (length k.around)
