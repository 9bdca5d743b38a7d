-- What the code finds of all tokens at one point; private contracts alone cite this.
use Rattle.std.specs.Prelude.{◌≡◌, ◌<◌, ◌≤◌, ◌+◌, ◌*◌, ℕ, zero, suc, Bool, true, false, List, length}
use Rattle.vlt_core.specs.Core.{Tok, a_key, a_var, Func}
use Rattle.vlt_core_laws.specs.Sweep.{Many}
use Rattle.vlt_faults.specs.declared.finding.ones.Ones.{Ones}
use Rattle.vlt_faults.specs.Finding.Ones.{gap_of}
use Rattle.vlt_faults.specs.Finding.Marks.{slot, at, IsInto, IsSameParts}

abbrev pub place_of : Tok → ℕ
place_of (a_key k) = 2 * k
place_of (a_var v) = 2 * v + 1

-- the function has the key or variable
abbrev pub IsTokenOf : Func → Tok → Type 0
IsTokenOf f (a_key k) = k < length f.keys
IsTokenOf f (a_var v) = v < length f.vars

-- nothing past the end
abbrev pub found : List Ones → Tok → Many
found xs t = at xs (place_of t)

-- how much could still come to the first n places
abbrev pub gap_to : ℕ → List Ones → ℕ
gap_to zero xs = 0
gap_to (suc n) xs = gap_of (slot xs n) + gap_to n xs

-- something came, or nothing
abbrev pub IsNear : Bool → (old new : Ones) → Type 0
IsNear true m m' = gap_of m' < gap_of m
IsNear false m m' = IsSameParts m' m

-- something came to a place below the width, or nothing to any
abbrev pub IsCloser : Bool → (width : ℕ) → (old new : List Ones) → Type 0
IsCloser true w xs ys = (n : ℕ) → w ≤ n → gap_to n ys < gap_to n xs
IsCloser false w xs ys = (i : ℕ) → IsSameParts (slot ys i) (slot xs i)

-- it took another one in
pub record IsJoin (m old new : List Ones) : Type 0 where
  pub into : (i : ℕ) → IsInto (slot m i) (slot old i) (slot new i)
  pub long : (n : ℕ) → length old ≤ n → length m ≤ n → length new ≤ n

-- one place of it has another value, and the rest is as before
pub record IsPut (n : ℕ) (value : Ones) (xs ys : List Ones) : Type 0 where
  pub here : slot ys n ≡ value
  pub others : (i : ℕ) → (i ≡ n → ⊥) → slot ys i ≡ slot xs i
