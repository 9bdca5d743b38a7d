-- Nodes in rings: for each node a list has the next one.
use Rattle.std.specs.Prelude.{◌≡◌, ◌≢◌, ℕ, min, List, [], ◌∷◌, ◌++◌, length, Some, slice_get, vec_capacity}
use Rattle.vlt_rings.specs.declared.rings.Rings.{Rings}

-- the next node of each node
abbrev pub next_of : Rings → List ℕ
next_of r = r.next.items

-- the node before each node
abbrev pub back_of : Rings → List ℕ
back_of r = r.prev.items

-- for how many nodes there is room
abbrev pub room_of : Rings → ℕ
room_of r = min (vec_capacity r.next) (vec_capacity r.prev)

-- the way from a to b leads through these nodes
abbrev pub Path : (next : List ℕ) → ℕ → List ℕ → ℕ → Type 0
Path next a [] b = slice_get next a ≡ Some b
Path next a (c ∷ cs) b = (slice_get next a ≡ Some c) × Path next c cs b

abbrev pub IsOff : ℕ → List ℕ → Type 0
IsOff i [] = Unit {0}
IsOff i (x ∷ xs) = (x ≢ i) × IsOff i xs

abbrev pub AreApart : List ℕ → Type 0
AreApart [] = Unit {0}
AreApart (x ∷ xs) = IsOff x xs × AreApart xs

-- a ring that begins at h, and the nodes after h
pub record IsRing (next : List ℕ) (h : ℕ) (xs : List ℕ) : Type 0 where
  pub path : Path next h xs h
  pub apart : AreApart (h ∷ xs)

-- each list leads back where the other leads
pub record AreInverse (next prev : List ℕ) : Type 0 where
  pub long : length prev ≡ length next
  pub forth : (i j : ℕ) → slice_get next i ≡ Some j → slice_get prev j ≡ Some i
  pub back : (i j : ℕ) → slice_get prev i ≡ Some j → slice_get next j ≡ Some i

-- the ways back are those that lead on
abbrev pub IsWhole : Rings → Type 0
IsWhole r = AreInverse (next_of r) (back_of r)

-- i is taken out of its ring
pub record IsUnlinked (i : ℕ) (old new : List ℕ) : Type 0 where
  pub alone : IsRing new i []
  pub out : (h : ℕ) (xs ys : List ℕ) → IsRing old h (xs ++ i ∷ ys) → IsRing new h (xs ++ ys)
  pub others : (h : ℕ) (xs : List ℕ) → IsRing old h xs → IsOff i (h ∷ xs) → IsRing new h xs

-- i, which was alone, stands after h
pub record IsInserted (h i : ℕ) (old new : List ℕ) : Type 0 where
  pub following : (xs : List ℕ) → IsRing old h xs → IsOff i (h ∷ xs) → IsRing new h (i ∷ xs)
  pub others : (k : ℕ) (xs : List ℕ) → IsRing old k xs → IsOff i (k ∷ xs) → IsOff h (k ∷ xs) → IsRing new k xs
