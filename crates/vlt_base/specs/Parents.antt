-- Things in a list that may hang on one another: each names its parent by position, or has none.
use Rattle.std.specs.Prelude.{ℕ, zero, suc, ◌==◌, Bool, false, ◌||◌, List, length, Option, None, Some, slice_get}
use Rattle.std.specs.List.{list_any}

-- the parent of each thing, by position
abbrev pub Parents : Type 0
Parents = List (Option ℕ)

abbrev pub parent_in : Option (Option ℕ) → Option ℕ
parent_in None = None
parent_in (Some parent) = parent

-- the parent of the thing at a position, none where there is no such thing
abbrev pub parent_of : Parents → ℕ → Option ℕ
parent_of parents n = parent_in (slice_get parents n)

abbrev pub is_so_above : (ℕ → Bool) → Option ℕ → Bool
is_so_above test None = false
is_so_above test (Some n) = test n

-- the thing is one of the roots, or a chain of at most so many parents leads from it to one
abbrev pub reaches : (steps : ℕ) → Parents → (roots : List ℕ) → ℕ → Bool
reaches zero parents roots n = list_any (λ r. r == n) roots
reaches (suc steps) parents roots n =
    list_any (λ r. r == n) roots || is_so_above (reaches steps parents roots) (parent_of parents n)

-- The thing is one of the roots or below one. A chain without a cycle is shorter than the list.
abbrev pub is_at_or_below : Parents → (roots : List ℕ) → ℕ → Bool
is_at_or_below parents roots n = reaches (length parents) parents roots n
