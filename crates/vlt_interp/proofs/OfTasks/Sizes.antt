-- What is greatest of a list.
use Rattle.std.proofs.Common.{◌≡◌, ◌≤◌, ℕ, zero, suc, List, [], ◌∷◌, Some, ap, arith, slice_get}
use Rattle.std.proofs.lemmas.Option.{none-some, same_Some}
use Rattle.vlt_core.specs.Widths.{greatest}

-- each item's number is at most the greatest
pub greatest_at : {A : Type 0} (go : A → ℕ) (xs : List A) (i : ℕ) (x : A) → slice_get xs i ≡ Some x → go x ≤ greatest go xs
greatest_at go [] i x at = absurd (none-some x at)
greatest_at go (y ∷ ys) zero x at = let s : go y ≡ go x = ap go (same_Some y x at) in omega (arith, s)
greatest_at go (y ∷ ys) (suc i) x at = let l = greatest_at go ys i x at in omega (arith, l)
