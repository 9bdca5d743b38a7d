-- Lists with one element changed, or with one more at the end.
use Rattle.std.proofs.Common.{◌≡◌, ◌⊎◌, inl, inr, ⊎_elim, ℕ, zero, suc, ◌+◌, List, [], ◌∷◌, ◌++◌, length, map, Some, refl, ap, ◌∙◌, arith, slice_get, slice_set}
use Rattle.std.proofs.lemmas.Option.{none-some, same_Some}
use Rattle.std.specs.List.{enumerate_from}
use Rattle.std.specs.Option.{option_map}

module _ {A : Type 0} where
  pub get_set_same : (xs : List A) (n : ℕ) (x y : A) → slice_get xs n ≡ Some y →
      slice_get (slice_set xs n x) n ≡ Some x
  get_set_same [] n x y at = absurd (none-some y at)
  get_set_same (z ∷ xs) zero x y at = refl
  get_set_same (z ∷ xs) (suc n) x y at = get_set_same xs n x y at

  pub get_set_other : (xs : List A) (n m : ℕ) (x : A) → (m ≡ n → ⊥) → slice_get (slice_set xs n x) m ≡ slice_get xs m
  get_set_other [] n m x other = refl
  get_set_other (z ∷ xs) zero zero x other = absurd (other refl)
  get_set_other (z ∷ xs) zero (suc m) x other = refl
  get_set_other (z ∷ xs) (suc n) zero x other = refl
  get_set_other (z ∷ xs) (suc n) (suc m) x other = get_set_other xs n m x (λ e. other (ap suc e))

  pub get_last : (xs : List A) (x : A) → slice_get (xs ++ x ∷ []) (length xs) ≡ Some x
  get_last [] x = refl
  get_last (y ∷ xs) x = get_last xs x

  pub get_more : (xs : List A) (x y : A) (n : ℕ) → slice_get xs n ≡ Some y → slice_get (xs ++ x ∷ []) n ≡ Some y
  get_more [] x y n at = absurd (none-some y at)
  get_more (z ∷ xs) x y zero at = at
  get_more (z ∷ xs) x y (suc n) at = get_more xs x y n at

  -- an element of the longer list is the last one, or one of the list
  pub get_of_more : (xs : List A) (x y : A) (n : ℕ) → slice_get (xs ++ x ∷ []) n ≡ Some y →
      ((n ≡ length xs) × (x ≡ y)) ⊎ (slice_get xs n ≡ Some y)
  get_of_more [] x y zero at = inl (refl, same_Some x y at)
  get_of_more [] x y (suc n) at = inr at
  get_of_more (z ∷ xs) x y zero at = inr at
  get_of_more (z ∷ xs) x y (suc n) at = ⊎_elim (λ last. inl (ap suc last.0, last.1)) inr (get_of_more xs x y n at)

  pub get_numbered : {B : Type 0} (F : ℕ × A → B) (i : ℕ) (xs : List A) (m : ℕ) →
      slice_get (map F (enumerate_from i xs)) m ≡ option_map (λ x. F (i + m, x)) (slice_get xs m)
  get_numbered F i [] m = refl
  get_numbered F i (x ∷ xs) zero = ap (λ j. Some (F (j, x))) (omega arith)
  get_numbered F i (x ∷ xs) (suc m) =
      get_numbered F (i + 1) xs m ∙ ap (λ j. option_map (λ y. F (j, y)) (slice_get xs m)) (omega arith)
