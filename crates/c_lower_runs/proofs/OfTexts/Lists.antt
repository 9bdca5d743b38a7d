-- What holds of each of a list, and how long lists are.
use Rattle.std.proofs.Common.{◌≡◌, ◌≤◌, ◌<◌, ℕ, zero, suc, ◌+◌, Bool, true, false, not, if◌then◌else◌, List, [], ◌∷◌, ◌++◌, map, filter, length, Some, slice_get, refl, arith}
use Rattle.std.proofs.lemmas.Bool.{false≢true}
use Rattle.std.proofs.lemmas.Option.{none-some}
use Rattle.std.specs.List.{flat_map, enumerate_from, range_with_len}
use Rattle.c_lower_worlds.specs.Naming.Lists.{Each}

-- ---- each of a list

pub each_both : {A : Type 0} (P : A → Type 0) (xs ys : List A) → Each P xs → Each P ys → Each P (xs ++ ys)
each_both P [] ys a b = b
each_both P (x ∷ xs) ys a b = (a.0, each_both P xs ys a.1 b)

pub each_all : {A : Type 0} (P : A → Type 0) (xs : List A) → ((x : A) → P x) → Each P xs
each_all P [] h = tt
each_all P (x ∷ xs) h = (h x, each_all P xs h)

pub each_with : {A : Type 0} (P Q : A → Type 0) (xs : List A) → Each P xs → Each (λ x. P x → Q x) xs → Each Q xs
each_with P Q [] h k = tt
each_with P Q (x ∷ xs) h k = (k.0 h.0, each_with P Q xs h.1 k.1)

pub each_mapped : {A B : Type 0} (P : B → Type 0) (Q : A → Type 0) (go : A → B) (xs : List A) → ((x : A) → Q x → P (go x)) → Each Q xs → Each P (map go xs)
each_mapped P Q go [] k h = tt
each_mapped P Q go (x ∷ xs) k h = (k x h.0, each_mapped P Q go xs k h.1)

-- pieces one after another
pub each_flat : {A B : Type 0} (P : B → Type 0) (Q : A → Type 0) (go : A → List B) (xs : List A) → Each Q xs → ((x : A) → Q x → Each P (go x)) → Each P (flat_map go xs)
each_flat P Q go [] h k = tt
each_flat P Q go (x ∷ xs) h k = each_both P (go x) (flat_map go xs) (k x h.0) (each_flat P Q go xs h.1 k)

-- those that pass a test
pub each_passed : {A : Type 0} (P Q : A → Type 0) (test : A → Bool) (xs : List A) → ((x : A) → test x ≡ true → P x → Q x) → Each P xs → Each Q (filter test xs)
each_passed P Q test [] go h = tt
each_passed P Q test (x ∷ xs) go h = by (test x) refl (each_passed P Q test xs go h.1)
  where
    by : (b : Bool) → test x ≡ b → Each Q (filter test xs) → Each Q (if b then x ∷ filter test xs else filter test xs)
    by true e rest = (go x e h.0, rest)
    by false e rest = rest

-- what holds of each at its position that passes a test holds of those that pass it
pub each_tested : {A : Type 0} (P : A → Type 0) (test : A → Bool) (xs : List A) → ((i : ℕ) (x : A) → slice_get xs i ≡ Some x → test x ≡ true → P x) → Each P (filter test xs)
each_tested P test [] h = tt
each_tested P test (x ∷ xs) h = by (test x) refl (each_tested P test xs (λ i y at. h (suc i) y at))
  where
    by : (b : Bool) → test x ≡ b → Each P (filter test xs) → Each P (if b then x ∷ filter test xs else filter test xs)
    by true e rest = (h 0 x refl e, rest)
    by false e rest = rest

-- each with its number, which is below the last one
pub each_numbered : {A B : Type 0} (P : B → Type 0) (go : ℕ → A → B) (n i : ℕ) (xs : List A) → i + length xs ≤ n → Each (λ x. (k : ℕ) → k < n → P (go k x)) xs → Each P (map (λ q. go q.0 q.1) (enumerate_from i xs))
each_numbered P go n i [] l h = tt
each_numbered P go n i (x ∷ xs) l h = (h.0 i (omega (arith, l)), each_numbered P go n (i + 1) xs (omega (arith, l)) h.1)

pub each_in_range : (n i m : ℕ) → i + n ≤ m → Each (λ k. k < m) (range_with_len i n)
each_in_range zero i m l = tt
each_in_range (suc n) i m l = (omega (arith, l), each_in_range n (i + 1) m (omega (arith, l)))

-- ---- lengths

pub filter_long : {A : Type 0} (test : A → Bool) (xs : List A) → length (filter test xs) ≤ length xs
filter_long test [] = omega arith
filter_long test (x ∷ xs) = by (test x) (filter_long test xs)
  where
    by : (b : Bool) → length (filter test xs) ≤ length xs → length (if b then x ∷ filter test xs else filter test xs) ≤ length (x ∷ xs)
    by true h = omega (arith, h)
    by false h = omega (arith, h)

pub get_below : {A : Type 0} (xs : List A) (i : ℕ) (x : A) → slice_get xs i ≡ Some x → i < length xs
get_below [] i x at = absurd (none-some x at)
get_below (y ∷ xs) zero x at = omega arith
get_below (y ∷ xs) (suc i) x at = let h = get_below xs i x at in omega (arith, h)

pub not_true : (b : Bool) → not b ≡ true → b ≡ false
not_true true e = absurd (false≢true e)
not_true false e = refl
