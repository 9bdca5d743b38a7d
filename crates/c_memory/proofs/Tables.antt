-- Tables of values.
use Rattle.std.proofs.Common.{◌≡◌, ◌≢◌, ℕ, zero, suc, ◌<◌, ◌≤◌, ◌∷◌, length, replicate, Option, Some, None, refl, ap, ◌∙◌, arith, slice_get, slice_set}
use Rattle.c_memory.specs.Shown.{table}

pub get_table : {A : Type 0} (n : ℕ) (f : ℕ → A) (i : ℕ) → i < n → slice_get (table n f) i ≡ Some (f i)
get_table zero f i l = absurd (omega (arith, l))
get_table (suc n) f zero l = refl
get_table (suc n) f (suc i) l = get_table n (λ j. f (suc j)) i (omega (arith, l))

pub get_past : {A : Type 0} (n : ℕ) (f : ℕ → A) (i : ℕ) → n ≤ i → slice_get (table n f) i ≡ None
get_past zero f i l = refl
get_past (suc n) f zero l = absurd (omega (arith, l))
get_past (suc n) f (suc i) l = get_past n (λ j. f (suc j)) i (omega (arith, l))

pub length_table : {A : Type 0} (n : ℕ) (f : ℕ → A) → length (table n f) ≡ n
length_table zero f = refl
length_table (suc n) f = ap suc (length_table n (λ j. f (suc j)))

pub same_table : {A : Type 0} (n : ℕ) (f g : ℕ → A) → ((i : ℕ) → i < n → f i ≡ g i) → table n f ≡ table n g
same_table zero f g h = refl
same_table (suc n) f g h = ap (λ x. x ∷ table n (λ j. f (suc j))) (h 0 (omega arith)) ∙ ap (λ l. g 0 ∷ l) (same_table n (λ j. f (suc j)) (λ j. g (suc j)) (λ i l. h (suc i) (omega (arith, l))))

pub set_table : {A : Type 0} (n : ℕ) (f g : ℕ → A) (k : ℕ) (y : A) → k < n → g k ≡ y → ((i : ℕ) → i < n → i ≢ k → g i ≡ f i) → table n g ≡ slice_set (table n f) k y
set_table zero f g k y l is others = absurd (omega (arith, l))
set_table (suc n) f g zero y l is others =
    ap (λ x. x ∷ table n (λ j. g (suc j))) is ∙ ap (λ r. y ∷ r) (same_table n (λ j. g (suc j)) (λ j. f (suc j)) (λ i m. others (suc i) (omega (arith, m)) (λ e. absurd (omega (arith, e)))))
set_table (suc n) f g (suc k) y l is others =
    ap (λ x. x ∷ table n (λ j. g (suc j))) (others 0 (omega arith) (λ e. absurd (omega (arith, e))))
    ∙ ap (λ r. f 0 ∷ r) (set_table n (λ j. f (suc j)) (λ j. g (suc j)) k y (omega (arith, l)) is (λ i m d. others (suc i) (omega (arith, m)) (λ e. d (omega (arith, e)))))

pub unset_table : {A : Type 0} (n : ℕ) (f : ℕ → Option A) → ((i : ℕ) → i < n → f i ≡ None) → table n f ≡ replicate n None
unset_table zero f h = refl
unset_table (suc n) f h = ap (λ x. x ∷ table n (λ j. f (suc j))) (h 0 (omega arith)) ∙ ap (λ l. None ∷ l) (unset_table n (λ j. f (suc j)) (λ i l. h (suc i) (omega (arith, l))))
