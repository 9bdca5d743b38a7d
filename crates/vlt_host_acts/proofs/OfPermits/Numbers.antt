-- Numbers in ascending order.
use Rattle.std.proofs.Common.{◌≡◌, ℕ, zero, suc, ◌<◌, ◌≤◌, ◌==◌, nat_lt, Bool, true, false, not, ◌&&◌, ◌||◌, if◌then◌else◌, List, [], ◌∷◌, length, get_or, refl, sym, ap, ◌∙◌, subst, arith}
use Rattle.std.specs.List.{insert, remove}
use Rattle.std.proofs.lemmas.Bool.{eqb-true}
use Rattle.std.proofs.lemmas.Bool.Decides.{nat_tests}
use Rattle.vlt_core.specs.KindedHeads.{has}
use Rattle.vlt_host_acts.specs.Permits.Numbers.{AreAbove, IsAscending, with_number, without_number}

-- ---- tests of numbers

pub same_test : (m n : ℕ) → m ≡ n → (m == n) ≡ true
same_test m n e = grind (arith, nat_tests)

other_test : (m n : ℕ) → (m ≡ n → ⊥) → (m == n) ≡ false
other_test m n e = grind (arith, nat_tests)

less_test : (m n : ℕ) → m < n → nat_lt m n ≡ true
less_test m n e = grind (arith, nat_tests)

more_test : (m n : ℕ) → n ≤ m → nat_lt m n ≡ false
more_test m n e = grind (arith, nat_tests)

-- ---- order

above_all : (n : ℕ) (xs : List ℕ) → AreAbove n xs → (i : ℕ) → i < length xs → n < get_or xs i 0
above_all n [] h i k = absurd (omega (arith, k))
above_all n (x ∷ xs) h zero k = h.0
above_all n (x ∷ xs) h (suc i) k = above_all n xs h.1 i (omega (arith, k))

pub rises : (xs : List ℕ) → IsAscending xs → (i j : ℕ) → i ≤ j → j < length xs → get_or xs i 0 ≤ get_or xs j 0
rises [] h i j k l = absurd (omega (arith, l))
rises (x ∷ xs) h zero zero k l = omega arith
rises (x ∷ xs) h zero (suc j) k l = let a = above_all x xs h.0 j (omega (arith, l)) in omega (arith, a)
rises (x ∷ xs) h (suc i) zero k l = absurd (omega (arith, k))
rises (x ∷ xs) h (suc i) (suc j) k l = rises xs h.1 i j (omega (arith, k)) (omega (arith, l))

lower : (m n : ℕ) (xs : List ℕ) → m ≤ n → AreAbove n xs → AreAbove m xs
lower m n [] k h = tt
lower m n (x ∷ xs) k h = (omega (arith, k, h.0), lower m n xs k h.1)

-- ---- a number less

all_kept : (n : ℕ) (xs : List ℕ) → AreAbove n xs → without_number n xs ≡ xs
all_kept n [] h = refl
all_kept n (x ∷ xs) h =
    let off = other_test x n (λ e. omega (arith, e, h.0)) in
    ap (λ b. if not b then x ∷ without_number n xs else without_number n xs) off ∙ ap (λ ys. x ∷ ys) (all_kept n xs h.1)

pub removed_is : (xs : List ℕ) (i n : ℕ) → IsAscending xs → i < length xs → get_or xs i 0 ≡ n → remove xs i ≡ without_number n xs
removed_is [] i n h k e = absurd (omega (arith, k))
removed_is (x ∷ xs) zero n h k e =
    let here = same_test x n e in
    sym (ap (λ b. if not b then x ∷ without_number n xs else without_number n xs) here ∙ all_kept n xs (subst (λ m. AreAbove m xs) e h.0))
removed_is (x ∷ xs) (suc i) n h k e =
    let a = above_all x xs h.0 i (omega (arith, k)) in
    let off = other_test x n (λ same. omega (arith, a, e, same)) in
    ap (λ ys. x ∷ ys) (removed_is xs i n h.1 (omega (arith, k)) e) ∙
    sym (ap (λ b. if not b then x ∷ without_number n xs else without_number n xs) off)

pub none_removed : (xs : List ℕ) (n : ℕ) → ((k : ℕ) → k < length xs → get_or xs k 0 ≡ n → ⊥) → xs ≡ without_number n xs
none_removed [] n off = refl
none_removed (x ∷ xs) n off =
    let here = other_test x n (off 0 (omega arith)) in
    ap (λ ys. x ∷ ys) (none_removed xs n (λ k l e. off (suc k) (omega (arith, l)) e)) ∙
    sym (ap (λ b. if not b then x ∷ without_number n xs else without_number n xs) here)

above_without : (m n : ℕ) (xs : List ℕ) → AreAbove m xs → AreAbove m (without_number n xs)
above_without m n [] h = tt
above_without m n (x ∷ xs) h = by (x == n) (above_without m n xs h.1)
  where
    by : (b : Bool) → AreAbove m (without_number n xs) → AreAbove m (if not b then x ∷ without_number n xs else without_number n xs)
    by true rest = rest
    by false rest = (h.0, rest)

pub ascending_without : (n : ℕ) (xs : List ℕ) → IsAscending xs → IsAscending (without_number n xs)
ascending_without n [] h = tt
ascending_without n (x ∷ xs) h = by (x == n) (ascending_without n xs h.1)
  where
    by : (b : Bool) → IsAscending (without_number n xs) → IsAscending (if not b then x ∷ without_number n xs else without_number n xs)
    by true rest = rest
    by false rest = (above_without x n xs h.0, rest)

-- ---- a number more

abbrev put_in : (is_here is_below : Bool) → (n x : ℕ) → List ℕ → List ℕ
put_in h b n x xs = if h then x ∷ xs else if b then n ∷ x ∷ xs else x ∷ with_number n xs

pub inserted_is : (xs : List ℕ) (i n : ℕ) → i ≤ length xs → ((k : ℕ) → k < i → get_or xs k 0 < n) →
    ((k : ℕ) → i ≤ k → k < length xs → n < get_or xs k 0) → insert xs i n ≡ with_number n xs
inserted_is [] zero n within below above = refl
inserted_is [] (suc i) n within below above = absurd (omega (arith, within))
inserted_is (x ∷ xs) zero n within below above =
    let less = above 0 (omega arith) (omega arith) in
    sym (ap (λ h. put_in h (nat_lt n x) n x xs) (other_test n x (λ e. omega (arith, e, less))) ∙
    ap (λ b. put_in false b n x xs) (less_test n x less))
inserted_is (x ∷ xs) (suc i) n within below above =
    let more = below 0 (omega arith) in
    ap (λ ys. x ∷ ys) (inserted_is xs i n (omega (arith, within)) (λ k l. below (suc k) (omega (arith, l)))
    (λ k l m. above (suc k) (omega (arith, l)) (omega (arith, m)))) ∙
    sym (ap (λ h. put_in h (nat_lt n x) n x xs) (other_test n x (λ e. omega (arith, e, more))) ∙
    ap (λ b. put_in false b n x xs) (more_test n x (omega (arith, more))))

pub is_in_already : (xs : List ℕ) (i n : ℕ) → IsAscending xs → i < length xs → get_or xs i 0 ≡ n → xs ≡ with_number n xs
is_in_already [] i n h k e = absurd (omega (arith, k))
is_in_already (x ∷ xs) zero n h k e = sym (ap (λ b. put_in b (nat_lt n x) n x xs) (same_test n x (sym e)))
is_in_already (x ∷ xs) (suc i) n h k e =
    let a = above_all x xs h.0 i (omega (arith, k)) in
    ap (λ ys. x ∷ ys) (is_in_already xs i n h.1 (omega (arith, k)) e) ∙
    sym (ap (λ b. put_in b (nat_lt n x) n x xs) (other_test n x (λ same. omega (arith, same, a, e))) ∙
    ap (λ b. put_in false b n x xs) (more_test n x (omega (arith, a, e))))

above_with : (m n : ℕ) (xs : List ℕ) → m < n → AreAbove m xs → AreAbove m (with_number n xs)
above_with m n [] k h = (k, tt)
above_with m n (x ∷ xs) k h = by (n == x) (nat_lt n x) (above_with m n xs k h.1)
  where
    by : (a b : Bool) → AreAbove m (with_number n xs) → AreAbove m (put_in a b n x xs)
    by true b rest = h
    by false true rest = (k, h)
    by false false rest = (h.0, rest)

pub ascending_with : (n : ℕ) (xs : List ℕ) → IsAscending xs → IsAscending (with_number n xs)
ascending_with n [] h = (tt, tt)
ascending_with n (x ∷ xs) h = by (n == x) refl (nat_lt n x) refl (ascending_with n xs h.1)
  where
    by : (a : Bool) → (n == x) ≡ a → (b : Bool) → nat_lt n x ≡ b → IsAscending (with_number n xs) → IsAscending (put_in a b n x xs)
    by true e b k rest = h
    by false e true k rest =
        let less : n < x = grind (arith, nat_tests) in
        ((less, lower n x xs (omega (arith, less)) h.0), h)
    by false e false k rest =
        let more : x < n = grind (arith, nat_tests) in
        (above_with x n xs more h.0, rest)

-- ---- what is in them

pub has_without : (n : ℕ) (xs : List ℕ) (m : ℕ) → has (without_number n xs) m ≡ (has xs m && not (m == n))
has_without n [] m = refl
has_without n (x ∷ xs) m = by (x == n) refl (x == m) refl (has_without n xs m)
  where
    none : (b : Bool) → (b && false) ≡ false
    none true = refl
    none false = refl

    by : (a : Bool) → (x == n) ≡ a → (b : Bool) → (x == m) ≡ b → has (without_number n xs) m ≡ (has xs m && not (m == n)) →
        has (if not a then x ∷ without_number n xs else without_number n xs) m ≡ ((b || has xs m) && not (m == n))
    by true e true f rest =
        let here : (m == n) ≡ true = same_test m n (sym (eqb-true x m f) ∙ eqb-true x n e) in
        rest ∙ (ap (λ b. has xs m && not b) here ∙ (none (has xs m) ∙ sym (ap (λ b. not b) here)))
    by true e false f rest = rest
    by false e true f rest =
        let other : (m == n) ≡ false = subst (λ k. (k == n) ≡ false) (eqb-true x m f) e in
        ap (λ b. b || has (without_number n xs) m) f ∙ sym (ap (λ b. not b) other)
    by false e false f rest = ap (λ b. b || has (without_number n xs) m) f ∙ rest

pub has_with : (n : ℕ) (xs : List ℕ) (m : ℕ) → has (with_number n xs) m ≡ (n == m || has xs m)
has_with n [] m = refl
has_with n (x ∷ xs) m = by (n == x) refl (nat_lt n x) (has_with n xs m)
  where
    twice : (a b : Bool) → (a || b) ≡ (a || (a || b))
    twice true b = refl
    twice false b = refl

    turned : (a b c : Bool) → (a || (b || c)) ≡ (b || (a || c))
    turned true true c = refl
    turned true false c = refl
    turned false true c = refl
    turned false false c = refl

    by : (a : Bool) → (n == x) ≡ a → (b : Bool) → has (with_number n xs) m ≡ (n == m || has xs m) →
        has (put_in a b n x xs) m ≡ (n == m || (x == m || has xs m))
    by true e b rest = subst (λ k. (x == m || has xs m) ≡ (k == m || (x == m || has xs m))) (sym (eqb-true n x e)) (twice (x == m) (has xs m))
    by false e true rest = refl
    by false e false rest = ap (λ r. x == m || r) rest ∙ turned (x == m) (n == m) (has xs m)

none_above : (n : ℕ) (xs : List ℕ) → AreAbove n xs → (m : ℕ) → m ≤ n → has xs m ≡ false
none_above n [] h m k = refl
none_above n (x ∷ xs) h m k =
    ap (λ b. b || has xs m) (other_test x m (λ e. omega (arith, e, k, h.0))) ∙ none_above n xs h.1 m k

-- two such lists that have the same numbers are one
pub ascending_same : (xs ys : List ℕ) → IsAscending xs → IsAscending ys → ((m : ℕ) → has xs m ≡ has ys m) → xs ≡ ys
ascending_same [] [] h k same = refl
ascending_same [] (y ∷ ys) h k same = absurd (clash (same y ∙ ap (λ b. b || has ys y) (same_test y y refl)))
  where
    clash : false ≡ true → ⊥
    clash e = cc
ascending_same (x ∷ xs) [] h k same = absurd (clash (sym (same x) ∙ ap (λ b. b || has xs x) (same_test x x refl)))
  where
    clash : false ≡ true → ⊥
    clash e = cc
ascending_same (x ∷ xs) (y ∷ ys) h k same =
    ap (λ n. n ∷ xs) first ∙ ap (λ zs. y ∷ zs) (ascending_same xs ys h.1 k.1 rest)
  where
    clash : false ≡ true → ⊥
    clash e = cc

    -- the first number of one list isn't below that of the other
    not_below : (x y : ℕ) (xs ys : List ℕ) → AreAbove y ys → ((m : ℕ) → has (x ∷ xs) m ≡ has (y ∷ ys) m) → y ≤ x
    not_below x y xs ys k same = by (nat_lt x y) refl
      where
        by : (b : Bool) → nat_lt x y ≡ b → y ≤ x
        by false e = grind (arith, nat_tests)
        by true e =
            let less : x < y = grind (arith, nat_tests) in
            let none : has (y ∷ ys) x ≡ false =
            ap (λ b. b || has ys x) (other_test y x (λ e. omega (arith, e, less))) ∙ none_above y ys k x (omega (arith, less)) in
            absurd (clash (sym none ∙ (sym (same x) ∙ ap (λ b. b || has xs x) (same_test x x refl))))

    first : x ≡ y
    first =
        let a = not_below x y xs ys k.0 same in
        let b = not_below y x ys xs h.0 (λ m. sym (same m)) in
        omega (arith, a, b)

    rest : (m : ℕ) → has xs m ≡ has ys m
    rest m = by (x == m) refl
      where
        by : (b : Bool) → (x == m) ≡ b → has xs m ≡ has ys m
        by true e =
            let at = eqb-true x m e in
            none_above x xs h.0 m (omega (arith, at)) ∙ sym (none_above y ys k.0 m (omega (arith, at, first)))
        by false e =
            let other : (y == m) ≡ false = subst (λ n. (n == m) ≡ false) first e in
            sym (ap (λ b. b || has xs m) e) ∙ (same m ∙ ap (λ b. b || has ys m) other)

pub has_at : (xs : List ℕ) (i n : ℕ) → i < length xs → get_or xs i 0 ≡ n → has xs n ≡ true
has_at [] i n k e = absurd (omega (arith, k))
has_at (x ∷ xs) zero n k e = ap (λ b. b || has xs n) (same_test x n e)
has_at (x ∷ xs) (suc i) n k e = ap (λ b. x == n || b) (has_at xs i n (omega (arith, k)) e) ∙ or_true (x == n)
  where
    or_true : (b : Bool) → (b || true) ≡ true
    or_true true = refl
    or_true false = refl

pub has_not : (xs : List ℕ) (n : ℕ) → ((k : ℕ) → k < length xs → get_or xs k 0 ≡ n → ⊥) → has xs n ≡ false
has_not [] n off = refl
has_not (x ∷ xs) n off =
    ap (λ b. b || has xs n) (other_test x n (off 0 (omega arith))) ∙ has_not xs n (λ k l e. off (suc k) (omega (arith, l)) e)

-- one that isn't there yet makes the list longer
pub with_longer : (n : ℕ) (xs : List ℕ) → has xs n ≡ false → length (with_number n xs) ≡ suc (length xs)
with_longer n [] e = refl
with_longer n (x ∷ xs) e =
    let both = neither (x == n) (has xs n) e in
    by (n == x) refl (nat_lt n x) both.0 (with_longer n xs both.1)
  where
    neither : (a b : Bool) → (a || b) ≡ false → (a ≡ false) × (b ≡ false)
    neither true b e = cc
    neither false b e = (refl, e)

    clash : true ≡ false → ⊥
    clash e = cc

    by : (a : Bool) → (n == x) ≡ a → (b : Bool) → (x == n) ≡ false → length (with_number n xs) ≡ suc (length xs) →
        length (put_in a b n x xs) ≡ suc (suc (length xs))
    by true e b off rest = absurd (clash (sym (same_test x n (sym (eqb-true n x e))) ∙ off))
    by false e true off rest = refl
    by false e false off rest = ap suc rest
