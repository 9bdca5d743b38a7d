-- Names can be put in order, in one way.
use Rattle.std.proofs.Common.{◌≡◌, ◌≤◌, ◌<◌, ℕ, zero, suc, ◌+◌, ◌==◌, nat_lt, Bool, true, false, if◌then◌else◌, List, [], ◌∷◌, length, refl, sym, ap, ap₂, ◌∙◌, subst, cond, arith, Less, Equal, Greater}
use Rattle.std.specs.Prelude.{slice_index_or}
use Rattle.std.specs.List.{sum_by}
use Rattle.std.specs.List.Sorted.{IsPermutation, IsSorted}
use Rattle.std.specs.Ordering.{is_lt, ordering_then, bool_cmp, nat_cmp}
use Rattle.std.proofs.lemmas.Bool.Decides.{nat_tests}
use Rattle.std.proofs.lemmas.List.Sums.{sum_by-cons}
use Rattle.std.proofs.lemmas.List.Sorted.{IsPermutation-refl, IsPermutation-cons, IsPermutation-trans, IsPermutation-middle, sum_by-IsPermutation}
use Rattle.c_syntax.specs.declared.program.CVar.{CVar}
use Rattle.c_syntax.specs.Kinds.{same_variable}
use Rattle.c_syntax.specs.Programs.{variable_order}
use Rattle.c_reader_laws.proofs.Names.{count, same_is, same_itself}

-- ---- the order of names

abbrev precedes : CVar → CVar → Bool
precedes v w = is_lt (variable_order v w)

abbrev before : (a b : Bool) (m n : ℕ) → Bool
before a b m n = is_lt (ordering_then (bool_cmp a b) (nat_cmp m n))

by_number : (m n : ℕ) → is_lt (nat_cmp m n) ≡ nat_lt m n
by_number m n = by (nat_lt m n) (m == n)
  where
    by : (c d : Bool) → is_lt (cond c Less (cond d Equal Greater)) ≡ c
    by true d = refl
    by false true = refl
    by false false = refl

numbers_apart : (m n : ℕ) → nat_lt m n ≡ true → nat_lt n m ≡ false
numbers_apart m n h = grind (arith, h, nat_tests)

numbers_follow : (k m n : ℕ) → nat_lt n m ≡ false → nat_lt m k ≡ false → nat_lt n k ≡ false
numbers_follow k m n h i = grind (arith, h, i, nat_tests)

numbers_one : (m n : ℕ) → nat_lt m n ≡ false → nat_lt n m ≡ false → m ≡ n
numbers_one m n h i = grind (arith, h, i, nat_tests)

before_apart : (a b : Bool) (m n : ℕ) → before a b m n ≡ true → before b a n m ≡ false
before_apart true true m n h = by_number n m ∙ numbers_apart m n (sym (by_number m n) ∙ h)
before_apart false false m n h = by_number n m ∙ numbers_apart m n (sym (by_number m n) ∙ h)
before_apart false true m n h = refl
before_apart true false m n h = absurd cc

before_follows : (a b c : Bool) (k m n : ℕ) → before c b n m ≡ false → before b a m k ≡ false → before c a n k ≡ false
before_follows true true true k m n h i = by_number n k ∙ numbers_follow k m n (sym (by_number n m) ∙ h) (sym (by_number m k) ∙ i)
before_follows false false false k m n h i = by_number n k ∙ numbers_follow k m n (sym (by_number n m) ∙ h) (sym (by_number m k) ∙ i)
before_follows false false true k m n h i = refl
before_follows false true true k m n h i = refl
before_follows false true false k m n h i = absurd cc
before_follows true false c k m n h i = absurd cc
before_follows true true false k m n h i = absurd cc

before_one : (a b : Bool) (m n : ℕ) → before a b m n ≡ false → before b a n m ≡ false → (a ≡ b) × (m ≡ n)
before_one true true m n h i = (refl, numbers_one m n (sym (by_number m n) ∙ h) (sym (by_number n m) ∙ i))
before_one false false m n h i = (refl, numbers_one m n (sym (by_number m n) ∙ h) (sym (by_number n m) ∙ i))
before_one true false m n h i = absurd cc
before_one false true m n h i = absurd cc

not_itself : (a : Bool) (m : ℕ) → before a a m m ≡ false
not_itself true m = by_number m m ∙ grind (arith, nat_tests)
not_itself false m = by_number m m ∙ grind (arith, nat_tests)

variable_once : (v w : CVar) → precedes v w ≡ false → precedes w v ≡ false → v ≡ w
variable_once v w h i =
    let both = before_one v.reference w.reference v.number w.number h i in
    ap₂ (λ r n. record { reference = r; number = n }) both.0 both.1

-- ---- names in order

-- no name precedes the one before it
abbrev Rises : List CVar → Type 0
Rises [] = Unit {0}
Rises (v ∷ []) = Unit {0}
Rises (v ∷ w ∷ ws) = (precedes w v ≡ false) × Rises (w ∷ ws)

rises : (vs : List CVar) → IsSorted variable_order vs → Rises vs
rises [] up = tt
rises (v ∷ []) up = tt
rises (v ∷ w ∷ ws) up = (up 0 v (omega arith) (omega arith), rises (w ∷ ws) (λ k d low high. later k d (omega (arith, high))))
  where
    later : (k : ℕ) (d : CVar) → suc k + 1 < length (v ∷ w ∷ ws) → precedes (slice_index_or (w ∷ ws) (k + 1) d) (slice_index_or (w ∷ ws) k d) ≡ false
    later k d high = let same : suc k + 1 ≡ suc (k + 1) = omega arith in subst (λ n. precedes (slice_index_or (v ∷ w ∷ ws) n d) (slice_index_or (w ∷ ws) k d) ≡ false) same (up (suc k) d (omega arith) high)

sorted : (vs : List CVar) → Rises vs → IsSorted variable_order vs
sorted [] r k d low high = absurd (omega (arith, high))
sorted (v ∷ []) r k d low high = absurd (omega (arith, high))
sorted (v ∷ w ∷ ws) r zero d low high = r.0
sorted (v ∷ w ∷ ws) r (suc k) d low high =
    let same : suc (k + 1) ≡ suc k + 1 = omega arith in
    subst (λ n. precedes (slice_index_or (v ∷ w ∷ ws) n d) (slice_index_or (w ∷ ws) k d) ≡ false) same (sorted (w ∷ ws) r.1 k d (omega arith) (omega (arith, high)))

abbrev put : CVar → List CVar → List CVar
put v [] = v ∷ []
put v (w ∷ ws) = if precedes w v then w ∷ put v ws else v ∷ w ∷ ws

abbrev pub in_order : List CVar → List CVar
in_order [] = []
in_order (v ∷ vs) = put v (in_order vs)

put_moves : (v : CVar) (ws : List CVar) → IsPermutation (v ∷ ws) (put v ws)
put_moves v [] = IsPermutation-refl (v ∷ [])
put_moves v (w ∷ ws) = by (precedes w v) (put_moves v ws)
  where
    by : (d : Bool) → IsPermutation (v ∷ ws) (put v ws) → IsPermutation (v ∷ w ∷ ws) (if d then w ∷ put v ws else v ∷ w ∷ ws)
    by true moves = IsPermutation-trans (v ∷ w ∷ ws) (w ∷ v ∷ ws) (w ∷ put v ws) (IsPermutation-middle (v ∷ []) w ws) (IsPermutation-cons w (v ∷ ws) (put v ws) moves)
    by false moves = IsPermutation-refl (v ∷ w ∷ ws)

pub order_moves : (vs : List CVar) → IsPermutation vs (in_order vs)
order_moves [] = IsPermutation-refl []
order_moves (v ∷ vs) = IsPermutation-trans (v ∷ vs) (v ∷ in_order vs) (put v (in_order vs)) (IsPermutation-cons v vs (in_order vs) (order_moves vs)) (put_moves v (in_order vs))

apart : (v w : CVar) → precedes v w ≡ true → precedes w v ≡ false
apart v w h = before_apart v.reference w.reference v.number w.number h

put_after : (u v : CVar) (ws : List CVar) → precedes v u ≡ false → Rises (u ∷ ws) → Rises (u ∷ put v ws)
put_after u v [] h r = (h, tt)
put_after u v (w ∷ ws) h r = by (precedes w v) refl (λ e. put_after w v ws (apart w v e) r.1)
  where
    by : (d : Bool) → precedes w v ≡ d → (precedes w v ≡ true → Rises (w ∷ put v ws)) → Rises (u ∷ (if d then w ∷ put v ws else v ∷ w ∷ ws))
    by true e again = (r.0, again e)
    by false e again = (h, (e, r.1))

put_rises : (v : CVar) (ws : List CVar) → Rises ws → Rises (put v ws)
put_rises v [] r = tt
put_rises v (w ∷ ws) r = by (precedes w v) refl
  where
    by : (d : Bool) → precedes w v ≡ d → Rises (if d then w ∷ put v ws else v ∷ w ∷ ws)
    by true e = put_after w v ws (apart w v e) r
    by false e = (e, r)

order_rises : (vs : List CVar) → Rises (in_order vs)
order_rises [] = tt
order_rises (v ∷ vs) = put_rises v (in_order vs) (order_rises vs)

pub order_sorted : (vs : List CVar) → IsSorted variable_order (in_order vs)
order_sorted vs = sorted (in_order vs) (order_rises vs)

-- ---- one order

counts_itself : (v : CVar) → count v v ≡ 1
unfolding count
counts_itself v = rw (same_itself v) refl

-- v is the first name, or it is as the others are
first_or : (w : CVar) (ws : List CVar) (v : CVar) → 1 ≤ sum_by (count v) (w ∷ ws) → (1 ≤ sum_by (count v) ws → precedes v w ≡ false) → precedes v w ≡ false
unfolding count
first_or w ws v some others = by (same_variable v w) refl (sum_by-cons (count v) w ws)
  where
    by : (d : Bool) → same_variable v w ≡ d → sum_by (count v) (w ∷ ws) ≡ cond d 1 0 + sum_by (count v) ws → precedes v w ≡ false
    by true e s = subst (λ u. precedes v u ≡ false) (same_is v w e) (not_itself v.reference v.number)
    by false e s = others (omega (arith, s, some))

-- the first of names in order precedes each
first_is_least : (w : CVar) (ws : List CVar) (v : CVar) → Rises (w ∷ ws) → 1 ≤ sum_by (count v) (w ∷ ws) → precedes v w ≡ false
first_is_least w [] v r some = first_or w [] v some (λ more. absurd (omega (arith, more)))
first_is_least w (u ∷ us) v r some =
    first_or w (u ∷ us) v some (λ more. before_follows w.reference u.reference v.reference w.number u.number v.number (first_is_least u us v r.1 more) r.0)

counts_first : (v : CVar) (vs : List CVar) → 1 ≤ sum_by (count v) (v ∷ vs)
counts_first v vs = let s = sum_by-cons (count v) v vs in let one = counts_itself v in omega (arith, s, one)

tail_rises : (v : CVar) (vs : List CVar) → Rises (v ∷ vs) → Rises vs
tail_rises v [] r = tt
tail_rises v (w ∷ ws) r = r.1

one_order : (vs ws : List CVar) → Rises vs → Rises ws → ((u : CVar) → sum_by (count u) vs ≡ sum_by (count u) ws) → vs ≡ ws
one_order [] [] r s same = refl
one_order [] (w ∷ ws) r s same = let some = counts_first w ws in let none = same w in absurd (omega (arith, some, none))
one_order (v ∷ vs) [] r s same = let some = counts_first v vs in let none = same v in absurd (omega (arith, some, none))
one_order (v ∷ vs) (w ∷ ws) r s same =
    let here = counts_first v vs in
    let there = counts_first w ws in
    let of_v = same v in
    let of_w = same w in
    let first : v ≡ w = variable_once v w (first_is_least w ws v s (omega (arith, here, of_v))) (first_is_least v vs w r (omega (arith, there, of_w))) in
    let rest : (u : CVar) → sum_by (count u) vs ≡ sum_by (count u) ws = λ u.
    let p = sum_by-cons (count u) v vs in
    let q = sum_by-cons (count u) w ws in
    let e = same u in
    let k : count u v ≡ count u w = ap (count u) first in
    omega (arith, p, q, e, k) in
    ap₂ (λ x xs. x ∷ xs) first (one_order vs ws (tail_rises v vs r) (tail_rises w ws s) rest)

pub sorted_once : (names vs ws : List CVar) → IsPermutation names vs → IsPermutation names ws → IsSorted variable_order vs → IsSorted variable_order ws → vs ≡ ws
sorted_once names vs ws p q up also =
    one_order vs ws (rises vs up) (rises ws also) (λ u. sum_by-IsPermutation (count u) names vs p ∙ sym (sum_by-IsPermutation (count u) names ws q))
