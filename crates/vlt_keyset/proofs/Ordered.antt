-- Tokens in order, and lists of pairs in order.
use Rattle.std.proofs.Common.{◌≡◌, ◌<◌, ◌≤◌, ◌+◌, ◌-◌, ◌==◌, ◌⊎◌, inl, inr, ⊎_elim, ℕ, Bool, true, false, if◌then◌else◌, List, [], ◌∷◌, length, drop, drop-cons, add-one, get_or, zero, suc, refl, sym, ap, ◌∙◌, subst, arith, rules, IsTrue, true≢false}
use Rattle.std.proofs.lemmas.Bool.Decides.{nat_tests}
use Rattle.std.proofs.lemmas.List.{drop_all}
use Rattle.vlt_core.specs.Core.{Tok, a_key, a_var}
use Rattle.vlt_core.specs.Maps.{is_tok, absent}
use Rattle.vlt_core.specs.View.{tok_of}
use Rattle.vlt_core.specs.HeldView.{status_of}
use Rattle.vlt_keyset.specs.Pairs.{Pair, map_of_pairs, IsBefore, ComesFirst, IsPresent, AreInOrder}

pub not_true : (b : Bool) → b ≡ false → IsTrue b → ⊥
not_true true e t = cc
not_true false e t = search rules

pub yes_true : (b : Bool) → b ≡ true → IsTrue b
yes_true true e = search rules
yes_true false e = cc

-- ---- tokens

pub before_not_same : (t u : Tok) → IsBefore t u → is_tok t u ≡ false
before_not_same (a_key k) (a_key j) b = grind (arith, nat_tests)
before_not_same (a_key k) (a_var w) b = refl
before_not_same (a_var v) (a_key j) b = absurd b
before_not_same (a_var v) (a_var w) b = grind (arith, nat_tests)

pub after_not_same : (t u : Tok) → IsBefore u t → is_tok t u ≡ false
after_not_same (a_key k) (a_key j) b = grind (arith, nat_tests)
after_not_same (a_key k) (a_var w) b = absurd b
after_not_same (a_var v) (a_key j) b = refl
after_not_same (a_var v) (a_var w) b = grind (arith, nat_tests)

same_number : (k : ℕ) → (k == k) ≡ true
same_number k = grind (arith, nat_tests)

pub is_same : (t : Tok) → is_tok t t ≡ true
is_same (a_key k) = same_number k
is_same (a_var v) = same_number v

pub other_tok : (t u : Tok) (b : Bool) → b ≡ is_tok t u → b ≡ false → (t ≡ u → ⊥)
other_tok t u b is differ e = true≢false (sym (is_same t) ∙ ap (is_tok t) e ∙ sym is ∙ differ)

equal_number : (k j : ℕ) → (k == j) ≡ true → k ≡ j
equal_number k j e = grind (arith, nat_tests)

pub equal_tok : (t u : Tok) → is_tok t u ≡ true → t ≡ u
equal_tok (a_key k) (a_key j) e = ap a_key (equal_number k j e)
equal_tok (a_key k) (a_var j) e = cc
equal_tok (a_var k) (a_key j) e = cc
equal_tok (a_var k) (a_var j) e = ap a_var (equal_number k j e)

pub before_trans : (t u w : Tok) → IsBefore t u → IsBefore u w → IsBefore t w
before_trans (a_key k) (a_key j) (a_key i) p q = omega arith
before_trans (a_key k) (a_key j) (a_var w) p q = tt
before_trans (a_key k) (a_var v) (a_key i) p q = absurd q
before_trans (a_key k) (a_var v) (a_var w) p q = tt
before_trans (a_var v) (a_key j) w p q = absurd p
before_trans (a_var v) (a_var w) (a_key i) p q = absurd q
before_trans (a_var v) (a_var w) (a_var x) p q = omega arith

pub never_before : (t : Tok) → IsBefore t t → ⊥
never_before (a_key k) p = omega arith
never_before (a_var v) p = omega arith

numbers : (m n : ℕ) → (m < n) ⊎ ((m ≡ n) ⊎ (n < m))
numbers m n = grind arith

pub one_first : (t u : Tok) → IsBefore t u ⊎ ((t ≡ u) ⊎ IsBefore u t)
one_first (a_key k) (a_key j) = ⊎_elim (λ a. inl a) (λ b. ⊎_elim (λ e. inr (inl (ap a_key e))) (λ c. inr (inr c)) b) (numbers k j)
one_first (a_key k) (a_var w) = inl tt
one_first (a_var v) (a_key j) = inr (inr tt)
one_first (a_var v) (a_var w) = ⊎_elim (λ a. inl a) (λ b. ⊎_elim (λ e. inr (inl (ap a_var e))) (λ c. inr (inr c)) b) (numbers v w)

-- a token that isn't before nor the same is after
pub else_after : (t u : Tok) → (IsBefore u t → ⊥) → (u ≡ t → ⊥) → IsBefore t u
else_after t u never other = ⊎_elim (λ a. a) (λ b. ⊎_elim (λ e. absurd (other (sym e))) (λ c. absurd (never c)) b) (one_first t u)

-- ---- lists

-- a token before all of a list isn't in it
pub absent_before : (t : Tok) (xs : List Pair) → ComesFirst t xs → map_of_pairs xs t ≡ absent
absent_before t [] f = refl
absent_before t (x ∷ xs) f = ap (λ b. if b then status_of x.1 else map_of_pairs xs t) (before_not_same t (tok_of x.0) f.0) ∙ absent_before t xs f.1

pub first_before : (t u : Tok) (xs : List Pair) → IsBefore t u → ComesFirst u xs → ComesFirst t xs
first_before t u [] b f = tt
first_before t u (x ∷ xs) b f = (before_trans t u (tok_of x.0) b f.0, first_before t u xs b f.1)

-- a list in order that begins after a token
pub all_after : (t : Tok) (x : Pair) (xs : List Pair) → AreInOrder (x ∷ xs) → IsBefore t (tok_of x.0) → ComesFirst t (x ∷ xs)
all_after t x xs o b = (b, first_before t (tok_of x.0) xs b o.1)

pub split_at : {X : Type 0} (xs : List X) (i : ℕ) (x : X) → i < length xs → x ≡ get_or xs i x → drop i xs ≡ x ∷ drop (i + 1) xs
split_at xs i x lt read = rw add-one (drop-cons xs i x lt ∙ ap (λ y. y ∷ drop (suc i) xs) (sym read))

-- ---- lists in order

pub order_drop : (i : ℕ) (xs : List Pair) → AreInOrder xs → AreInOrder (drop i xs)
order_drop zero xs o = o
order_drop (suc i) [] o = tt
order_drop (suc i) (x ∷ xs) o = order_drop i xs o.2

pub present_at : (xs : List Pair) (i : ℕ) (x : Pair) → AreInOrder xs → drop i xs ≡ x ∷ drop (i + 1) xs → IsPresent x.1
present_at xs i x o split = (subst AreInOrder split (order_drop i xs o)).0

pub before_at : (xs : List Pair) (i : ℕ) (x y : Pair) → AreInOrder xs → drop i xs ≡ x ∷ drop (i + 1) xs → drop (i + 1) xs ≡ y ∷ drop (i + 1 + 1) xs → IsBefore (tok_of x.0) (tok_of y.0)
before_at xs i x y o split next = (subst (ComesFirst (tok_of x.0)) next (subst AreInOrder split (order_drop i xs o)).1).0

pub order_more : (xs : List Pair) (i : ℕ) (x : Pair) → drop i xs ≡ x ∷ drop (i + 1) xs → IsPresent x.1 → ((y : Pair) (rest : List Pair) → drop (i + 1) xs ≡ y ∷ rest → IsBefore (tok_of x.0) (tok_of y.0)) → AreInOrder (drop (i + 1) xs) → AreInOrder (drop i xs)
order_more xs i x split some next o = subst AreInOrder (sym split) (some, firsts (drop (i + 1) xs) (λ y rest e. next y rest e) o, o)
  where
    firsts : (ys : List Pair) → ((y : Pair) (rest : List Pair) → ys ≡ y ∷ rest → IsBefore (tok_of x.0) (tok_of y.0)) → AreInOrder ys → ComesFirst (tok_of x.0) ys
    firsts [] b o = tt
    firsts (y ∷ ys) b o = all_after (tok_of x.0) y ys o (b y ys refl)

-- the list from its last places on
pub order_back : (xs : List Pair) (j : ℕ) (x : Pair) → j < length xs → x ≡ get_or xs (length xs - 1 - j) x → IsPresent x.1 → ((y : Pair) (rest : List Pair) → drop (length xs - 1 - j + 1) xs ≡ y ∷ rest → IsBefore (tok_of x.0) (tok_of y.0)) → AreInOrder (drop (length xs - j) xs) → AreInOrder (drop (length xs - (j + 1)) xs)
order_back xs j x lt read some next o =
    let here : length xs - 1 - j ≡ length xs - (j + 1) = omega arith in
    let next_place : length xs - j ≡ length xs - 1 - j + 1 = omega arith in
    subst (λ i. AreInOrder (drop i xs)) here
    (order_more xs (length xs - 1 - j) x (split_at xs (length xs - 1 - j) x (omega arith) read) some next (subst (λ i. AreInOrder (drop i xs)) next_place o))

pub next_is : (xs : List Pair) (i : ℕ) (x z : Pair) → drop i xs ≡ z ∷ drop (i + 1) xs → IsBefore (tok_of x.0) (tok_of z.0) → (y : Pair) (rest : List Pair) → drop i xs ≡ y ∷ rest → IsBefore (tok_of x.0) (tok_of y.0)
next_is xs i x z split b y rest e = subst (λ p. IsBefore (tok_of x.0) (tok_of p.0)) (heads z y (drop (i + 1) xs) rest (sym split ∙ e)) b
  where
    heads : (y x : Pair) (rest more : List Pair) → y ∷ rest ≡ x ∷ more → y ≡ x
    heads y x rest more e = cc

pub next_none : (xs : List Pair) (i : ℕ) (x : Pair) → length xs ≤ i → (y : Pair) (rest : List Pair) → drop i xs ≡ y ∷ rest → IsBefore (tok_of x.0) (tok_of y.0)
next_none xs i x past y rest e = absurd (no y rest (sym (drop_all i xs past) ∙ e))
  where
    no : (y : Pair) (rest : List Pair) → [] ≡ y ∷ rest → ⊥
    no y rest e = cc
