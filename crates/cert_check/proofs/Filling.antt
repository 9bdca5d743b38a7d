-- Maps of pairs, filled from the last pair on.
use Rattle.std.proofs.Common.{◌≡◌, ◌<◌, ◌≤◌, ◌-◌, ◌+◌, ℕ, zero, suc, Bool, true, false, if◌then◌else◌, List, [], ◌∷◌, length, drop, get_or, refl, sym, ap, ◌∙◌, subst, arith}
use Rattle.std.proofs.lemmas.List.{drop_all}
use Rattle.std.proofs.lemmas.Bool.Decides.{nat_tests}
use Rattle.vlt_base.specs.States.{has_state}
use Rattle.vlt_base.specs.declared.states.StateSet.{StateSet}
use Rattle.vlt_core.specs.Core as core
use Rattle.vlt_core.specs.Core.{a_key, a_var}
use Rattle.vlt_core.specs.Maps as maps
use Rattle.vlt_core.specs.Maps.{HeldMap, is_tok, row_passed, absent, held, lent}
use Rattle.vlt_core.specs.View.{tok_of}
use Rattle.vlt_core.specs.HeldView.{status_of}
use Rattle.vlt_core.specs.declared.held.Tok.{Tok}
use Rattle.vlt_core.specs.declared.held.Wanted.TheVariants as wanted
use Rattle.vlt_core.specs.declared.held.After.TheVariants as after
use Rattle.vlt_keyset.specs.Pairs.{Pair, map_of_pairs, IsBefore, ComesFirst, IsPresent, AreInOrder}
use Rattle.cert_check.specs.Dense.{row_to, with_status}
use Rattle.cert_check.proofs.Rowing.{split_at}

same_tok : (t : core.Tok) → is_tok t t ≡ true
same_tok (a_key k) = grind (arith, nat_tests)
same_tok (a_var v) = grind (arith, nat_tests)

before_not_same : (t u : core.Tok) → IsBefore t u → is_tok t u ≡ false
before_not_same (a_key k) (a_key j) b = grind (arith, nat_tests)
before_not_same (a_key k) (a_var w) b = refl
before_not_same (a_var v) (a_key j) b = absurd b
before_not_same (a_var v) (a_var w) b = grind (arith, nat_tests)

-- a token before all of a list isn't in it
absent_before : (t : core.Tok) (xs : List Pair) → ComesFirst t xs → map_of_pairs xs t ≡ absent
absent_before t [] f = refl
absent_before t (x ∷ xs) f = ap (λ b. if b then status_of x.1 else map_of_pairs xs t) (before_not_same t (tok_of x.0) f.0) ∙ absent_before t xs f.1

order_drop : (i : ℕ) (xs : List Pair) → AreInOrder xs → AreInOrder (drop i xs)
order_drop zero xs o = o
order_drop (suc i) [] o = tt
order_drop (suc i) (x ∷ xs) o = order_drop i xs o.2

-- a key is held, and then lent
pub lent_after : (t : Tok) (s : StateSet) (h g k : HeldMap) → g ≡ row_passed (row_to t wanted.Absent (after.Set s)) h → k ≡ row_passed (row_to t wanted.Any after.Lend) g →
    k ≡ with_status (tok_of t) (lent (has_state s)) h
lent_after t s h g k first second = second ∙ ap (row_passed (row_to t wanted.Any after.Lend)) first ∙ (λ i u. each u i)
  where
    each : (u : core.Tok) → row_passed (row_to t wanted.Any after.Lend) (row_passed (row_to t wanted.Absent (after.Set s)) h) u ≡ with_status (tok_of t) (lent (has_state s)) h u
    each u = by (is_tok u (tok_of t)) refl
      where
        by : (b : Bool) → is_tok u (tok_of t) ≡ b → row_passed (row_to t wanted.Any after.Lend) (row_passed (row_to t wanted.Absent (after.Set s)) h) u ≡ with_status (tok_of t) (lent (has_state s)) h u
        by true e = rw (e, same_tok (tok_of t)) refl
        by false e = rw e refl

-- then it is held in these states
pub held_after : (t : Tok) (s : StateSet) (h g : HeldMap) → g ≡ row_passed (row_to t wanted.Absent (after.Set s)) h → maps.kind_of (g (tok_of t)) ≡ maps.is_held
held_after t s h g e = ap (λ m. maps.kind_of (m (tok_of t))) e ∙ ap (λ b. maps.kind_of (if b then held (has_state s) else h (tok_of t))) (same_tok (tok_of t))

module _ (xs : List Pair) (j : ℕ) (x : Pair) (order : AreInOrder xs) (lt : j < length xs) (read : x ≡ get_or xs (length xs - 1 - j) x) where
  split : drop (length xs - (j + 1)) xs ≡ x ∷ drop (length xs - j) xs
  split =
      let here : length xs - 1 - j ≡ length xs - (j + 1) = omega arith in
      let next : length xs - (j + 1) + 1 ≡ length xs - j = omega (arith, lt) in
      split_at xs (length xs - (j + 1)) x (omega (arith, lt)) (subst (λ i. x ≡ get_or xs i x) here read) ∙ ap (λ i. x ∷ drop i xs) next

  ordered : AreInOrder (x ∷ drop (length xs - j) xs)
  ordered = subst AreInOrder split (order_drop (length xs - (j + 1)) xs order)

  pub next_absent : (h : HeldMap) → h ≡ map_of_pairs (drop (length xs - j) xs) → h (tok_of x.0) ≡ absent
  next_absent h is = ap (λ m. m (tok_of x.0)) is ∙ absent_before (tok_of x.0) (drop (length xs - j) xs) ordered.1

  pub next_present : IsPresent x.1
  next_present = ordered.0

  pub next_filled : (h k : HeldMap) → h ≡ map_of_pairs (drop (length xs - j) xs) → k ≡ with_status (tok_of x.0) (status_of x.1) h → k ≡ map_of_pairs (drop (length xs - (j + 1)) xs)
  next_filled h k is e = e ∙ ap (with_status (tok_of x.0) (status_of x.1)) is ∙ sym (ap map_of_pairs split)

pub filled_first : (xs : List Pair) (h : HeldMap) → h ≡ (λ t. absent) → h ≡ map_of_pairs (drop (length xs - 0) xs)
filled_first xs h e = e ∙ (λ i t. absent) ∙ sym (ap map_of_pairs (drop_all (length xs - 0) xs (omega arith)))

pub filled_all : (xs : List Pair) (j : ℕ) (h : HeldMap) → length xs ≤ j → h ≡ map_of_pairs (drop (length xs - j) xs) → h ≡ map_of_pairs xs
filled_all xs j h past e = e ∙ ap (λ n. map_of_pairs (drop n xs)) (let z : length xs - j ≡ 0 = omega (arith, past) in z)
