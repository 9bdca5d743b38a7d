-- Places in a list of pairs, and a map against the list's up to a place.
use Rattle.std.proofs.Common.{◌≡◌, ◌<◌, ◌≤◌, ◌+◌, ◌⊎◌, inl, inr, ⊎_elim, ℕ, if◌then◌else◌, List, [], ◌∷◌, length, drop, refl, sym, ap, ◌∙◌, subst, arith}
use Rattle.std.proofs.lemmas.Bool.{cases_lt}
use Rattle.std.proofs.lemmas.List.{drop_all, get_or_past}
use Rattle.vlt_core.specs.Core.{Tok, a_key, a_var}
use Rattle.vlt_core.specs.Maps as maps
use Rattle.vlt_core.specs.Maps.{HeldMap, IsStatusBelow, IsBelow, is_tok, absent}
use Rattle.vlt_core.specs.View.{tok_of}
use Rattle.vlt_core.specs.HeldView.{status_of}
use Rattle.vlt_core.specs.declared.held.Status as DS
use Rattle.vlt_core.specs.declared.held.Status.TheVariants as status
use Rattle.vlt_core.specs.declared.held.Status.TheVariants.{Absent}
use Rattle.vlt_core.proofs.Maps.{status_refl}
use Rattle.vlt_keyset.specs.Pairs.{Pair, map_of_pairs, IsBefore, ComesFirst, IsPresent, AreInOrder}
use Rattle.vlt_keyset.specs.Held.{Statuses, map_of, IsApart}
use Rattle.vlt_keyset.specs.Cursors.{NoneBefore, IsAt, IsPast, AreBelow}
use Rattle.vlt_keyset.specs.declared.faults.Apart.{Apart}
use Rattle.vlt_keyset.proofs.Ordered.{after_not_same, is_same, before_trans, never_before, one_first, else_after, absent_before, first_before, all_after}

-- ---- places

module _ (xs : List Pair) (i : ℕ) (t : Tok) (g : IsAt xs i t) where
  -- the pair at the place is the token's
  pub at_hit : (x : Pair) → i < length xs → drop i xs ≡ x ∷ drop (i + 1) xs → tok_of x.0 ≡ t → (status_of x.1 ≡ map_of_pairs xs t) × IsPast xs (i + 1) t
  at_hit x lt split is =
      let order = subst AreInOrder split g.order in (
        sym (g.same t (never_before t) ∙ ap (λ l. map_of_pairs l t) split ∙ ap (λ b. if b then status_of x.1 else map_of_pairs (drop (i + 1) xs) t) (ap (is_tok t) is ∙ is_same t)),
        record {
          few = omega arith;
          same = λ u b.
              g.same u (λ c. never_before u (before_trans u t u c b)) ∙ ap (λ l. map_of_pairs l u) split ∙
              ap (λ b. if b then status_of x.1 else map_of_pairs (drop (i + 1) xs) u) (ap (is_tok u) is ∙ after_not_same u t b);
          from = subst (λ w. ComesFirst w (drop (i + 1) xs)) is order.1;
          order = order.2;
        },
      )

  -- nothing is left
  pub at_end : length xs ≤ i → (absent ≡ map_of_pairs xs t) × IsPast xs i t
  at_end past =
      let all : drop i xs ≡ [] = drop_all i xs past in (
        sym (g.same t (never_before t) ∙ ap (λ l. map_of_pairs l t) all),
        record {
          few = g.few;
          same = λ u b. g.same u (λ c. never_before u (before_trans u t u c b));
          from = subst (ComesFirst t) (sym all) tt;
          order = g.order;
        },
      )

  -- the pair at the place is another's
  pub at_miss : (x : Pair) → drop i xs ≡ x ∷ drop (i + 1) xs → (tok_of x.0 ≡ t → ⊥) → (absent ≡ map_of_pairs xs t) × IsPast xs i t
  at_miss x split other =
      let order = subst AreInOrder split g.order in
      let from = subst (NoneBefore t) split g.from in
      let all : ComesFirst t (drop i xs) = subst (ComesFirst t) (sym split) (all_after t x (drop (i + 1) xs) order (else_after t (tok_of x.0) from.0 other)) in (
        sym (g.same t (never_before t) ∙ absent_before t (drop i xs) all),
        record {
          few = g.few;
          same = λ u b. g.same u (λ c. never_before u (before_trans u t u c b));
          from = all;
          order = g.order;
        },
      )

-- ---- the next token

-- one token is after another, and none is between
abbrev pub IsNext : Tok → Tok → Type 0
IsNext t u = (IsBefore t u) × ((w : Tok) → IsBefore w u → IsBefore w t ⊎ (w ≡ t))

pub next_key : (k : ℕ) → IsNext (a_key k) (a_key (k + 1))
next_key k = (omega arith, one)
  where
    near : (i : ℕ) → i < k + 1 → (i < k) ⊎ (i ≡ k)
    near i lt = grind arith

    one : (w : Tok) → IsBefore w (a_key (k + 1)) → IsBefore w (a_key k) ⊎ (w ≡ a_key k)
    one (a_key i) b = ⊎_elim (λ l. inl l) (λ e. inr (ap a_key e)) (near i b)
    one (a_var v) b = absurd b

pub next_var : (k : ℕ) → IsNext (a_var k) (a_var (k + 1))
next_var k = (omega arith, one)
  where
    near : (i : ℕ) → i < k + 1 → (i < k) ⊎ (i ≡ k)
    near i lt = grind arith

    one : (w : Tok) → IsBefore w (a_var (k + 1)) → IsBefore w (a_var k) ⊎ (w ≡ a_var k)
    one (a_key i) b = inl tt
    one (a_var i) b = ⊎_elim (λ l. inl l) (λ e. inr (ap a_var e)) (near i b)

none_next : (t u : Tok) (xs : List Pair) → IsNext t u → ComesFirst t xs → NoneBefore u xs
none_next t u [] n f = tt
none_next t u (x ∷ xs) n f = (
  λ b. ⊎_elim (λ a. never_before t (before_trans t (tok_of x.0) t f.0 a)) (λ e. never_before t (subst (IsBefore t) e f.0)) (n.1 (tok_of x.0) b),
  none_next t u xs n f.1,
)

-- what isn't before the next token is after this one
pub after_next : (t u w : Tok) → IsNext t u → (IsBefore w u → ⊥) → IsBefore t w
after_next t u w n never = else_after t w (λ b. never (before_trans w t u b n.0)) (λ e. never (subst (λ x. IsBefore x u) (sym e) n.0))

pub past_next : (xs : List Pair) (i : ℕ) (t u : Tok) → IsNext t u → IsPast xs i t → IsAt xs i u
past_next xs i t u n p = record {
  few = p.few;
  same = λ w never. p.same w (after_next t u w n never);
  from = none_next t u (drop i xs) n p.from;
  order = p.order;
}

pub below_next : (h k : HeldMap) (t u : Tok) → IsNext t u → AreBelow h k t → IsStatusBelow (h t) (k t) → AreBelow h k u
below_next h k t u n all here w b = ⊎_elim (all w) (λ e. subst (λ x. IsStatusBelow (h x) (k x)) (sym e) here) (n.1 w b)

pub none_before_first : (xs : List Pair) → NoneBefore (a_key 0) xs
none_before_first [] = tt
none_before_first (x ∷ xs) = (never (tok_of x.0), none_before_first xs)
  where
    never : (t : Tok) → IsBefore t (a_key 0) → ⊥
    never (a_key k) b = omega arith
    never (a_var v) b = b

pub at_first : (xs : List Pair) → AreInOrder xs → IsAt xs 0 (a_key 0)
at_first xs o = record { few = omega arith; same = λ u never. refl; from = none_before_first xs; order = o }

pub below_first : (h k : HeldMap) → AreBelow h k (a_key 0)
below_first h k (a_key i) b = absurd (none i b)
  where
    none : (i : ℕ) → i < 0 → ⊥
    none i b = omega arith
below_first h k (a_var i) b = absurd b

-- ---- tokens past the function's last

-- every token that isn't before t, but before the bound, is absent
abbrev pub IsBare : HeldMap → Tok → (Tok → Type 0) → Type 0
IsBare h t In = (w : Tok) → (IsBefore w t → ⊥) → In w → h w ≡ absent

some_apart : (s : DS.Status) → IsPresent s → IsStatusBelow absent (status_of s) → ⊥
some_apart status.Absent some b = some
some_apart (status.Held m) some b = never b.kind
  where
    never : maps.kind_of absent ≡ maps.kind_of (status_of (status.Held m)) → ⊥
    never e = cc
some_apart (status.Lent m) some b = never b.kind
  where
    never : maps.kind_of absent ≡ maps.kind_of (status_of (status.Lent m)) → ⊥
    never e = cc
some_apart status.Full some b = never b.kind
  where
    never : maps.kind_of absent ≡ maps.kind_of (status_of status.Full) → ⊥
    never e = cc

-- the pair at the place is of a token that the map doesn't have
pub left_apart : (xs : List Pair) (i : ℕ) (t : Tok) (h : HeldMap) (x : Pair) (r : Apart) →
    IsAt xs i t → AreBelow h (map_of_pairs xs) t → drop i xs ≡ x ∷ drop (i + 1) xs →
    ((w : Tok) → (IsBefore w t → ⊥) → IsBefore w (tok_of x.0) ⊎ (w ≡ tok_of x.0) → h w ≡ absent) →
    tok_of r.tok ≡ tok_of x.0 → status_of r.found ≡ absent → status_of r.wanted ≡ status_of x.1 → IsApart h (map_of_pairs xs) r
left_apart xs i t h x r g all split bare tok found wanted =
    let order = subst AreInOrder split g.order in
    let from = subst (NoneBefore t) split g.from in
    let bare_here : h (tok_of x.0) ≡ absent = bare (tok_of x.0) from.0 (inr refl) in
    let given : map_of_pairs xs (tok_of x.0) ≡ status_of x.1 =
    g.same (tok_of x.0) from.0 ∙ ap (λ l. map_of_pairs l (tok_of x.0)) split ∙
    ap (λ b. if b then status_of x.1 else map_of_pairs (drop (i + 1) xs) (tok_of x.0)) (is_same (tok_of x.0)) in
    record {
      found = found ∙ sym (ap h tok ∙ bare_here);
      wanted = wanted ∙ sym (ap (map_of_pairs xs) tok ∙ given);
      apart = λ b. some_apart x.1 order.0 (subst (λ s. IsStatusBelow s (status_of x.1)) (ap h tok ∙ bare_here) (subst (IsStatusBelow (h (tok_of r.tok))) (ap (map_of_pairs xs) tok ∙ given) b));
      first = λ u b. at_or_not u (subst (IsBefore u) tok b);
    }
  where
    both_absent : (u : Tok) → h u ≡ absent → map_of_pairs xs u ≡ absent → IsStatusBelow (h u) (map_of_pairs xs u)
    both_absent u p q = rw (p, q) (status_refl absent)

    at_or_not : (u : Tok) → IsBefore u (tok_of x.0) → IsStatusBelow (h u) (map_of_pairs xs u)
    at_or_not u b = ⊎_elim (all u)
        (λ c. let never : IsBefore u t → ⊥ = ⊎_elim (λ e v. never_before t (subst (λ w. IsBefore w t) e v)) (λ d v. never_before t (before_trans t u t d v)) c in
        both_absent u (bare u never (inl b))
        (g.same u never ∙ absent_before u (drop i xs) (subst (ComesFirst u) (sym split) (b, first_before u (tok_of x.0) (drop (i + 1) xs) b (subst AreInOrder split g.order).1))))
        (one_first u t)

past_key : (st : Statuses) (n i : ℕ) → length st.keys ≤ n → n ≤ i → map_of st (a_key i) ≡ absent
past_key st n i few past = ap status_of (get_or_past st.keys i Absent (omega arith))

past_var : (st : Statuses) (n i : ℕ) → length st.vars ≤ n → n ≤ i → map_of st (a_var i) ≡ absent
past_var st n i few past = ap status_of (get_or_past st.vars i Absent (omega arith))

bare_keys : (st : Statuses) (n : ℕ) (t w : Tok) → length st.keys ≤ n → IsBefore t (a_var 0) → (IsBefore w (a_key n) → ⊥) → IsBefore w t ⊎ (w ≡ t) → map_of st w ≡ absent
bare_keys st n (a_key j) (a_key i) few key never c = past_key st n i few (omega (arith, never))
bare_keys st n (a_key j) (a_var i) few key never c = absurd (⊎_elim (λ b. b) (λ e. no e) c)
  where
    no : a_var i ≡ a_key j → ⊥
    no e = cc
bare_keys st n (a_var j) w few key never c = absurd (none j key)
  where
    none : (j : ℕ) → j < 0 → ⊥
    none j b = omega arith

bare_vars : (st : Statuses) (n : ℕ) (w : Tok) → length st.vars ≤ n → (IsBefore w (a_var n) → ⊥) → map_of st w ≡ absent
bare_vars st n (a_key i) few never = absurd (never tt)
bare_vars st n (a_var i) few never = past_var st n i few (omega (arith, never))

pub key_left : (xs : List Pair) (i n : ℕ) (st : Statuses) (x : Pair) (r : Apart) → length st.keys ≤ n →
    IsAt xs i (a_key n) → AreBelow (map_of st) (map_of_pairs xs) (a_key n) → drop i xs ≡ x ∷ drop (i + 1) xs → IsBefore (tok_of x.0) (a_var 0) →
    tok_of r.tok ≡ tok_of x.0 → status_of r.found ≡ absent → status_of r.wanted ≡ status_of x.1 → IsApart (map_of st) (map_of_pairs xs) r
key_left xs i n st x r few g all split key = left_apart xs i (a_key n) (map_of st) x r g all split (λ w never c. bare_keys st n (tok_of x.0) w few key never c)

pub var_left : (xs : List Pair) (i n : ℕ) (st : Statuses) (x : Pair) (r : Apart) → length st.vars ≤ n →
    IsAt xs i (a_var n) → AreBelow (map_of st) (map_of_pairs xs) (a_var n) → drop i xs ≡ x ∷ drop (i + 1) xs →
    tok_of r.tok ≡ tok_of x.0 → status_of r.found ≡ absent → status_of r.wanted ≡ status_of x.1 → IsApart (map_of st) (map_of_pairs xs) r
var_left xs i n st x r few g all split = left_apart xs i (a_var n) (map_of st) x r g all split (λ w never c. bare_vars st n w few never)

-- ---- no key is left

-- a list in order whose first token isn't a key has no key
no_keys : (xs : List Pair) → AreInOrder xs → ((x : Pair) (rest : List Pair) → xs ≡ x ∷ rest → IsBefore (tok_of x.0) (a_var 0) → ⊥) → NoneBefore (a_var 0) xs
no_keys [] o first = tt
no_keys (x ∷ xs) o first = (first x xs refl, later (tok_of x.0) xs (first x xs refl) o.1)
  where
    later : (t : Tok) (xs : List Pair) → (IsBefore t (a_var 0) → ⊥) → ComesFirst t xs → NoneBefore (a_var 0) xs
    later t [] never f = tt
    later t (y ∷ ys) never f = ((λ b. never (before_trans t (tok_of y.0) (a_var 0) f.0 b)), later t ys never f.1)

key_first : (k : ℕ) (xs : List Pair) → NoneBefore (a_var 0) xs → ComesFirst (a_key k) xs
key_first k [] n = tt
key_first k (x ∷ xs) n = (one (tok_of x.0) n.0, key_first k xs n.1)
  where
    one : (t : Tok) → (IsBefore t (a_var 0) → ⊥) → IsBefore (a_key k) t
    one (a_key j) never = absurd (never tt)
    one (a_var v) never = tt

pub keys_at : (xs : List Pair) (i n : ℕ) → IsAt xs i (a_key n) → NoneBefore (a_var 0) (drop i xs) → IsAt xs i (a_var 0)
keys_at xs i n g none = record { few = g.few; same = one; from = none; order = g.order }
  where
    one : (u : Tok) → (IsBefore u (a_var 0) → ⊥) → map_of_pairs xs u ≡ map_of_pairs (drop i xs) u
    one (a_key k) never = absurd (never tt)
    one (a_var v) never = g.same (a_var v) (λ b. b)

pub keys_below : (xs : List Pair) (i n : ℕ) (st : Statuses) → length st.keys ≤ n → IsAt xs i (a_key n) → AreBelow (map_of st) (map_of_pairs xs) (a_key n) → NoneBefore (a_var 0) (drop i xs) → AreBelow (map_of st) (map_of_pairs xs) (a_var 0)
keys_below xs i n st few g all none (a_key k) b = ⊎_elim (all (a_key k)) (λ ge. rw (past_key st n k few ge, given ge) (status_refl absent)) (cases_lt k n)
  where
    given : n ≤ k → map_of_pairs xs (a_key k) ≡ absent
    given ge = g.same (a_key k) (λ lt. omega arith) ∙ absent_before (a_key k) (drop i xs) (key_first k (drop i xs) none)
keys_below xs i n st few g all none (a_var v) b = absurd (no v b)
  where
    no : (v : ℕ) → v < 0 → ⊥
    no v b = omega arith

-- the pair at the place isn't a key's, or nothing is left
pub no_key_here : (xs : List Pair) (i : ℕ) (x : Pair) → AreInOrder (drop i xs) → drop i xs ≡ x ∷ drop (i + 1) xs → (IsBefore (tok_of x.0) (a_var 0) → ⊥) → NoneBefore (a_var 0) (drop i xs)
no_key_here xs i x o split never = no_keys (drop i xs) o (λ y rest e b. never (subst (λ p. IsBefore (tok_of p.0) (a_var 0)) (heads y x rest (drop (i + 1) xs) (sym e ∙ split)) b))
  where
    heads : (y x : Pair) (rest more : List Pair) → y ∷ rest ≡ x ∷ more → y ≡ x
    heads y x rest more e = cc

pub nothing_here : (xs : List Pair) (i : ℕ) → length xs ≤ i → NoneBefore (a_var 0) (drop i xs)
nothing_here xs i past = subst (NoneBefore (a_var 0)) (sym (drop_all i xs past)) tt

-- ---- nothing is left

pub all_below : (xs : List Pair) (i n : ℕ) (st : Statuses) → length st.vars ≤ n → length xs ≤ i → IsAt xs i (a_var n) → AreBelow (map_of st) (map_of_pairs xs) (a_var n) → IsBelow (map_of st) (map_of_pairs xs)
all_below xs i n st few past g all = record { each = one }
  where
    given : (v : ℕ) → n ≤ v → map_of_pairs xs (a_var v) ≡ absent
    given v ge = g.same (a_var v) (λ lt. omega arith) ∙ ap (λ l. map_of_pairs l (a_var v)) (drop_all i xs past)

    one : (u : Tok) → IsStatusBelow (map_of st u) (map_of_pairs xs u)
    one (a_key k) = all (a_key k) tt
    one (a_var v) = ⊎_elim (all (a_var v)) (λ ge. rw (past_var st n v few ge, given v ge) (status_refl absent)) (cases_lt v n)
