-- Rows that take the objects of keys, and rows that want tokens away.
use Rattle.std.proofs.Common.{◌≡◌, ◌⊎◌, inl, inr, ⊎_elim, ℕ, suc, ◌+◌, ◌<◌, ◌==◌, Bool, true, false, ◌||◌, if◌then◌else◌, List, [], ◌∷◌, ◌++◌, map, filter, length, Some, refl, sym, ap, ◌∙◌, subst, arith, slice_get}
use Rattle.std.proofs.lemmas.Bool.{cases_eq, cases_Bool, eq-eqb}
use Rattle.std.specs.List.{list_all, range_with_len, enumerate_from}
use Rattle.vlt_core.specs.Core.{Tok, a_key, a_var, Entry, Func}
use Rattle.vlt_core.specs.Lookups.{is_owning_var, owning_vars}
use Rattle.vlt_core.specs.Maps as maps
use Rattle.vlt_core.specs.Maps.{kind_of, is_absent, HeldMap, Wanted, IsWanted, becomes_absent, Row, row_passed, CanPass, map_after}
use Rattle.vlt_core.specs.Rows.{row, tokens_of}
use Rattle.vlt_core.specs.KindedHeads.{has}
use Rattle.vlt_meaning.specs.World.{Object}
use Rattle.vlt_sound_worlds.proofs.Rows.{row_other}
use Rattle.vlt_sound_worlds.proofs.Leaving.{key_same}
use Rattle.vlt_sound_worlds.proofs.Binding.{first_or_other}
use Rattle.vlt_sound_calls.specs.Callee.{AreApartBy}
use Rattle.vlt_sound_calls.specs.Among.{Among}
use Rattle.vlt_sound_calls.proofs.Parameters.{in_range}

-- ---- rows that take

abbrev pub take_rows : (at : Entry → ℕ) → (Entry → Wanted) → List Entry → List Row
take_rows at wants es = map (λ e. row (a_key (at e)) (wants e) becomes_absent) es

module _ (at : Entry → ℕ) (wants : Entry → Wanted) where
  take : Entry → Row
  take e = row (a_key (at e)) (wants e) becomes_absent

  pub take_other : (es : List Entry) (h : HeldMap) (t : Tok) → ((e : Entry) → Among e es → t ≡ a_key (at e) → ⊥) →
      map_after (take_rows at wants es) h t ≡ h t
  take_other [] h t off = refl
  take_other (x ∷ es) h t off =
      take_other es (row_passed (row (a_key (at x)) (wants x) becomes_absent) h) t (λ e i. off e (inr i)) ∙
      row_other (row (a_key (at x)) (wants x) becomes_absent) h t (off x (inl refl))

  pub take_wanted : (es : List Entry) → AreApartBy at es → (h : HeldMap) → CanPass (take_rows at wants es) h → (e : Entry) →
      Among e es → IsWanted (wants e) (h (a_key (at e)))
  take_wanted [] apart h pass e i = absurd i
  take_wanted (x ∷ es) apart h pass e (inl same) =
      subst (λ d. IsWanted (wants d) (h (a_key (at d)))) (sym same) pass.0
  take_wanted (x ∷ es) apart h pass e (inr rest) =
      subst (IsWanted (wants e))
      (row_other (row (a_key (at x)) (wants x) becomes_absent) h (a_key (at e)) (λ same. apart.0 e rest (key_same same)))
      (take_wanted es apart.1 (row_passed (row (a_key (at x)) (wants x) becomes_absent) h) pass.1 e rest)

-- ---- rows that want tokens away

pub gone_absent : (ts : List Tok) (h : HeldMap) → CanPass (map maps.away_row ts) h → (t : Tok) → Among t ts →
    kind_of (h t) ≡ is_absent
gone_absent [] h pass t i = absurd i
gone_absent (u ∷ ts) h pass t (inl same) = subst (λ t. kind_of (h t) ≡ is_absent) (sym same) pass.0
gone_absent (u ∷ ts) h pass t (inr rest) = ⊎_elim
    (λ same. subst (λ t. kind_of (h t) ≡ is_absent) (sym same) pass.0)
    (λ other. subst (λ s. kind_of s ≡ is_absent) (row_other (maps.away_row u) h t other)
    (gone_absent ts (row_passed (maps.away_row u) h) pass.1 t rest))
    (same_tok t u)
  where
    same_tok : (t u : Tok) → (t ≡ u) ⊎ (t ≡ u → ⊥)
    same_tok (a_key k) (a_key j) =
        ⊎_elim (λ e. inl (ap a_key e)) (λ off. inr (λ e. off (key_same e))) (cases_eq k j)
    same_tok (a_var v) (a_var x) =
        ⊎_elim (λ e. inl (ap a_var e)) (λ off. inr (λ e. off (ap number e))) (cases_eq v x)
      where
        number : Tok → ℕ
        number (a_key k) = k
        number (a_var v) = v
    same_tok (a_key k) (a_var v) = inr (λ e. cc)
    same_tok (a_var v) (a_key k) = inr (λ e. cc)

among_left : {A : Type 0} (x : A) (xs ys : List A) → Among x xs → Among x (xs ++ ys)
among_left x [] ys i = absurd i
among_left x (y ∷ xs) ys i = ⊎_elim inl (λ rest. inr (among_left x xs ys rest)) i

among_right : {A : Type 0} (x : A) (xs ys : List A) → Among x ys → Among x (xs ++ ys)
among_right x [] ys i = i
among_right x (y ∷ xs) ys i = inr (among_right x xs ys i)

among_numbers : (make : ℕ → Tok) (n : ℕ) (ns : List ℕ) → has ns n ≡ true → Among (make n) (map make ns)
among_numbers make n [] e = cc
among_numbers make n (m ∷ ns) e =
    ⊎_elim (λ same. inl (ap make same)) (λ rest. inr (among_numbers make n ns rest)) (first_or_other n m ns e)

has_filtered : (test : ℕ → Bool) (n : ℕ) (ns : List ℕ) → has ns n ≡ true → test n ≡ true → has (filter test ns) n ≡ true
has_filtered test n [] e t = cc
has_filtered test n (m ∷ ns) e t = ⊎_elim
    (λ same. subst (λ b. has (if b then m ∷ filter test ns else filter test ns) n ≡ true) (sym (ap test (sym same) ∙ t))
    (first (m == n) (eq-eqb m n (sym same))))
    (λ rest. more (test m) (has_filtered test n ns rest t))
    (first_or_other n m ns e)
  where
    first : (b : Bool) → b ≡ true → (b || has (filter test ns) n) ≡ true
    first true e = refl
    first false e = cc

    or_more : (b : Bool) → has (filter test ns) n ≡ true → (b || has (filter test ns) n) ≡ true
    or_more true e = refl
    or_more false e = e

    more : (b : Bool) → has (filter test ns) n ≡ true → has (if b then m ∷ filter test ns else filter test ns) n ≡ true
    more true e = or_more (m == n) e
    more false e = e

pub key_token : (f : Func) (k : ℕ) → k < length f.keys → Among (a_key k) (tokens_of f)
key_token f k lt =
    among_left (a_key k) (map a_key (range_with_len 0 (length f.keys))) (map a_var (owning_vars f))
    (among_numbers a_key k (range_with_len 0 (length f.keys)) (in_range k 0 (length f.keys) (omega arith) (omega arith)))

pub var_token : (f : Func) (v : ℕ) → v < length f.vars → is_owning_var f v ≡ true → Among (a_var v) (tokens_of f)
var_token f v lt own =
    among_right (a_var v) (map a_key (range_with_len 0 (length f.keys))) (map a_var (owning_vars f))
    (among_numbers a_var v (owning_vars f)
    (has_filtered (is_owning_var f) v (range_with_len 0 (length f.vars)) (in_range v 0 (length f.vars) (omega arith) (omega arith)) own))

-- ---- tests of all objects, and of numbers

pub all_numbered : (test : ℕ × Object → Bool) (from : ℕ) (os : List Object) →
    ((i : ℕ) (o : Object) → slice_get os i ≡ Some o → test (from + i, o) ≡ true) →
    list_all test (enumerate_from from os) ≡ true
all_numbered test from [] all = refl
all_numbered test from (o ∷ os) all =
    let here : from ≡ from + 0 = omega arith in
    rw (ap (λ n. test (n, o)) here ∙ all 0 o refl)
    (all_numbered test (from + 1) os (λ i q at.
    let there : (from + 1) + i ≡ from + suc i = omega arith in
    ap (λ n. test (n, q)) there ∙ all (suc i) q at))

pub all_filtered : (test keeps : ℕ → Bool) (ns : List ℕ) → ((n : ℕ) → has ns n ≡ true → keeps n ≡ true → test n ≡ true) →
    list_all test (filter keeps ns) ≡ true
all_filtered test keeps [] all = refl
all_filtered test keeps (m ∷ ns) all =
    ⊎_elim
    (λ t. subst (λ b. list_all test (if b then m ∷ filter keeps ns else filter keeps ns) ≡ true) (sym t)
    (rw (all m (first (has ns m)) t) (all_filtered test keeps ns (λ n i. all n (more n i)))))
    (λ f. subst (λ b. list_all test (if b then m ∷ filter keeps ns else filter keeps ns) ≡ true) (sym f)
    (all_filtered test keeps ns (λ n i. all n (more n i))))
    (cases_Bool (keeps m))
  where
    first : (b : Bool) → ((m == m) || b) ≡ true
    first b = rw (eq-eqb m m refl) refl

    more : (n : ℕ) → has ns n ≡ true → has (m ∷ ns) n ≡ true
    more n i = by (m == n) i
      where
        by : (b : Bool) → has ns n ≡ true → (b || has ns n) ≡ true
        by true e = refl
        by false e = e
