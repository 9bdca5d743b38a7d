-- Where a body begins, tokens that its tests don't tell apart have one status.
use Rattle.std.proofs.Common.{◌≡◌, ◌≤◌, ◌==◌, ◌&&◌, ◌||◌, ℕ, zero, suc, Bool, true, false, if◌then◌else◌, List, [], ◌∷◌, ◌++◌, refl, sym, ap, ◌∙◌, subst, ◌⊎◌, inl, inr, ⊎_elim, arith}
use Rattle.std.specs.Prelude.{nat_lt}
use Rattle.std.proofs.lemmas.Bool.{or_parts, or_from}
use Rattle.std.proofs.lemmas.Bool.Decides.{nat_tests}
use Rattle.vlt_core.specs.Core.{Tok, a_key, a_var, Entry, Func, Program}
use Rattle.vlt_core.specs.Lookups.{is_owning_var, is_held_before, before_set}
use Rattle.vlt_core.specs.Maps.{Status, absent, held, lent, full, is_tok}
use Rattle.vlt_core.specs.Derives.{status_at_start, start_map}
use Rattle.vlt_core.specs.Found.{One, one_absent, one_held, one_lent, one_full, Has}
use Rattle.vlt_core_laws.proofs.Founds.{same_is}
use Rattle.vlt_check_laws.proofs.Alike.{Test, by_tok, by_state, ToksAlike, StatesAlike, Keeps, keeps_left, keeps_right}
use Rattle.vlt_check_laws.proofs.Closed.{Related, IsClosed}

-- ---- what a status stands for

abbrev tests_status : Status → List Test
tests_status absent = []
tests_status (held X) = by_state X ∷ []
tests_status (lent X) = by_state X ∷ []
tests_status full = []

module _ (xs : List Test) where
  held_has : (v : Status) (a b : ℕ) → Keeps xs (tests_status v) → StatesAlike xs a b → Has v (one_held a) → Has v (one_held b)
  held_has absent a b k x h = h
  held_has (held X) a b k x h = sym (k.0 a b x) ∙ h
  held_has (lent X) a b k x h = h
  held_has full a b k x h = h

  lent_has : (v : Status) (a b : ℕ) → Keeps xs (tests_status v) → StatesAlike xs a b → Has v (one_lent a) → Has v (one_lent b)
  lent_has absent a b k x h = h
  lent_has (held X) a b k x h = h
  lent_has (lent X) a b k x h = sym (k.0 a b x) ∙ h
  lent_has full a b k x h = h

  has_related : (v : Status) (o q : One) → Keeps xs (tests_status v) → Related xs o q → Has v o → Has v q
  has_related v one_absent one_absent k x h = h
  has_related v (one_held a) (one_held b) k x h = held_has v a b k x h
  has_related v (one_lent a) (one_lent b) k x h = lent_has v a b k x h
  has_related v one_full one_full k x h = h
  has_related v o q k x h = absurd x

-- ---- tokens that have a status at the start

-- the keys of entries, and so many variables
abbrev names : List Entry → ℕ → List Tok
names [] zero = []
names [] (suc n) = a_var n ∷ names [] n
names (e ∷ es) n = a_key e.key ∷ names es n

abbrev tests_names : List Tok → List Test
tests_names [] = []
tests_names (v ∷ vs) = by_tok v ∷ tests_names vs

abbrev is_named : List Tok → Tok → Bool
is_named [] t = false
is_named (v ∷ vs) t = is_tok t v || is_named vs t

-- tokens that are alike are one, or both have no name
alike_named : (xs : List Test) (vs : List Tok) → Keeps xs (tests_names vs) → (t u : Tok) → ToksAlike xs t u → (t ≡ u) ⊎ ((is_named vs t ≡ false) × (is_named vs u ≡ false))
alike_named xs [] k t u p = inr (refl, refl)
alike_named xs (v ∷ vs) k t u p = by (is_tok t v) refl (alike_named xs vs k.1 t u p)
  where
    by : (b : Bool) → is_tok t v ≡ b → (t ≡ u) ⊎ ((is_named vs t ≡ false) × (is_named vs u ≡ false)) → (t ≡ u) ⊎ ((is_named (v ∷ vs) t ≡ false) × (is_named (v ∷ vs) u ≡ false))
    by true e rest = inl (same_is t v e ∙ sym (same_is u v (sym (k.0 t u p) ∙ e)))
    by false e rest = ⊎_elim (λ x. inl x) (λ x. inr (or_from (is_tok t v) (is_named vs t) e x.0, or_from (is_tok u v) (is_named vs u) (sym (k.0 t u p) ∙ e) x.1)) rest

not_held : (b c : Bool) (v w : Status) → c ≡ false → (if b && c then v else w) ≡ w
not_held true c v w e = ap (λ c. if c then v else w) e
not_held false c v w e = refl

not_full : (b c : Bool) → b ≡ false → (if b && c then full else absent) ≡ absent
not_full b c e = ap (λ b. if b && c then full else absent) e

past_others : (n v : ℕ) → (v == n) ≡ false → n ≤ v → suc n ≤ v
past_others n v e le = grind (arith, nat_tests)

past_names : (es : List Entry) (n v : ℕ) → is_named (names es n) (a_var v) ≡ false → n ≤ v
past_names [] zero v e = omega arith
past_names [] (suc n) v e = let x = or_parts (v == n) (is_named (names [] n) (a_var v)) e in past_others n v x.0 (past_names [] n v x.1)
past_names (a ∷ es) n v e = past_names es n v e

not_below : (v n : ℕ) → n ≤ v → nat_lt v n ≡ false
not_below v n le = grind (arith, nat_tests)

module _ (p : Program) (f : Func) where
  key_absent : (es : List Entry) (n k : ℕ) → is_named (names es n) (a_key k) ≡ false → status_at_start p f es k ≡ absent
  key_absent [] n k e = refl
  key_absent (a ∷ es) n k e =
      let x = or_parts (k == a.key) (is_named (names es n) (a_key k)) e in
      not_held (is_held_before a) (k == a.key) (held (before_set p f a)) (status_at_start p f es k) x.0 ∙ key_absent es n k x.1

  -- a token without a name is absent
  name_absent : (t : Tok) → is_named (names f.clause f.params) t ≡ false → start_map p f t ≡ absent
  name_absent (a_key k) e = key_absent f.clause f.params k e
  name_absent (a_var v) e = not_full (nat_lt v f.params) (is_owning_var f v) (not_below v f.params (past_names f.clause f.params v e))

  -- ---- the statuses

  abbrev tests_entries : List Entry → List Test
  tests_entries [] = []
  tests_entries (e ∷ es) = by_state (before_set p f e) ∷ tests_entries es

  abbrev pub tests_start : List Test
  tests_start = tests_names (names f.clause f.params) ++ tests_entries f.clause

  module _ (xs : List Test) (k : Keeps xs tests_start) where
    key_has : (es : List Entry) (j : ℕ) → Keeps xs (tests_entries es) → (o q : One) → Related xs o q → Has (status_at_start p f es j) o → Has (status_at_start p f es j) q
    key_has [] j k o q x h = has_related xs absent o q tt x h
    key_has (e ∷ es) j k o q x h = by (is_held_before e && (j == e.key)) (key_has es j k.1 o q x) h
      where
        by : (b : Bool) → (Has (status_at_start p f es j) o → Has (status_at_start p f es j) q) → Has (if b then held (before_set p f e) else status_at_start p f es j) o → Has (if b then held (before_set p f e) else status_at_start p f es j) q
        by true rest h = has_related xs (held (before_set p f e)) o q (k.0, tt) x h
        by false rest h = rest h

    var_has : (b : Bool) (o q : One) → Related xs o q → Has (if b then full else absent) o → Has (if b then full else absent) q
    var_has true o q x h = has_related xs full o q tt x h
    var_has false o q x h = has_related xs absent o q tt x h

    status_has : (t : Tok) (o q : One) → Related xs o q → Has (start_map p f t) o → Has (start_map p f t) q
    status_has (a_key j) o q x h = key_has f.clause j (keeps_right xs (tests_names (names f.clause f.params)) (tests_entries f.clause) k) o q x h
    status_has (a_var v) o q x h = var_has (nat_lt v f.params && is_owning_var f v) o q x h

    pub start_closed : IsClosed xs (λ t. Has (start_map p f t))
    start_closed = record { each = each }
      where
        each : (t u : Tok) (o q : One) → ToksAlike xs t u → Related xs o q → Has (start_map p f t) o → Has (start_map p f u) q
        each t u o q r x h = ⊎_elim
            (λ e. subst (λ u. Has (start_map p f u) q) e (status_has t o q x h))
            (λ e. subst (λ v. Has v q) (sym (name_absent u e.1)) (has_related xs absent o q tt x (subst (λ v. Has v o) (name_absent t e.0) h)))
            (alike_named xs (names f.clause f.params) (keeps_left xs (tests_names (names f.clause f.params)) (tests_entries f.clause) k) t u r)
