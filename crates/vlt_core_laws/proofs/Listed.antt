-- The tokens that a block lists are those that its statements bind.
use Rattle.std.proofs.Common.{◌≡◌, ◌<◌, ◌≤◌, ◌+◌, ℕ, zero, suc, Bool, true, false, ◌||◌, ◌==◌, cond, List, [], ◌∷◌, map, length, refl, sym, ap, subst, ◌∙◌, ◌⊎◌, inl, inr, ⊎_elim, arith}
use Rattle.std.specs.Prelude.{nat_lt, filter, slice_get, Option, None, Some}
use Rattle.std.specs.Option.{option_map}
use Rattle.std.proofs.lemmas.Option.{slice_get_within}
use Rattle.std.specs.List.{list_any, flat_map, range_with_len}
use Rattle.std.proofs.lemmas.Bool.{eq-eqb}
use Rattle.std.proofs.lemmas.Bool.Decides.{nat_tests}
use Rattle.vlt_core.specs.Core.{Tok, a_key, a_var, VarDecl, Func}
use Rattle.vlt_core.specs.Lookups.{owns, is_owning_var, owning_vars}
use Rattle.vlt_core.specs.Maps.{is_tok}
use Rattle.vlt_core.specs.Rows.{tokens_of, in_order}
use Rattle.vlt_core.specs.KindedBodies.{token_broken, same_toks, tokens_broken}
use Rattle.vlt_core.specs.declared.rules.TheConstants as rule
use Rattle.vlt_core_laws.specs.Scoped.{is_bound}
use Rattle.vlt_core_laws.proofs.Unbroken.{right_empty, unless_holds}
use Rattle.vlt_core_laws.proofs.Ids.{IsToken, or_split, or_left, or_right, and_left, and_right, not_both, true_or_false, same_number, key_is, var_is, bound_append, bound_left, bound_right}

pub tok_is : (t u : Tok) → is_tok t u ≡ true → t ≡ u
tok_is t (a_key k) e = key_is t k e
tok_is t (a_var v) e = var_is t v e

pub tok_self : (t : Tok) → is_tok t t ≡ true
tok_self (a_key k) = eq-eqb k k refl
tok_self (a_var v) = eq-eqb v v refl

lists_same : (xs ys : List Tok) → same_toks xs ys ≡ true → xs ≡ ys
lists_same [] [] e = refl
lists_same (x ∷ xs) (y ∷ ys) e = ap (λ z. z ∷ xs) (tok_is x y (and_left (is_tok x y) (same_toks xs ys) e)) ∙ ap (λ zs. y ∷ zs) (lists_same xs ys (and_right (is_tok x y) (same_toks xs ys) e))
lists_same [] (y ∷ ys) e = not_both false e refl
lists_same (x ∷ xs) [] e = not_both false e refl

any_is : (ts : List Tok) (t : Tok) → list_any (is_tok t) ts ≡ is_bound ts t
any_is [] t = refl
any_is (u ∷ us) t = ap (λ b. is_tok t u || b) (any_is us t)

in_filter : (test : Tok → Bool) (xs : List Tok) (t : Tok) → is_bound (filter test xs) t ≡ true → (is_bound xs t ≡ true) × (test t ≡ true)
in_filter test [] t e = not_both false e refl
in_filter test (x ∷ xs) t e = by (in_filter test xs t) (test x) refl e
  where
    by : (is_bound (filter test xs) t ≡ true → (is_bound xs t ≡ true) × (test t ≡ true)) → (b : Bool) → test x ≡ b → is_bound (cond b (x ∷ filter test xs) (filter test xs)) t ≡ true →
        ((is_tok t x || is_bound xs t) ≡ true) × (test t ≡ true)
    by more true is e = ⊎_elim (λ here. (or_left (is_tok t x) (is_bound xs t) here, ap test (tok_is t x here) ∙ is)) (λ there. let m = more there in (or_right (is_tok t x) (is_bound xs t) m.0, m.1)) (or_split (is_tok t x) (is_bound (filter test xs) t) e)
    by more false is e = let m = more e in (or_right (is_tok t x) (is_bound xs t) m.0, m.1)

to_filter : (test : Tok → Bool) (xs : List Tok) (t : Tok) → is_bound xs t ≡ true → test t ≡ true → is_bound (filter test xs) t ≡ true
to_filter test [] t e q = not_both false e refl
to_filter test (x ∷ xs) t e q = by (λ m. to_filter test xs t m q) (test x) refl (or_split (is_tok t x) (is_bound xs t) e)
  where
    by : (is_bound xs t ≡ true → is_bound (filter test xs) t ≡ true) → (b : Bool) → test x ≡ b → (is_tok t x ≡ true) ⊎ (is_bound xs t ≡ true) → is_bound (cond b (x ∷ filter test xs) (filter test xs)) t ≡ true
    by more true is (inl here) = or_left (is_tok t x) (is_bound (filter test xs) t) here
    by more true is (inr there) = or_right (is_tok t x) (is_bound (filter test xs) t) (more there)
    by more false is (inl here) = not_both (test t) q (ap test (tok_is t x here) ∙ is)
    by more false is (inr there) = more there

-- ---- the tokens of a function

step : (m a n : ℕ) → (m == a) ≡ false → a ≤ m → m < a + suc n → (a + 1 ≤ m) × (m < a + 1 + n)
step m a n other from to = (grind (arith, nat_tests), omega (arith, to))

key_from : (a n m : ℕ) → a ≤ m → m < a + n → is_bound (map a_key (range_with_len a n)) (a_key m) ≡ true
key_from a zero m from to = absurd (none a m from to)
  where
    none : (a m : ℕ) → a ≤ m → m < a + 0 → ⊥
    none a m from to = omega (arith, from, to)
key_from a (suc n) m from to = ⊎_elim
    (λ same. or_left (m == a) (is_bound (map a_key (range_with_len (a + 1) n)) (a_key m)) same)
    (λ other. let more = step m a n other from to in or_right (m == a) (is_bound (map a_key (range_with_len (a + 1) n)) (a_key m)) (key_from (a + 1) n m more.0 more.1))
    (true_or_false (m == a))

var_from : (f : Func) (a n m : ℕ) → a ≤ m → m < a + n → is_owning_var f m ≡ true → is_bound (map a_var (filter (is_owning_var f) (range_with_len a n))) (a_var m) ≡ true
var_from f a zero m from to own = absurd (none a m from to)
  where
    none : (a m : ℕ) → a ≤ m → m < a + 0 → ⊥
    none a m from to = omega (arith, from, to)
var_from f a (suc n) m from to own = by (is_owning_var f a) refl (true_or_false (m == a)) (λ other. let more = step m a n other from to in var_from f (a + 1) n m more.0 more.1 own)
  where
    by : (b : Bool) → is_owning_var f a ≡ b → ((m == a) ≡ true) ⊎ ((m == a) ≡ false) → ((m == a) ≡ false → is_bound (map a_var (filter (is_owning_var f) (range_with_len (a + 1) n))) (a_var m) ≡ true) →
        is_bound (map a_var (cond b (a ∷ filter (is_owning_var f) (range_with_len (a + 1) n)) (filter (is_owning_var f) (range_with_len (a + 1) n)))) (a_var m) ≡ true
    by true is (inl same) more = or_left (m == a) (is_bound (map a_var (filter (is_owning_var f) (range_with_len (a + 1) n))) (a_var m)) same
    by true is (inr other) more = or_right (m == a) (is_bound (map a_var (filter (is_owning_var f) (range_with_len (a + 1) n))) (a_var m)) (more other)
    by false is (inl same) more = not_both (is_owning_var f m) own (ap (is_owning_var f) (same_number m a same) ∙ is)
    by false is (inr other) more = more other

no_var : (ks : List ℕ) (v : ℕ) → is_bound (map a_key ks) (a_var v) ≡ false
no_var [] v = refl
no_var (k ∷ ks) v = no_var ks v

owned_var : (f : Func) (vs : List ℕ) (v : ℕ) → is_bound (map a_var (filter (is_owning_var f) vs)) (a_var v) ≡ true → is_owning_var f v ≡ true
owned_var f [] v e = not_both false e refl
owned_var f (w ∷ ws) v e = by (owned_var f ws v) (is_owning_var f w) refl e
  where
    by : (is_bound (map a_var (filter (is_owning_var f) ws)) (a_var v) ≡ true → is_owning_var f v ≡ true) → (b : Bool) → is_owning_var f w ≡ b →
        is_bound (map a_var (cond b (w ∷ filter (is_owning_var f) ws) (filter (is_owning_var f) ws))) (a_var v) ≡ true → is_owning_var f v ≡ true
    by more true is e = ⊎_elim (λ same. ap (is_owning_var f) (same_number v w same) ∙ is) more (or_split (v == w) (is_bound (map a_var (filter (is_owning_var f) ws)) (a_var v)) e)
    by more false is e = more e

owning_below : (f : Func) (v : ℕ) → is_owning_var f v ≡ true → v < length f.vars
owning_below f v e = by (slice_get f.vars v) refl e
  where
    by : (o : Option VarDecl) → slice_get f.vars v ≡ o → owns (option_map (λ d. d.ty) o) ≡ true → v < length f.vars
    by None at e = not_both false e refl
    by (Some d) at e = slice_get_within f.vars v d at

pub token_there : (f : Func) (t : Tok) → IsToken f t → is_bound (tokens_of f) t ≡ true
token_there f (a_key k) e = bound_left (map a_key (range_with_len 0 (length f.keys))) (map a_var (owning_vars f)) (a_key k) (key_from 0 (length f.keys) k (from k) (to k (length f.keys) e))
  where
    from : (k : ℕ) → 0 ≤ k
    from k = omega arith

    to : (k n : ℕ) → nat_lt k n ≡ true → k < 0 + n
    to k n e = grind (arith, nat_tests)
token_there f (a_var v) e = bound_right (map a_key (range_with_len 0 (length f.keys))) (map a_var (owning_vars f)) (a_var v) (var_from f 0 (length f.vars) v (from v) (to v (length f.vars) (owning_below f v e)) e)
  where
    from : (k : ℕ) → 0 ≤ k
    from k = omega arith

    to : (k n : ℕ) → k < n → k < 0 + n
    to k n e = omega (arith, e)

pub token_owns : (f : Func) (v : ℕ) → is_bound (tokens_of f) (a_var v) ≡ true → is_owning_var f v ≡ true
token_owns f v e = ⊎_elim (λ l. not_both (is_bound (map a_key (range_with_len 0 (length f.keys))) (a_var v)) l (no_var (range_with_len 0 (length f.keys)) v)) (owned_var f (range_with_len 0 (length f.vars)) v)
    (bound_append (map a_key (range_with_len 0 (length f.keys))) (map a_var (owning_vars f)) (a_var v) e)

key_below : (a n m : ℕ) → is_bound (map a_key (range_with_len a n)) (a_key m) ≡ true → m < a + n
key_below a zero m e = not_both false e refl
key_below a (suc n) m e = ⊎_elim (λ same. here m a n (same_number m a same)) (λ there. let less = key_below (a + 1) n m there in further m a n less) (or_split (m == a) (is_bound (map a_key (range_with_len (a + 1) n)) (a_key m)) e)
  where
    here : (m a n : ℕ) → m ≡ a → m < a + suc n
    here m a n e = omega (arith, e)

    further : (m a n : ℕ) → m < a + 1 + n → m < a + suc n
    further m a n e = omega (arith, e)

no_key : (vs : List ℕ) (k : ℕ) → is_bound (map a_var vs) (a_key k) ≡ false
no_key [] k = refl
no_key (v ∷ vs) k = no_key vs k

pub token_of : (f : Func) (t : Tok) → is_bound (tokens_of f) t ≡ true → IsToken f t
token_of f (a_var v) e = token_owns f v e
token_of f (a_key k) e = ⊎_elim (λ l. let less = key_below 0 (length f.keys) k l in below k (length f.keys) less) (λ r. not_both (is_bound (map a_var (owning_vars f)) (a_key k)) r (no_key (owning_vars f) k))
    (bound_append (map a_key (range_with_len 0 (length f.keys))) (map a_var (owning_vars f)) (a_key k) e)
  where
    below : (k n : ℕ) → k < 0 + n → nat_lt k n ≡ true
    below k n e = grind (arith, nat_tests)

-- ---- a block's list

module _ (f : Func) (listed made : List Tok) (e : tokens_broken f listed made ≡ []) where
  list_is : listed ≡ in_order f made
  list_is = lists_same listed (in_order f made) (unless_holds (same_toks listed (in_order f made)) rule.NAME_TAKEN (right_empty (flat_map (token_broken f) listed) _ e))

  pub listed_made : (t : Tok) → is_bound listed t ≡ true → (is_bound (tokens_of f) t ≡ true) × (is_bound made t ≡ true)
  listed_made t b =
      let m = in_filter (λ t. list_any (is_tok t) made) (tokens_of f) t (subst (λ ts. is_bound ts t ≡ true) list_is b) in
      (m.0, sym (any_is made t) ∙ m.1)

  pub made_listed : (t : Tok) → IsToken f t → is_bound made t ≡ true → is_bound listed t ≡ true
  made_listed t k b = subst (λ ts. is_bound ts t ≡ true) (sym list_is) (to_filter (λ t. list_any (is_tok t) made) (tokens_of f) t (token_there f t k) (any_is made t ∙ b))

pub listed_of_order : (f : Func) (ts : List Tok) (t : Tok) → is_bound (in_order f ts) t ≡ true → is_bound ts t ≡ true
listed_of_order f ts t b = sym (any_is ts t) ∙ (in_filter (λ t. list_any (is_tok t) ts) (tokens_of f) t b).1
