-- The tokens of a function, by a test.
use Rattle.std.proofs.Common.{◌≡◌, ◌∙◌, ⊎_elim, ℕ, zero, suc, ◌+◌, ◌≤◌, ◌==◌, nat_lt, nat_le, Bool, true, false, ◌||◌, ◌&&◌, if◌then◌else◌, List, [], ◌∷◌, map, filter, length, refl, sym, ap, arith}
use Rattle.std.specs.List.{list_any, range_with_len}
use Rattle.std.specs.Option.{option_map}
use Rattle.std.proofs.lemmas.List.Folds.{list_any-append}
use Rattle.std.proofs.lemmas.Option.{slice_get_past}
use Rattle.std.proofs.lemmas.Bool.{cases_lt}
use Rattle.std.proofs.lemmas.Bool.Decides.{nat_tests, eqb_tells}
use Rattle.vlt_core.specs.Core.{Tok, a_key, a_var, Func}
use Rattle.vlt_core.specs.Lookups.{is_owning_var, owns}
use Rattle.vlt_core.specs.Maps.{is_tok}
use Rattle.vlt_core.specs.Rows.{tokens_of, in_order}

same_var : (v w : ℕ) → (v == w) ≡ true → v ≡ w
same_var v w e = grind (arith, nat_tests)

pub same_tok : (s s' : Tok) → is_tok s s' ≡ true → s ≡ s'
same_tok (a_key k) (a_key j) e = ap a_key (same_var k j e)
same_tok (a_key k) (a_var w) e = absurd (no e)
  where
    no : false ≡ true → ⊥
    no e = grind (arith, nat_tests)
same_tok (a_var v) (a_key j) e = absurd (no e)
  where
    no : false ≡ true → ⊥
    no e = grind (arith, nat_tests)
same_tok (a_var v) (a_var w) e = ap a_var (same_var v w e)

pub own_tok : (t : Tok) → is_tok t t ≡ true
own_tok (a_key k) = grind (arith, nat_tests)
own_tok (a_var v) = grind (arith, nat_tests)

keys_any : (k a n : ℕ) → list_any (is_tok (a_key k)) (map a_key (range_with_len a n)) ≡ (nat_le a k && nat_lt k (a + n))
keys_any k a zero = grind (arith, nat_tests)
keys_any k a (suc n) = ap (λ b. (k == a) || b) (keys_any k (a + 1) n) ∙ step
  where
    step : ((k == a) || (nat_le (a + 1) k && nat_lt k (a + 1 + n))) ≡ (nat_le a k && nat_lt k (a + suc n))
    step = grind (arith, nat_tests)

no_keys : (v : ℕ) (ks : List ℕ) → list_any (is_tok (a_var v)) (map a_key ks) ≡ false
no_keys v [] = refl
no_keys v (k ∷ ks) = no_keys v ks

no_vars : (k : ℕ) (vs : List ℕ) → list_any (is_tok (a_key k)) (map a_var vs) ≡ false
no_vars k [] = refl
no_vars k (v ∷ vs) = no_vars k vs

vars_any : (test : ℕ → Bool) (v a n : ℕ) → list_any (is_tok (a_var v)) (map a_var (filter test (range_with_len a n))) ≡ ((nat_le a v && nat_lt v (a + n)) && test v)
vars_any test v a zero = none (test v)
  where
    none : (b : Bool) → false ≡ ((nat_le a v && nat_lt v (a + zero)) && b)
    none b = grind (arith, nat_tests)
vars_any test v a (suc n) = by (test a) refl (vars_any test v (a + 1) n)
  where
    by : (b : Bool) → test a ≡ b → list_any (is_tok (a_var v)) (map a_var (filter test (range_with_len (a + 1) n))) ≡ ((nat_le (a + 1) v && nat_lt v (a + 1 + n)) && test v) → list_any (is_tok (a_var v)) (map a_var (if b then a ∷ filter test (range_with_len (a + 1) n) else filter test (range_with_len (a + 1) n))) ≡ ((nat_le a v && nat_lt v (a + suc n)) && test v)
    by true e ih = ap (λ b. (v == a) || b) ih ∙ ⊎_elim
        (λ same. at same.1 (ap test same.1 ∙ e))
        (λ other. off (test v) other.0)
        (eqb_tells v a)
      where
        at : v ≡ a → test v ≡ true → ((v == a) || ((nat_le (a + 1) v && nat_lt v (a + 1 + n)) && test v)) ≡ ((nat_le a v && nat_lt v (a + suc n)) && test v)
        at same is = ap (λ c. (v == a) || ((nat_le (a + 1) v && nat_lt v (a + 1 + n)) && c)) is ∙ here same ∙ ap (λ c. (nat_le a v && nat_lt v (a + suc n)) && c) (sym is)
          where
            here : v ≡ a → ((v == a) || ((nat_le (a + 1) v && nat_lt v (a + 1 + n)) && true)) ≡ ((nat_le a v && nat_lt v (a + suc n)) && true)
            here same = grind (arith, nat_tests)

        off : (c : Bool) → (v == a) ≡ false → ((v == a) || ((nat_le (a + 1) v && nat_lt v (a + 1 + n)) && c)) ≡ ((nat_le a v && nat_lt v (a + suc n)) && c)
        off true other = grind (arith, nat_tests)
        off false other = grind (arith, nat_tests)
    by false e ih = ih ∙ ⊎_elim
        (λ same. at (ap test same.1 ∙ e))
        (λ other. off (test v) other.0)
        (eqb_tells v a)
      where
        at : test v ≡ false → ((nat_le (a + 1) v && nat_lt v (a + 1 + n)) && test v) ≡ ((nat_le a v && nat_lt v (a + suc n)) && test v)
        at is = ap (λ c. (nat_le (a + 1) v && nat_lt v (a + 1 + n)) && c) is ∙ none (nat_le (a + 1) v && nat_lt v (a + 1 + n)) ∙ sym (none (nat_le a v && nat_lt v (a + suc n))) ∙ ap (λ c. (nat_le a v && nat_lt v (a + suc n)) && c) (sym is)
          where
            none : (b : Bool) → (b && false) ≡ false
            none true = refl
            none false = refl

        off : (c : Bool) → (v == a) ≡ false → ((nat_le (a + 1) v && nat_lt v (a + 1 + n)) && c) ≡ ((nat_le a v && nat_lt v (a + suc n)) && c)
        off true other = grind (arith, nat_tests)
        off false other = grind (arith, nat_tests)

pub key_among : (f : Func) (k : ℕ) → nat_lt k (length f.keys) ≡ list_any (is_tok (a_key k)) (tokens_of f)
key_among f k = sym (
    list_any-append (is_tok (a_key k)) (map a_key (range_with_len 0 (length f.keys))) (map a_var (filter (is_owning_var f) (range_with_len 0 (length f.vars)))) ∙
    ap (λ b. list_any (is_tok (a_key k)) (map a_key (range_with_len 0 (length f.keys))) || b) (no_vars k (filter (is_owning_var f) (range_with_len 0 (length f.vars)))) ∙
    ap (λ b. b || false) (keys_any k 0 (length f.keys)) ∙ last (length f.keys))
  where
    last : (n : ℕ) → ((nat_le 0 k && nat_lt k (0 + n)) || false) ≡ nat_lt k n
    last n = grind (arith, nat_tests)

pub var_among : (f : Func) (v : ℕ) → is_owning_var f v ≡ list_any (is_tok (a_var v)) (tokens_of f)
var_among f v = sym (
    list_any-append (is_tok (a_var v)) (map a_key (range_with_len 0 (length f.keys))) (map a_var (filter (is_owning_var f) (range_with_len 0 (length f.vars)))) ∙
    ap (λ b. b || list_any (is_tok (a_var v)) (map a_var (filter (is_owning_var f) (range_with_len 0 (length f.vars))))) (no_keys v (range_with_len 0 (length f.keys))) ∙
    vars_any (is_owning_var f) v 0 (length f.vars) ∙ ⊎_elim (λ less. inside (length f.vars) (is_owning_var f v) less) (λ more. outside more) (cases_lt v (length f.vars)))
  where
    inside : (n : ℕ) (b : Bool) → suc v ≤ n → ((nat_le 0 v && nat_lt v (0 + n)) && b) ≡ b
    inside n true less = grind (arith, nat_tests)
    inside n false less = grind (arith, nat_tests)

    outside : length f.vars ≤ v → ((nat_le 0 v && nat_lt v (0 + length f.vars)) && is_owning_var f v) ≡ is_owning_var f v
    outside more = ap (λ b. (nat_le 0 v && nat_lt v (0 + length f.vars)) && b) none ∙ off (nat_le 0 v && nat_lt v (0 + length f.vars)) ∙ sym none
      where
        none : is_owning_var f v ≡ false
        none = ap (λ o. owns (option_map (λ d. d.ty) o)) (slice_get_past f.vars v more)

        off : (b : Bool) → (b && false) ≡ false
        off true = refl
        off false = refl

among : (t : Tok) (ts all : List Tok) → list_any (is_tok t) (filter (λ s. list_any (is_tok s) ts) all) ≡ (list_any (is_tok t) all && list_any (is_tok t) ts)
among t ts [] = refl
among t ts (s ∷ all) = by (list_any (is_tok s) ts) refl (is_tok t s) refl (among t ts all)
  where
    by : (b : Bool) → list_any (is_tok s) ts ≡ b → (c : Bool) → is_tok t s ≡ c → list_any (is_tok t) (filter (λ s. list_any (is_tok s) ts) all) ≡ (list_any (is_tok t) all && list_any (is_tok t) ts) → list_any (is_tok t) (if b then s ∷ filter (λ s. list_any (is_tok s) ts) all else filter (λ s. list_any (is_tok s) ts) all) ≡ ((is_tok t s || list_any (is_tok t) all) && list_any (is_tok t) ts)
    by true e true is ih = ap (λ x. x || list_any (is_tok t) (filter (λ s. list_any (is_tok s) ts) all)) is ∙ sym (ap (λ x. (x || list_any (is_tok t) all) && list_any (is_tok t) ts) is ∙ ap (λ z. list_any (is_tok z) ts) (same_tok t s is) ∙ e)
    by true e false is ih = ap (λ x. x || list_any (is_tok t) (filter (λ s. list_any (is_tok s) ts) all)) is ∙ ih ∙ sym (ap (λ x. (x || list_any (is_tok t) all) && list_any (is_tok t) ts) is)
    by false e true is ih = ih ∙ off (list_any (is_tok t) all) ∙ sym (ap (λ x. (x || list_any (is_tok t) all) && list_any (is_tok t) ts) is ∙ none)
      where
        none : list_any (is_tok t) ts ≡ false
        none = ap (λ z. list_any (is_tok z) ts) (same_tok t s is) ∙ e

        off : (b : Bool) → (b && list_any (is_tok t) ts) ≡ false
        off true = none
        off false = refl
    by false e false is ih = ih ∙ sym (ap (λ x. (x || list_any (is_tok t) all) && list_any (is_tok t) ts) is)

-- of those among the function's tokens, in its order
pub any_in_order : (f : Func) (t : Tok) (ts : List Tok) → list_any (is_tok t) (in_order f ts) ≡ (list_any (is_tok t) (tokens_of f) && list_any (is_tok t) ts)
any_in_order f t ts = among t ts (tokens_of f)
