-- Tokens that were made, one after another.
use Rattle.std.proofs.Common.{◌≡◌, refl, sym, ap, ◌∙◌, ◌<◌, ◌-◌, ◌+◌, ℕ, suc, ◌==◌, Bool, true, false, true≢false, List, [], ◌∷◌, ◌++◌, map, filter, drop, length, get_or, drop-cons, Some, arith}
use Rattle.std.proofs.lemmas.Bool.Decides.{nat_tests}
use Rattle.std.specs.List.{list_any, range_with_len}
use Rattle.vlt_core.specs.Core as core
use Rattle.vlt_core.specs.Core.{a_key, a_var, Func}
use Rattle.vlt_core.specs.declared.held.Tok.{Tok}
use Rattle.vlt_core.specs.View.{tok_of}
use Rattle.vlt_core.specs.Lookups.{is_owning_var}
use Rattle.vlt_core.specs.Maps.{is_tok}
use Rattle.cert_kinds_blocks.specs.Tokens as z

same_number : (m n : ℕ) → (m == n) ≡ true → n ≡ m
same_number m n is = grind (arith, is, nat_tests)

-- the same token is that token
pub it_is : (t u : core.Tok) → is_tok t u ≡ true → u ≡ t
it_is (a_key k) (a_key j) is = ap a_key (same_number k j is)
it_is (a_key k) (a_var w) is = absurd (true≢false (sym is))
it_is (a_var v) (a_key j) is = absurd (true≢false (sym is))
it_is (a_var v) (a_var w) is = ap a_var (same_number v w is)

-- where the loop finds it
pub found_here : (t : core.Tok) (xs : List Tok) (i : ℕ) (x : Tok) → x ≡ get_or xs i x → i < length xs → is_tok t (tok_of x) ≡ true →
    Some (tok_of x) ≡ z.found (map tok_of (drop i xs)) t
found_here t xs i x is lt same =
    let e : is_tok t (tok_of (get_or xs i x)) ≡ true = ap (λ y. is_tok t (tok_of y)) (sym is) ∙ same in
    let whole : z.found (tok_of (get_or xs i x) ∷ map tok_of (drop (suc i) xs)) t ≡ Some t = rw e refl in
    ap Some (it_is t (tok_of x) same) ∙ sym (ap (λ ys. z.found (map tok_of ys) t) (drop-cons xs i x lt) ∙ whole)

-- the next one of a list
kept_cons : (ts us : List core.Tok) (t : core.Tok) → z.kept ts (t ∷ us) ≡ z.if_found (z.found ts t) ++ z.kept ts us
kept_cons ts us t = by (list_any (is_tok t) ts) refl
  where
    by : (b : Bool) → list_any (is_tok t) ts ≡ b → z.kept ts (t ∷ us) ≡ z.if_found (z.found ts t) ++ z.kept ts us
    by true is = rw is refl
    by false is = rw is refl

range_next : (k n : ℕ) → k < n → range_with_len k (n - k) ≡ k ∷ range_with_len (k + 1) (n - (k + 1))
range_next k n lt = let e : n - k ≡ suc (n - (k + 1)) = omega (arith, lt) in rw e refl

pub keys_next : (ts : List core.Tok) (k n : ℕ) → k < n →
    z.kept ts (map a_key (range_with_len k (n - k))) ≡ z.if_found (z.found ts (a_key k)) ++ z.kept ts (map a_key (range_with_len (k + 1) (n - (k + 1))))
keys_next ts k n lt = ap (λ ks. z.kept ts (map a_key ks)) (range_next k n lt) ∙ kept_cons ts (map a_key (range_with_len (k + 1) (n - (k + 1)))) (a_key k)

pub vars_next : (f : Func) (ts : List core.Tok) (v n : ℕ) → v < n →
    z.kept ts (map a_var (filter (is_owning_var f) (range_with_len v (n - v))))
    ≡ z.if_found_owning f (z.found ts (a_var v)) ++ z.kept ts (map a_var (filter (is_owning_var f) (range_with_len (v + 1) (n - (v + 1)))))
vars_next f ts v n lt = ap (λ vs. z.kept ts (map a_var (filter (is_owning_var f) vs))) (range_next v n lt) ∙ by (is_owning_var f v) refl (list_any (is_tok (a_var v)) ts) refl
  where
    rest : List ℕ
    rest = range_with_len (v + 1) (n - (v + 1))

    by : (b : Bool) → is_owning_var f v ≡ b → (c : Bool) → list_any (is_tok (a_var v)) ts ≡ c →
        z.kept ts (map a_var (filter (is_owning_var f) (v ∷ rest))) ≡ z.if_found_owning f (z.found ts (a_var v)) ++ z.kept ts (map a_var (filter (is_owning_var f) rest))
    by true own true is = rw (own, is) (rw own refl)
    by true own false is = rw (own, is) refl
    by false own true is = rw (own, is) (rw own refl)
    by false own false is = rw (own, is) refl

pub both_kept : (ts us ws : List core.Tok) → z.kept ts (us ++ ws) ≡ z.kept ts us ++ z.kept ts ws
both_kept ts [] ws = refl
both_kept ts (t ∷ us) ws = by (list_any (is_tok t) ts) refl (both_kept ts us ws)
  where
    by : (b : Bool) → list_any (is_tok t) ts ≡ b → z.kept ts (us ++ ws) ≡ z.kept ts us ++ z.kept ts ws → z.kept ts ((t ∷ us) ++ ws) ≡ z.kept ts (t ∷ us) ++ z.kept ts ws
    by true is more = rw is (ap (λ xs. t ∷ xs) more)
    by false is more = rw is more

moved : {A : Type 0} (xs ys zs : List A) → (xs ++ ys) ++ zs ≡ xs ++ (ys ++ zs)
moved [] ys zs = refl
moved (x ∷ xs) ys zs = ap (λ l. x ∷ l) (moved xs ys zs)

-- one more is pushed, and the others are left
pub pushed : (new old one next rest whole : List core.Tok) → new ≡ old ++ one → next ≡ one ++ rest → old ++ next ≡ whole → new ++ rest ≡ whole
pushed new old one next rest whole is left all = ap (λ xs. xs ++ rest) is ∙ moved old one rest ∙ ap (λ xs. old ++ xs) (sym left) ∙ all
