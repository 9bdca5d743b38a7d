-- What two lists of types say of a key together.
use Rattle.std.proofs.Common.{◌≡◌, refl, sym, ap, ◌∙◌, ◌<◌, ◌+◌, suc, map, drop, length, get_or, drop-cons, add-one, ℕ, ◌==◌, if◌then◌else◌, Bool, true, false, ◌&&◌, List, [], ◌∷◌, ◌++◌, arith}
use Rattle.std.proofs.Common.{true≢false}
use Rattle.std.proofs.lemmas.Bool.Decides.{nat_tests}
use Rattle.std.specs.List.{flat_map}
use Rattle.std.proofs.lemmas.List.Concat.{flat_map-cons}
use Rattle.vlt_core.specs.KindedHeads.{Typing, types_at, are_all}
use Rattle.std.proofs.Common.{Option, Some, None, option_map, ◌≤◌, ◌-◌, take}
use Rattle.vlt_core.specs.Core.{Entry, Program}
use Rattle.vlt_core.specs.KindedHeads.{unless, arg_typings, is_only_type}
use Rattle.vlt_core.specs.declared.rules.TheConstants as rule
use Rattle.vlt_base.specs.declared.ids.KeyId.{KeyId}
use Rattle.vlt_base.specs.declared.ids.TypeId.{TypeId}
use Rattle.vlt_core.specs.View as view
use Rattle.cert_kinds_heads.specs.Summaries as z
use Rattle.cert_kinds_types.proofs.Zips.{rest_is}
use Rattle.cert_kinds_heads.specs.Summaries.{Summary, nothing, only, several, summary, both}

abbrev one : Bool → ℕ → Summary
one b t = if b then only t else several

-- one more type, before others
both_of_one : (t u : ℕ) (us : List ℕ) → one (are_all t (u ∷ us)) t ≡ both (only t) (one (are_all u us) u)
both_of_one t u us = by (u == t) refl (are_all u us) refl (are_all t us) refl (t == u) refl
  where
    same : (u == t) ≡ true → are_all u us ≡ are_all t us
    same is = let e : u ≡ t = grind (arith, is, nat_tests) in ap (λ n. are_all n us) e

    by : (a : Bool) → (u == t) ≡ a → (b : Bool) → are_all u us ≡ b → (c : Bool) → are_all t us ≡ c → (d : Bool) → (t == u) ≡ d → one ((u == t) && are_all t us) t ≡ both (only t) (one (are_all u us) u)
    by true a true b true c true d = rw (a, b, c) (rw d refl)
    by true a false b false c x d = rw (a, b, c) refl
    by false a true b c ccc false d = rw (a, b) (rw d refl)
    by false a false b c ccc d dd = rw (a, b) refl
    by true a true b false c d dd = absurd (true≢false (sym b ∙ same a ∙ c))
    by true a false b true c d dd = absurd (true≢false (sym c ∙ sym (same a) ∙ b))
    by true a true b true c false d = absurd (grind (arith, nat_tests))
    by false a true b c ccc true d = absurd (grind (arith, nat_tests))

one_more : (t : ℕ) (ts : List ℕ) → summary (t ∷ ts) ≡ both (only t) (summary ts)
one_more t [] = refl
one_more t (u ∷ us) = both_of_one t u us

of_if : (b : Bool) (t : ℕ) → both (if b then only t else several) several ≡ several
of_if true t = refl
of_if false t = refl

none_of_if : (b : Bool) (t : ℕ) → both (if b then only t else several) nothing ≡ (if b then only t else several)
none_of_if true t = refl
none_of_if false t = refl

three : (t u v : ℕ) → both (only t) (both (only u) (only v)) ≡ both (both (only t) (only u)) (only v)
three t u v = by (u == v) refl (t == u) refl (t == v) refl
  where
    by : (a : Bool) → (u == v) ≡ a → (b : Bool) → (t == u) ≡ b → (c : Bool) → (t == v) ≡ c → both (only t) (both (only u) (only v)) ≡ both (both (only t) (only u)) (only v)
    by true a true b true c = rw (a, b) (rw c refl)
    by true a false b c ccc = rw (a, b) refl
    by false a true b false c = rw (a, b) (rw c refl)
    by false a false b c ccc = rw (a, b) refl
    by true a true b false c = absurd (grind (arith, nat_tests))
    by false a true b true c = absurd (grind (arith, nat_tests))

pub both_three : (a b c : Summary) → both a (both b c) ≡ both (both a b) c
both_three nothing b c = refl
both_three (only t) nothing c = refl
both_three (only t) (only u) nothing = sym (none_of_if (t == u) t)
both_three (only t) (only u) (only v) = three t u v
both_three (only t) (only u) several = sym (of_if (t == u) t)
both_three (only t) several nothing = refl
both_three (only t) several (only v) = refl
both_three (only t) several several = refl
both_three several nothing c = refl
both_three several (only u) nothing = refl
both_three several (only u) (only v) = of_several (u == v) u
  where
    of_several : (b : Bool) (u : ℕ) → both several (if b then only u else several) ≡ several
    of_several true u = refl
    of_several false u = refl
both_three several (only u) several = refl
both_three several several nothing = refl
both_three several several (only v) = refl
both_three several several several = refl

pub summary_of_both : (xs ys : List ℕ) → summary (xs ++ ys) ≡ both (summary xs) (summary ys)
summary_of_both [] ys = refl
summary_of_both (t ∷ ts) ys =
    one_more t (ts ++ ys) ∙ ap (both (only t)) (summary_of_both ts ys) ∙ both_three (only t) (summary ts) (summary ys)
    ∙ ap (λ s. both s (summary ys)) (sym (one_more t ts))

types_of_both : (k : ℕ) (xs ys : List Typing) → types_at k (xs ++ ys) ≡ types_at k xs ++ types_at k ys
types_of_both k [] ys = refl
types_of_both k (x ∷ xs) ys = by (x.key == k) refl (types_of_both k xs ys)
  where
    by : (b : Bool) → (x.key == k) ≡ b → types_at k (xs ++ ys) ≡ types_at k xs ++ types_at k ys → types_at k ((x ∷ xs) ++ ys) ≡ types_at k (x ∷ xs) ++ types_at k ys
    by true is more = rw is (ap (λ ts. x.type ∷ ts) more)
    by false is more = rw is more

pub summary_joined : (k : ℕ) (xs ys : List Typing) → summary (types_at k (xs ++ ys)) ≡ both (summary (types_at k xs)) (summary (types_at k ys))
summary_joined k xs ys = ap summary (types_of_both k xs ys) ∙ summary_of_both (types_at k xs) (types_at k ys)

-- where a loop comes to the next of a list
pub summary_next : {A B : Type 0} (k : ℕ) (g : A → List Typing) (w : B → A) (found : Summary) (xs : List B) (i : ℕ) (x : B) → x ≡ get_or xs i x → i < length xs →
    both found (summary (types_at k (flat_map g (map w (drop i xs))))) ≡ both (both found (summary (types_at k (g (w x))))) (summary (types_at k (flat_map g (map w (drop (i + 1) xs)))))
summary_next k g w found xs i x is lt =
    ap (λ ys. both found (summary (types_at k (flat_map g (map w ys))))) (drop-cons xs i x lt)
    ∙ ap (λ y. both found (summary (types_at k (flat_map g (w y ∷ map w (drop (suc i) xs)))))) (sym is)
    ∙ ap (λ ts. both found (summary (types_at k ts))) (flat_map-cons g (w x) (map w (drop (suc i) xs)))
    ∙ ap (both found) (summary_joined k (g (w x)) (flat_map g (map w (drop (suc i) xs))))
    ∙ both_three found (summary (types_at k (g (w x)))) (summary (types_at k (flat_map g (map w (drop (suc i) xs)))))
    ∙ ap (λ n. both (both found (summary (types_at k (g (w x))))) (summary (types_at k (flat_map g (map w (drop n xs)))))) (sym (add-one i))

pub summary_one : (t : ℕ) (ts : List ℕ) → summary (t ∷ ts) ≡ both (only t) (summary ts)
summary_one t ts = one_more t ts

summary_drop : (k : ℕ) (js : List KeyId) (hs : List (Option TypeId)) (j : KeyId) (h : Option TypeId) → 1 ≤ length js → 1 ≤ length hs →
    summary (types_at k (arg_typings (view.keys_of js) (view.header_of hs))) ≡
    both (summary (types_at k (z.arg_typing (get_or js 0 j).0 (option_map (λ t. t.0) (get_or hs 0 h))))) (summary (types_at k (arg_typings (view.keys_of (drop 1 js)) (view.header_of (drop 1 hs)))))
summary_drop k [] hs j h some others = absurd (omega (arith, some))
summary_drop k (i ∷ js) [] j h some others = absurd (omega (arith, others))
summary_drop k (i ∷ js) (None ∷ hs) j h some others = refl
summary_drop k (i ∷ js) (Some t ∷ hs) j h some others =
    summary_joined k (record { key = i.0; type = t.0 } ∷ []) (arg_typings (view.keys_of js) (view.header_of hs))

pub summary_zip : (k : ℕ) (js : List KeyId) (hs : List (Option TypeId)) (j : KeyId) (h : Option TypeId) → 1 ≤ length js → 1 ≤ length hs →
    summary (types_at k (arg_typings (view.keys_of js) (view.header_of hs))) ≡
    both (summary (types_at k (z.arg_typing (get_or js 0 j).0 (option_map (λ t. t.0) (get_or hs 0 h)))))
    (summary (types_at k (arg_typings (view.keys_of (take (length js - 1) (drop 1 js))) (view.header_of (take (length hs - 1) (drop 1 hs))))))
summary_zip k js hs j h some others = rw (rest_is js, rest_is hs) (summary_drop k js hs j h some others)

-- ---- rules by what is summary

pub only_summary : (ts : List ℕ) (t : ℕ) → is_only_type t ts ≡ z.is_only (summary ts) t
only_summary [] t = refl
only_summary (u ∷ us) t = by (u == t) refl (are_all u us) refl
  where
    same : (u == t) ≡ true → are_all u us ≡ are_all t us
    same is = let e : u ≡ t = grind (arith, is, nat_tests) in ap (λ n. are_all n us) e

    by : (a : Bool) → (u == t) ≡ a → (b : Bool) → are_all u us ≡ b → ((u == t) && are_all t us) ≡ z.is_only (if are_all u us then only u else several) t
    by true a true b = rw (a, b) (rw a (sym (same a) ∙ b))
    by true a false b = rw (a, b) (sym (same a) ∙ b)
    by false a true b = rw (a, b) (sym a)
    by false a false b = rw (a, b) refl

pub reference_summary : (t : ℕ) (ts : List ℕ) → z.reference_types t ts ≡ z.reference_by t (summary ts)
reference_summary t [] = refl
reference_summary t (u ∷ us) = ap (λ b. unless b rule.TWO_KEY_TYPES) (only_summary (u ∷ us) t) ∙ by (are_all u us)
  where
    by : (b : Bool) → unless (z.is_only (if b then only u else several) t) rule.TWO_KEY_TYPES ≡ z.reference_by t (if b then only u else several)
    by true = refl
    by false = refl

pub listed_summary : (listed : Option ℕ) (ts : List ℕ) → z.listed_types listed ts ≡ z.listed_by listed (summary ts)
listed_summary None [] = refl
listed_summary (Some t) [] = refl
listed_summary listed (u ∷ us) = by (are_all u us) listed
  where
    by : (b : Bool) (listed : Option ℕ) → (if b then z.is_it listed u else z.listed_by listed several) ≡ z.listed_by listed (if b then only u else several)
    by true None = refl
    by true (Some t) = refl
    by false None = refl
    by false (Some t) = refl

pub entry_summary : (p : Program) (e : Entry) (ts : List ℕ) → z.entry_types p e ts ≡ z.entry_by p e (summary ts)
entry_summary p e [] = refl
entry_summary p e (t ∷ ts) = by (are_all t ts)
  where
    by : (b : Bool) → (if b then z.sides_broken p e t else []) ≡ z.entry_by p e (if b then only t else several)
    by true = refl
    by false = refl

pub summary_next_of : {A B C : Type 0} (k : ℕ) (g : C → List Typing) (h : A → C) (w : B → A) (found : Summary) (xs : List B) (i : ℕ) (x : B) → x ≡ get_or xs i x → i < length xs →
    both found (summary (types_at k (flat_map g (map h (map w (drop i xs)))))) ≡ both (both found (summary (types_at k (g (h (w x)))))) (summary (types_at k (flat_map g (map h (map w (drop (i + 1) xs))))))
summary_next_of k g h w found xs i x is lt =
    ap (λ ys. both found (summary (types_at k (flat_map g (map h (map w ys)))))) (drop-cons xs i x lt)
    ∙ ap (λ y. both found (summary (types_at k (flat_map g (h (w y) ∷ map h (map w (drop (suc i) xs))))))) (sym is)
    ∙ ap (λ ts. both found (summary (types_at k ts))) (flat_map-cons g (h (w x)) (map h (map w (drop (suc i) xs))))
    ∙ ap (both found) (summary_joined k (g (h (w x))) (flat_map g (map h (map w (drop (suc i) xs)))))
    ∙ both_three found (summary (types_at k (g (h (w x))))) (summary (types_at k (flat_map g (map h (map w (drop (suc i) xs))))))
    ∙ ap (λ n. both (both found (summary (types_at k (g (h (w x)))))) (summary (types_at k (flat_map g (map h (map w (drop n xs))))))) (sym (add-one i))
