-- Keys of a call and of its callee, one after another.
use Rattle.std.proofs.Common.{◌≡◌, refl, sym, ap, ◌∙◌, ◌<◌, ◌-◌, ◌+◌, ℕ, suc, nat_lt, ◌==◌, ◌&&◌, ◌||◌, not, Bool, true, false, List, [], ◌∷◌, ◌++◌, map, filter, drop, length, get_or, drop-cons, add-one, Option, Some, None, slice_get, arith}
use Rattle.std.proofs.lemmas.List.{length-map}
use Rattle.std.proofs.lemmas.List.Concat.{flat_map-cons}
use Rattle.std.specs.List.{list_any, list_all, flat_map, filter_map, range_with_len, enumerate_from}
use Rattle.vlt_base.specs.declared.ids.KeyId.{KeyId}
use Rattle.vlt_core.specs.Core.{Ty, Entry, Func}
use Rattle.vlt_core.specs.Lookups.{is_new}
use Rattle.vlt_core.specs.Types.{keys_of_ty}
use Rattle.vlt_core.specs.View.{keys_of}
use Rattle.vlt_core.specs.KindedHeads.{has, are_apart}
use Rattle.vlt_core.specs.KindedScopes.{Ids}
use Rattle.vlt_core.specs.KindedCalls.{caller_keys_broken}
use Rattle.cert_kinds_types.specs.Least.{least, lesser}
use Rattle.cert_kinds_types.proofs.Smallest.{joined, one_more}
use Rattle.cert_kinds_calls.specs.Fitting as z

pub as_many_keys : (ks : List KeyId) → length (keys_of ks) ≡ length ks
as_many_keys ks = length-map _ _

-- ---- numbers below a count

pub range_next : (k n : ℕ) → k < n → range_with_len k (n - k) ≡ k ∷ range_with_len (k + 1) (n - (k + 1))
range_next k n lt = let e : n - k ≡ suc (n - (k + 1)) = omega (arith, lt) in rw e refl

pub all_next : (t : ℕ → Bool) (k n : ℕ) → k < n → t k ≡ true → list_all t (range_with_len k (n - k)) ≡ list_all t (range_with_len (k + 1) (n - (k + 1)))
all_next t k n lt is = ap (list_all t) (range_next k n lt) ∙ ap (λ b. b && list_all t (range_with_len (k + 1) (n - (k + 1)))) is

-- ---- all keys of a callee

and_of_three : (a b c : Bool) → ((a && b) && c) ≡ (a && (b && c))
and_of_three true b c = refl
and_of_three false b c = refl

all_both : (t : ℕ → Bool) (xs ys : List ℕ) → list_all t (xs ++ ys) ≡ (list_all t xs && list_all t ys)
all_both t [] ys = refl
all_both t (x ∷ xs) ys = ap (λ b. t x && b) (all_both t xs ys) ∙ sym (and_of_three (t x) (list_all t xs) (list_all t ys))

all_flat : (t : ℕ → Bool) (tys : List Ty) → list_all t (flat_map keys_of_ty tys) ≡ list_all (λ ty. list_all t (keys_of_ty ty)) tys
all_flat t [] = refl
all_flat t (ty ∷ tys) =
    ap (list_all t) (flat_map-cons keys_of_ty ty tys) ∙ all_both t (keys_of_ty ty) (flat_map keys_of_ty tys) ∙ ap (λ b. list_all t (keys_of_ty ty) && b) (all_flat t tys)

all_new : (t : ℕ → Bool) (es : List Entry) → list_all t (map (λ e. e.key) (filter is_new es)) ≡ list_all (λ e. not (is_new e) || t e.key) es
all_new t [] = refl
all_new t (e ∷ es) = by (is_new e) refl (all_new t es)
  where
    by : (b : Bool) → is_new e ≡ b → list_all t (map (λ e. e.key) (filter is_new es)) ≡ list_all (λ e. not (is_new e) || t e.key) es
        → list_all t (map (λ e. e.key) (filter is_new (e ∷ es))) ≡ list_all (λ e. not (is_new e) || t e.key) (e ∷ es)
    by true is more = rw is (ap (λ b. t e.key && b) more)
    by false is more = rw is more

pub all_callee : (n : ℕ) (tys : List Ty) (es : List Entry) → list_all (λ k. nat_lt k n) (flat_map keys_of_ty tys ++ map (λ e. e.key) (filter is_new es))
    ≡ (list_all (λ ty. list_all (λ k. nat_lt k n) (keys_of_ty ty)) tys && list_all (λ e. not (is_new e) || nat_lt e.key n) es)
all_callee n tys es =
    all_both (λ k. nat_lt k n) (flat_map keys_of_ty tys) (map (λ e. e.key) (filter is_new es))
    ∙ ap (λ b. b && list_all (λ k. nat_lt k n) (map (λ e. e.key) (filter is_new es))) (all_flat (λ k. nat_lt k n) tys)
    ∙ ap (λ b. list_all (λ ty. list_all (λ k. nat_lt k n) (keys_of_ty ty)) tys && b) (all_new (λ k. nat_lt k n) es)

pub then_all : (a b whole : Bool) {first second : Bool} → whole ≡ (a && b) → first ≡ a → second ≡ b → first ≡ true → second ≡ whole
then_all a b whole is one other holds = other ∙ sym (is ∙ ap (λ x. x && b) (sym one ∙ holds))

pub else_all : (a b whole : Bool) {first : Bool} → whole ≡ (a && b) → first ≡ a → first ≡ false → first ≡ whole
else_all a b whole is one fails = fails ∙ sym (is ∙ ap (λ x. x && b) (sym one ∙ fails))

-- ---- keys of a clause

abbrev caller_key : (keys : List ℕ) → Entry → Option ℕ
caller_key keys e = slice_get keys e.key

has_given : (keys : List ℕ) (es : List Entry) (k : ℕ) → has (filter_map (λ e. slice_get keys e.key) es) k ≡ list_any (z.gives_key keys k) es
has_given keys [] k = refl
has_given keys (e ∷ es) k = by (slice_get keys e.key) refl (has_given keys es k)
  where
    by : (o : Option ℕ) → slice_get keys e.key ≡ o → has (filter_map (λ e. slice_get keys e.key) es) k ≡ list_any (z.gives_key keys k) es
        → has (filter_map (λ e. slice_get keys e.key) (e ∷ es)) k ≡ list_any (z.gives_key keys k) (e ∷ es)
    by None is more = rw is more
    by (Some j) is more = rw is (ap (λ b. (j == k) || b) more)

pub apart_by_entries : (keys : List ℕ) (es : List Entry) → are_apart (filter_map (λ e. slice_get keys e.key) es) ≡ z.stay_apart keys es
apart_by_entries keys [] = refl
apart_by_entries keys (e ∷ es) = by (slice_get keys e.key) refl (apart_by_entries keys es)
  where
    by : (o : Option ℕ) → slice_get keys e.key ≡ o → are_apart (filter_map (λ e. slice_get keys e.key) es) ≡ z.stay_apart keys es
        → are_apart (filter_map (λ e. slice_get keys e.key) (e ∷ es)) ≡ z.stay_apart keys (e ∷ es)
    by None is more = rw is more
    by (Some j) is more =
        rw is (ap (λ b. not b && are_apart (filter_map (λ e. slice_get keys e.key) es)) (has_given keys es j) ∙ ap (λ b. not (list_any (z.gives_key keys j) es) && b) more)

-- ---- keys of the caller

pub callers_next : (f : Func) (ids : Ids) (g : Func) (found : Option ℕ) (xs : List KeyId) (i : ℕ) (d : KeyId) → i < length xs →
    lesser found (least (caller_keys_broken f ids g (enumerate_from i (keys_of (drop i xs)))))
    ≡ lesser (lesser found (least (z.caller_key_broken f ids g i (get_or xs i d).0))) (least (caller_keys_broken f ids g (enumerate_from (i + 1) (keys_of (drop (i + 1) xs)))))
callers_next f ids g found xs i d lt =
    let own = z.caller_key_broken f ids g i (get_or xs i d).0 in
    let rest = caller_keys_broken f ids g (enumerate_from (i + 1) (keys_of (drop (suc i) xs))) in
    ap (λ ys. lesser found (least (caller_keys_broken f ids g (enumerate_from i (keys_of ys))))) (drop-cons xs i d lt)
    ∙ ap (lesser found) (joined own rest)
    ∙ one_more found (least own) (least rest)
    ∙ ap (λ n. lesser (lesser found (least own)) (least (caller_keys_broken f ids g (enumerate_from (i + 1) (keys_of (drop n xs)))))) (sym (add-one i))
