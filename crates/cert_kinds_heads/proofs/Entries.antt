-- Keys and entries of a head, one after another.
use Rattle.std.proofs.Common.{◌≡◌, ◌≢◌, refl, sym, ap, ◌∙◌, ◌<◌, ◌≤◌, ◌+◌, ◌-◌, suc, ℕ, ◌==◌, ◌||◌, not, nat_le, if◌then◌else◌, Bool, true, false, List, [], ◌∷◌, ◌++◌, map, filter, take, drop, length, get_or, drop-cons, add-one, Option, Some, None, arith}
use Rattle.std.specs.List.{list_any, flat_map}
use Rattle.std.proofs.lemmas.List.Concat.{flat_map-cons}
use Rattle.vlt_core.specs.Core.{Ty, tracked, VarDecl, Entry, Func, Program}
use Rattle.vlt_core.specs.Lookups.{is_new}
use Rattle.vlt_core.specs.KindedHeads.{has, own_typings, key_broken, listed_broken, new_key_broken}
use Rattle.vlt_core.specs.View as view
use Rattle.vlt_core.specs.declared.program.KeyDecl.{KeyDecl}
use Rattle.vlt_core.specs.declared.program.Entry as code
use Rattle.std.proofs.lemmas.List.{map-append, length-map}
use Rattle.std.proofs.lemmas.Bool.Decides.{nat_tests}
use Rattle.cert_kinds_types.specs.Least.{least, lesser}
use Rattle.cert_kinds_heads.specs.Heads as z
use Rattle.cert_kinds_types.proofs.Smallest.{joined, one_more}
use Rattle.cert_kinds_heads.proofs.Lists.{has_either}
use Rattle.cert_kinds_types.proofs.Zips.{rest_is}

pub listed_next : (p : Program) (f : Func) (found : Option ℕ) (xs : List KeyDecl) (k : ℕ) (x : KeyDecl) → x ≡ get_or xs k x → k < length xs →
    lesser found (least (listed_broken p f k (map view.key_of (drop k xs))))
    ≡ lesser (lesser found (least (key_broken p f k (view.key_of x)))) (least (listed_broken p f (k + 1) (map view.key_of (drop (k + 1) xs))))
listed_next p f found xs k x is lt =
    ap (λ ys. lesser found (least (listed_broken p f k (map view.key_of ys)))) (drop-cons xs k x lt)
    ∙ ap (λ y. lesser found (least (key_broken p f k (view.key_of y) ++ listed_broken p f (suc k) (map view.key_of (drop (suc k) xs))))) (sym is)
    ∙ ap (lesser found) (joined (key_broken p f k (view.key_of x)) (listed_broken p f (suc k) (map view.key_of (drop (suc k) xs))))
    ∙ one_more found (least (key_broken p f k (view.key_of x))) (least (listed_broken p f (suc k) (map view.key_of (drop (suc k) xs))))
    ∙ ap (λ n. lesser (lesser found (least (key_broken p f k (view.key_of x)))) (least (listed_broken p f n (map view.key_of (drop n xs))))) (sym (add-one k))

pub any_of_vars : (t : Ty → Bool) (ds : List VarDecl) → list_any t (map (λ d. d.ty) ds) ≡ list_any (λ d. t d.ty) ds
any_of_vars t [] = refl
any_of_vars t (d ∷ ds) = ap (λ b. t d.ty || b) (any_of_vars t ds)

pub flat_new : (f : Func) (es : List Entry) → flat_map (z.new_entry_broken f) es ≡ flat_map (new_key_broken f) (map (λ e. e.key) (filter is_new es))
flat_new f [] = refl
flat_new f (e ∷ es) = flat_map-cons (z.new_entry_broken f) e es ∙ by (is_new e) refl (flat_new f es)
  where
    by : (b : Bool) → is_new e ≡ b → flat_map (z.new_entry_broken f) es ≡ flat_map (new_key_broken f) (map (λ e. e.key) (filter is_new es))
        → z.new_entry_broken f e ++ flat_map (z.new_entry_broken f) es ≡ flat_map (new_key_broken f) (map (λ e. e.key) (filter is_new (e ∷ es)))
    by true is more = rw is (ap (λ rs. new_key_broken f e.key ++ rs) more ∙ sym (flat_map-cons (new_key_broken f) e.key (map (λ e. e.key) (filter is_new es))))
    by false is more = rw is more

pub has_tracked : (tys : List Ty) (k : ℕ) → has (map (λ x. x.key) (flat_map own_typings tys)) k ≡ list_any (λ ty. has (map (λ x. x.key) (own_typings ty)) k) tys
has_tracked [] k = refl
has_tracked (ty ∷ tys) k =
    ap (λ xs. has (map (λ x. x.key) xs) k) (flat_map-cons own_typings ty tys)
    ∙ ap (λ ns. has ns k) (map-append (λ x. x.key) (own_typings ty) (flat_map own_typings tys))
    ∙ has_either (map (λ x. x.key) (own_typings ty)) (map (λ x. x.key) (flat_map own_typings tys)) k
    ∙ ap (λ b. has (map (λ x. x.key) (own_typings ty)) k || b) (has_tracked tys k)

-- ---- at most one

above_one : (n : ℕ) → nat_le (suc (suc n)) 1 ≡ false
above_one n = grind (arith, nat_tests)

none_of : (t : Entry → Bool) (es : List Entry) → nat_le (suc (length (filter t es))) 1 ≡ not (list_any t es)
none_of t [] = refl
none_of t (e ∷ es) = by (t e) refl (none_of t es)
  where
    by : (b : Bool) → t e ≡ b → nat_le (suc (length (filter t es))) 1 ≡ not (list_any t es) → nat_le (suc (length (filter t (e ∷ es)))) 1 ≡ not (list_any t (e ∷ es))
    by true is more = rw is (above_one (length (filter t es)))
    by false is more = rw is more

few_drop : (t : Entry → Bool) (xs : List code.Entry) (d : code.Entry) → 1 ≤ length xs →
    nat_le (length (filter t (map view.entry_of xs))) 1
    ≡ (if t (view.entry_of (get_or xs 0 d)) then not (list_any t (map view.entry_of (drop 1 xs))) else nat_le (length (filter t (map view.entry_of (drop 1 xs)))) 1)
few_drop t [] d some = absurd (omega (arith, some))
few_drop t (x ∷ xs) d some = by (t (view.entry_of x)) refl
  where
    by : (b : Bool) → t (view.entry_of x) ≡ b → nat_le (length (filter t (map view.entry_of (x ∷ xs)))) 1
        ≡ (if t (view.entry_of x) then not (list_any t (map view.entry_of xs)) else nat_le (length (filter t (map view.entry_of xs))) 1)
    by true is = rw is (none_of t (map view.entry_of xs))
    by false is = rw is refl

pub few_next : (t : Entry → Bool) (xs : List code.Entry) (d : code.Entry) → 1 ≤ length xs →
    nat_le (length (filter t (map view.entry_of xs))) 1
    ≡ (if t (view.entry_of (get_or xs 0 d)) then not (list_any t (map view.entry_of (take (length xs - 1) (drop 1 xs)))) else nat_le (length (filter t (map view.entry_of (take (length xs - 1) (drop 1 xs))))) 1)
few_next t xs d some = rw (rest_is xs) (few_drop t xs d some)

pub as_many : (es : List Entry) → length (map {A = Entry} (λ e. e.key) (filter is_new es)) ≡ length (filter is_new es)
as_many es = length-map _ _

pub few_where : (t : Entry → Bool) (xs : List code.Entry) (x : code.Entry) → 1 ≤ length xs → x ≡ get_or xs 0 x → t (view.entry_of x) ≡ true →
    not (list_any t (map view.entry_of (take (length xs - 1) (drop 1 xs)))) ≡ nat_le (length (filter t (map view.entry_of xs))) 1
few_where t xs x some is holds =
    sym (few_next t xs x some ∙ ap (λ b. if b then not (list_any t (map view.entry_of (take (length xs - 1) (drop 1 xs)))) else nat_le (length (filter t (map view.entry_of (take (length xs - 1) (drop 1 xs))))) 1) (ap (λ y. t (view.entry_of y)) (sym is) ∙ holds))

pub one_main : (t u : ℕ) (args : List ℕ) (es : List Entry) → z.main_by (Some (tracked t u args)) es ≡ z.is_one_new es
one_main t u args [] = refl
one_main t u args (e ∷ []) = refl
one_main t u args (e ∷ d ∷ es) = refl

above_zero : (n : ℕ) → (suc n == 0) ≡ false
above_zero n = grind (arith, nat_tests)

pub none_main : (es : List Entry) → (length es == 0) ≡ z.main_by None es
none_main [] = refl
none_main (e ∷ es) = above_zero (length es)

pub one_new : (xs : List code.Entry) (x : code.Entry) → length xs ≡ 1 → x ≡ get_or xs 0 x → is_new (view.entry_of x) ≡ z.is_one_new (map view.entry_of xs)
one_new [] x one is = absurd (omega (arith, one))
one_new (y ∷ []) x one is = ap (λ y. is_new (view.entry_of y)) is
one_new (y ∷ w ∷ xs) x one is = absurd (omega (arith, one))

pub not_one : (xs : List code.Entry) → length xs ≢ 1 → false ≡ z.is_one_new (map view.entry_of xs)
not_one [] many = refl
not_one (y ∷ []) many = absurd (many refl)
not_one (y ∷ w ∷ xs) many = refl
