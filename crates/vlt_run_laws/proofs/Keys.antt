-- The keys of a head are the function's.
use Rattle.std.proofs.Common.{◌≡◌, ◌≤◌, ◌<◌, ◌+◌, ℕ, zero, suc, Bool, true, false, ◌||◌, ◌==◌, if◌then◌else◌, List, [], ◌∷◌, ◌++◌, map, length, Option, Some, None, refl, sym, ap, subst, ◌∙◌, ◌⊎◌, inl, inr, ⊎_elim, arith}
use Rattle.std.specs.Prelude.{nat_lt, slice_get, take, filter}
use Rattle.std.specs.List.{flat_map, list_all, range_with_len}
use Rattle.std.specs.Option.{option_map}
use Rattle.std.proofs.lemmas.Bool.Decides.{nat_tests}
use Rattle.std.proofs.lemmas.List.Concat.{flat_map-cons}
use Rattle.vlt_core.specs.Core.{Ty, int, bool, tracked, owning, guarded, variant, owning_variant, VarDecl, Entry, Func, Program}
use Rattle.vlt_core.specs.Lookups.{Reference, reference_of, tracked_in, is_new}
use Rattle.vlt_core.specs.Types.{keys_of_ty}
use Rattle.vlt_core.specs.KindedHeads.{has, keys_of_parameters, new_keys, entry_broken, head_broken}
use Rattle.vlt_core.specs.KindedCalls.{keys_fit}
use Rattle.vlt_core_laws.proofs.Unbroken.{left_empty, right_empty}
use Rattle.vlt_core_laws.proofs.Ids.{keys_in_type, or_split, not_both, and_left, and_right, same_number}
use Rattle.vlt_core_laws.proofs.Binding.{in_range, has_first}
use Rattle.vlt_core_laws.proofs.Headed.{ranged_keys, entries_fit}

pub less : (a b : ℕ) → nat_lt a b ≡ true → a < b
less a b t = grind (arith, nat_tests)

-- in one list or the other
pub has_either : (xs ys : List ℕ) (k : ℕ) → has (xs ++ ys) k ≡ true → (has xs k ≡ true) ⊎ (has ys k ≡ true)
has_either [] ys k h = inr h
has_either (x ∷ xs) ys k h = ⊎_elim (λ a. inl (ap (λ b. b || has xs k) a)) (λ b. ⊎_elim (λ c. inl (right (x == k) (has xs k) c)) (λ d. inr d) (has_either xs ys k b)) (or_split (x == k) (has (xs ++ ys) k) h)
  where
    right : (a b : Bool) → b ≡ true → (a || b) ≡ true
    right true b e = refl
    right false b e = e

-- a key of a parameter's type is one of a variable's
parameter_key : (ds : List VarDecl) (n k : ℕ) → has (flat_map keys_of_ty (map (λ d. d.ty) (take n ds))) k ≡ true →
    (v : ℕ) × (has (keys_in_type (option_map (λ d. d.ty) (slice_get ds v))) k ≡ true)
parameter_key [] zero k h = absurd (not_both false h refl)
parameter_key [] (suc n) k h = absurd (not_both false h refl)
parameter_key (d ∷ ds) zero k h = absurd (not_both false h refl)
parameter_key (d ∷ ds) (suc n) k h =
    ⊎_elim (λ a. (0, a)) (λ b. let x = parameter_key ds n k b in (suc x.0, x.1))
    (has_either (keys_of_ty d.ty) (flat_map keys_of_ty (map (λ d. d.ty) (take n ds))) k
    (subst (λ xs. has xs k ≡ true) (flat_map-cons keys_of_ty d.ty (map (λ d. d.ty) (take n ds))) h))

-- a key of an entry
entry_key : (p : Program) (f : Func) (es : List Entry) (k : ℕ) → flat_map (entry_broken p f) es ≡ [] → has (map (λ e. e.key) (filter is_new es)) k ≡ true → nat_lt k (length f.keys) ≡ true
entry_key p f [] k e h = absurd (not_both false h refl)
entry_key p f (x ∷ es) k e h =
    by (is_new x) (λ m. entry_key p f es k (right_empty (entry_broken p f x) (flat_map (entry_broken p f) es) (sym (flat_map-cons (entry_broken p f) x es) ∙ e)) m) h
  where
    first : nat_lt x.key (length f.keys) ≡ true
    first = in_range (nat_lt x.key (length f.keys)) _ (left_empty (entry_broken p f x) (flat_map (entry_broken p f) es) (sym (flat_map-cons (entry_broken p f) x es) ∙ e))

    by : (b : Bool) → (has (map (λ e. e.key) (filter is_new es)) k ≡ true → nat_lt k (length f.keys) ≡ true) →
        has (map (λ e. e.key) (if b then x ∷ filter is_new es else filter is_new es)) k ≡ true → nat_lt k (length f.keys) ≡ true
    by true later m = ⊎_elim (λ s. subst (λ j. nat_lt j (length f.keys) ≡ true) (same_number x.key k s) first) (λ l. later l) (or_split (x.key == k) (has (map (λ e. e.key) (filter is_new es)) k) m)
    by false later m = later m

-- the keys for which a call lists one
pub head_key : (p : Program) (m : ℕ) (f : Func) (k : ℕ) → head_broken p m f ≡ [] → has (keys_of_parameters f ++ new_keys f) k ≡ true → nat_lt k (length f.keys) ≡ true
head_key p m f k e h = ⊎_elim
    (λ a. let x = parameter_key f.vars f.params k a in ranged_keys p m f e x.0 k x.1)
    (λ b. entry_key p f f.clause k (entries_fit p m f e) b)
    (has_either (keys_of_parameters f) (new_keys f) k h)

-- each number below is tested
each_below : (test : ℕ → Bool) (a n i : ℕ) → list_all test (range_with_len a n) ≡ true → i < n → test (a + i) ≡ true
each_below test a zero i all lt = absurd (omega (arith, lt))
each_below test a (suc n) zero all lt = subst (λ j. test j ≡ true) (first a) (and_left (test a) (list_all test (range_with_len (a + 1) n)) all)
  where
    first : (a : ℕ) → a ≡ a + 0
    first a = omega arith
each_below test a (suc n) (suc i) all lt =
    subst (λ j. test j ≡ true) (next a i) (each_below test (a + 1) n i (and_right (test a) (list_all test (range_with_len (a + 1) n)) all) (omega (arith, lt)))
  where
    next : (a i : ℕ) → a + 1 + i ≡ a + suc i
    next a i = omega arith

-- a call lists no more keys than the function has
pub few_keys : (p : Program) (m : ℕ) (g : Func) (keys : List ℕ) → head_broken p m g ≡ [] → keys_fit g keys ≡ true → length keys ≤ length g.keys
few_keys p m g keys e fit = by (length keys) (and_left (list_all (has (keys_of_parameters g ++ new_keys g)) (range_with_len 0 (length keys))) _ fit)
  where
    by : (n : ℕ) → list_all (has (keys_of_parameters g ++ new_keys g)) (range_with_len 0 n) ≡ true → n ≤ length g.keys
    by zero all = omega arith
    by (suc n) all =
        let sum : 0 + n ≡ n = omega arith in
        let last = subst (λ j. has (keys_of_parameters g ++ new_keys g) j ≡ true) sum (each_below (has (keys_of_parameters g ++ new_keys g)) 0 (suc n) n all (omega arith)) in
        let lt = less n (length g.keys) (head_key p m g n e last) in
        omega (arith, lt)

-- the key of a tracked variable
pub own_reference : (p : Program) (m : ℕ) (f : Func) → head_broken p m f ≡ [] → (x : ℕ) (q : Reference) → reference_of f x ≡ Some q → q.key < length f.keys
own_reference p m f e x q is = by _ is (λ k h. ranged_keys p m f e x k h)
  where
    by : (o : Option Ty) → tracked_in o ≡ Some q → ((k : ℕ) → has (keys_in_type o) k ≡ true → nat_lt k (length f.keys) ≡ true) → q.key < length f.keys
    by (Some (tracked k t args)) is r = let same : k ≡ q.key = cc in subst (λ j. j < length f.keys) same (less k (length f.keys) (r k (has_first k args)))
    by (Some int) is r = absurd cc
    by (Some bool) is r = absurd cc
    by (Some (owning s t args)) is r = absurd cc
    by (Some (guarded k t args)) is r = absurd cc
    by (Some (variant t args)) is r = absurd cc
    by (Some (owning_variant t args)) is r = absurd cc
    by None is r = absurd cc
