-- What a head that breaks no rule gives.
use Rattle.std.proofs.Common.{◌≡◌, ℕ, zero, suc, true, false, not, ◌||◌, ◌==◌, if◌then◌else◌, List, [], ◌∷◌, ◌++◌, map, length, Option, Some, None, refl, sym, ap, subst, ◌∙◌, ⊎_elim}
use Rattle.std.specs.Prelude.{nat_lt, nat_le, slice_get, filter}
use Rattle.std.specs.List.{flat_map, enumerate_from}
use Rattle.std.specs.Option.{option_map}
use Rattle.std.proofs.lemmas.List.Concat.{flat_map-cons}
use Rattle.vlt_core.specs.Core.{Ty, tracked, int, bool, owning, guarded, variant, owning_variant, VarDecl, Func, Program}
use Rattle.vlt_core.specs.Types.{keys_of_ty}
use Rattle.vlt_core.specs.KindedHeads.{Rules, unless, when_some, has, are_apart, is_bound_entry, set_broken, type_rows, own_typings, reference_broken, type_broken, entry_broken, listed_broken, keys_of_parameters, new_keys, keys_of_result, is_key_of_result, new_key_broken, result_broken, external_broken, is_main_head, head_broken}
use Rattle.vlt_core.specs.KindedBodies.{end_broken}
use Rattle.vlt_core.specs.Kinded.{has_main, parts_broken, first_broken, function_rows, HasKindedParts, IsKinded}
use Rattle.vlt_core.specs.declared.rules.TheConstants as rule
use Rattle.vlt_core_laws.specs.Heads.{HasNewResult}
use Rattle.vlt_core_laws.proofs.Unbroken.{left_empty, right_empty, unless_holds, each_right, each_of_first, each_numbered, some_same, some_not_none}
use Rattle.vlt_core_laws.specs.Unbroken.{EachEmpty}
use Rattle.vlt_core_laws.proofs.Ids.{keys_in_type, type_keys, or_split, or_left, or_right, and_left, not_both, each_has, same_number}

abbrev front_rows : Program → List Rules
front_rows p = map set_broken p.sets ++ flat_map (λ q. type_rows p q.0 q.1) (enumerate_from 0 p.types)

-- a program that breaks no rule breaks none in its parts
pub kinded_parts : (p : Program) → IsKinded p → HasKindedParts p
kinded_parts p kinded = by (unless (has_main p) rule.NO_MAIN) kinded
  where
    by : (rs : Rules) → first_broken 0 (rs ∷ parts_broken p) ≡ None → HasKindedParts p
    by [] e = e
    by (r ∷ rs) e = absurd (some_not_none _ e)

-- the rows of a function
pub function_empty : (p : Program) (n : ℕ) (f : Func) → HasKindedParts p → slice_get p.fns n ≡ Some f → (m : ℕ) × EachEmpty (function_rows p (m, f))
function_empty p n f kinded at = each_numbered (function_rows p) 0 n p.fns f (each_right (front_rows p) (flat_map (function_rows p) (enumerate_from 0 p.fns)) (each_of_first 1 (parts_broken p) kinded)) at

pub head_empty : (p : Program) (n : ℕ) (f : Func) → HasKindedParts p → slice_get p.fns n ≡ Some f → (m : ℕ) × (head_broken p m f ≡ [])
head_empty p n f kinded at = let x = function_empty p n f kinded at in (x.0, left_empty (head_broken p x.0 f) (end_broken p f) x.1.0)

pub has_left : (xs ys : List ℕ) (n : ℕ) → has xs n ≡ true → has (xs ++ ys) n ≡ true
has_left [] ys n m = not_both false m refl
has_left (x ∷ xs) ys n m = ⊎_elim (λ a. or_left (x == n) (has (xs ++ ys) n) a) (λ b. or_right (x == n) (has (xs ++ ys) n) (has_left xs ys n b)) (or_split (x == n) (has xs n) m)

pub has_right : (xs ys : List ℕ) (n : ℕ) → has ys n ≡ true → has (xs ++ ys) n ≡ true
has_right [] ys n m = m
has_right (x ∷ xs) ys n m = or_right (x == n) (has (xs ++ ys) n) (has_right xs ys n m)

-- each of a list, by position
pub each_at : {A : Type 0} (go : A → Rules) (xs : List A) (i : ℕ) (x : A) → flat_map go xs ≡ [] → slice_get xs i ≡ Some x → go x ≡ []
each_at go [] i x e at = absurd (some_not_none x (sym at))
each_at go (y ∷ ys) zero x e at = subst (λ z. go z ≡ []) (some_same y x at) (left_empty (go y) (flat_map go ys) (sym (flat_map-cons go y ys) ∙ e))
each_at go (y ∷ ys) (suc i) x e at = each_at go ys i x (right_empty (go y) (flat_map go ys) (sym (flat_map-cons go y ys) ∙ e)) at

module _ (p : Program) (m : ℕ) (f : Func) (e : head_broken p m f ≡ []) where
  abbrev upto_types : Rules
  upto_types = unless (nat_le f.params (length f.vars)) rule.UNKNOWN_NAME ++ flat_map (λ d. type_broken p f d.ty) f.vars ++ when_some f.result (type_broken p f)

  abbrev upto_keys : Rules
  upto_keys = upto_types ++ listed_broken p f 0 f.keys ++ unless (are_apart (map (λ e. e.key) f.clause)) rule.CLAUSE_KEY_AGAIN

  abbrev upto_clause : Rules
  upto_clause = upto_keys ++ flat_map (entry_broken p f) f.clause

  e7 : upto_clause ++ result_broken f ≡ []
  e7 = left_empty (upto_clause ++ result_broken f) (if f.external then external_broken p f else []) (left_empty _ (if m == p.main then unless (is_main_head f) rule.MAIN_HEAD else []) (left_empty _ (unless (nat_le (length (filter is_bound_entry f.clause)) 1) rule.SECOND_BOUND) e))

  -- at most one entry is bound
  pub one_bound : nat_le (length (filter is_bound_entry f.clause)) 1 ≡ true
  one_bound = unless_holds _ rule.SECOND_BOUND (right_empty _ (unless (nat_le (length (filter is_bound_entry f.clause)) 1) rule.SECOND_BOUND) e)

  e6 : upto_clause ≡ []
  e6 = left_empty upto_clause (result_broken f) e7

  e4 : upto_types ++ listed_broken p f 0 f.keys ≡ []
  e4 = left_empty (upto_types ++ listed_broken p f 0 f.keys) (unless (are_apart (map (λ e. e.key) f.clause)) rule.CLAUSE_KEY_AGAIN) (left_empty upto_keys (flat_map (entry_broken p f) f.clause) e6)

  abbrev types : Rules
  types = unless (nat_le f.params (length f.vars)) rule.UNKNOWN_NAME ++ flat_map (λ d. type_broken p f d.ty) f.vars

  e2 : types ≡ []
  e2 = left_empty types (when_some f.result (type_broken p f)) (left_empty upto_types (listed_broken p f 0 f.keys) e4)

  pub params_fit : nat_le f.params (length f.vars) ≡ true
  params_fit = unless_holds (nat_le f.params (length f.vars)) rule.UNKNOWN_NAME (left_empty (unless (nat_le f.params (length f.vars)) rule.UNKNOWN_NAME) (flat_map (λ d. type_broken p f d.ty) f.vars) e2)

  types_fit : flat_map (λ d. type_broken p f d.ty) f.vars ≡ []
  types_fit = right_empty (unless (nat_le f.params (length f.vars)) rule.UNKNOWN_NAME) (flat_map (λ d. type_broken p f d.ty) f.vars) e2

  key_fits : (ty : Ty) (k : ℕ) → type_broken p f ty ≡ [] → has (keys_of_ty ty) k ≡ true → nat_lt k (length f.keys) ≡ true
  key_fits ty k b m = unless_holds (nat_lt k (length f.keys)) rule.UNKNOWN_NAME (each_has (λ k. unless (nat_lt k (length f.keys)) rule.UNKNOWN_NAME) (keys_of_ty ty) k
      (left_empty (flat_map (λ k. unless (nat_lt k (length f.keys)) rule.UNKNOWN_NAME) (keys_of_ty ty)) _ (left_empty _ (flat_map (reference_broken p f) (own_typings ty)) b)) m)

  pub ranged_keys : (v k : ℕ) → has (type_keys f v) k ≡ true → nat_lt k (length f.keys) ≡ true
  ranged_keys v k m = by (slice_get f.vars v) refl m
    where
      by : (o : Option VarDecl) → slice_get f.vars v ≡ o → has (keys_in_type (option_map (λ d. d.ty) o)) k ≡ true → nat_lt k (length f.keys) ≡ true
      by None at m = not_both false m refl
      by (Some d) at m = key_fits d.ty k (each_at (λ d. type_broken p f d.ty) f.vars v d types_fit at) m

  -- ---- clauses

  pub entries_fit : flat_map (entry_broken p f) f.clause ≡ []
  entries_fit = right_empty upto_keys (flat_map (entry_broken p f) f.clause) e6

  result_fits : result_broken f ≡ []
  result_fits = right_empty upto_clause (result_broken f) e7

  new_fits : flat_map (new_key_broken f) (new_keys f) ≡ []
  new_fits = right_empty (unless (nat_le (length (new_keys f)) 1) rule.RESULT_KEY) (flat_map (new_key_broken f) (new_keys f)) (left_empty _ (flat_map (λ k. unless (has (new_keys f) k || has (keys_of_parameters f) k) rule.RESULT_KEY) (keys_of_result f)) result_fits)

  result_keys_fit : (k : ℕ) → has (keys_of_result f) k ≡ true → (has (new_keys f) k || has (keys_of_parameters f) k) ≡ true
  result_keys_fit k m = unless_holds (has (new_keys f) k || has (keys_of_parameters f) k) rule.RESULT_KEY
      (each_has (λ k. unless (has (new_keys f) k || has (keys_of_parameters f) k) rule.RESULT_KEY) (keys_of_result f) k (right_empty _ (flat_map (λ k. unless (has (new_keys f) k || has (keys_of_parameters f) k) rule.RESULT_KEY) (keys_of_result f)) result_fits) m)

  new_result : (o : Option Ty) (k : ℕ) → is_key_of_result o k ≡ true → (t : ℕ) × (args : List ℕ) × (o ≡ Some (tracked k t args))
  new_result (Some (tracked j t args)) k e = (t, args, ap (λ j. Some (tracked j t args)) (same_number j k (and_left (j == k) (not (has args k)) e)))
  new_result (Some int) k e = not_both false e refl
  new_result (Some bool) k e = not_both false e refl
  new_result (Some (owning s t args)) k e = not_both false e refl
  new_result (Some (guarded j t args)) k e = not_both false e refl
  new_result (Some (variant t args)) k e = not_both false e refl
  new_result (Some (owning_variant t args)) k e = not_both false e refl
  new_result None k e = not_both false e refl

  pub has_new_result : HasNewResult f
  has_new_result = record {
    each = λ k new.
        let b = each_has (new_key_broken f) (new_keys f) k new_fits new in
        let is = and_left (is_key_of_result f.result k) _ (unless_holds _ rule.RESULT_KEY b) in
        let r = new_result f.result k is in
        (r.0, r.1, r.2, λ j m. either j (result_keys_fit j (subst (λ o. has (keys_in o) j ≡ true) (sym r.2) (or_right (k == j) (has r.1 j) m))));
  }
    where
      keys_in : Option Ty → List ℕ
      keys_in None = []
      keys_in (Some ty) = keys_of_ty ty

      either : (j : ℕ) → (has (new_keys f) j || has (keys_of_parameters f) j) ≡ true → has (keys_of_parameters f ++ new_keys f) j ≡ true
      either j e = ⊎_elim (λ x. has_right (keys_of_parameters f) (new_keys f) j x) (λ x. has_left (keys_of_parameters f) (new_keys f) j x) (or_split (has (new_keys f) j) (has (keys_of_parameters f) j) e)
