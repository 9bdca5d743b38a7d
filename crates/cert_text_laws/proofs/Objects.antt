-- The types that parameters and results give a key are declared, and no variants.
use Rattle.std.proofs.Common.{◌≡◌, ◌==◌, ℕ, zero, suc, nat_le, Bool, true, false, true≢false, not, if◌then◌else◌, List, [], ◌∷◌, ◌++◌, map, length, take, drop, Option, Some, None, refl, sym, subst}
use Rattle.std.specs.Prelude.{cond, filter, slice_get}
use Rattle.std.specs.List.{flat_map}
use Rattle.std.proofs.lemmas.Bool.{not-true}
use Rattle.vlt_core.specs.Core.{Ty, int, bool, tracked, owning, guarded, variant, owning_variant, VarDecl, TypeDecl, an_abstract, a_struct, a_variant, Header, Func, Program}
use Rattle.vlt_core.specs.Types.{decl_of, is_variant, header_in, header_of}
use Rattle.vlt_core.specs.Kinded.{HasKindedParts}
use Rattle.vlt_core.specs.KindedHeads.{Rules, unless, when_some, has, are_apart, has_set, states_broken, header_broken, field_broken, parameters_of, keys_of_parameters, new_keys, head_keys, Typing, own_typings, arg_typings, typings, types_at, given_types, argument_broken, type_broken, is_bound_entry, entry_broken, result_broken, external_broken, is_main_head, listed_broken, head_broken}
use Rattle.vlt_core.specs.declared.rules.TheConstants as rule
use Rattle.vlt_core_laws.proofs.Headed.{head_empty, each_at}
use Rattle.vlt_core_laws.proofs.Unbroken.{filled_not_empty, left_empty, right_empty, unless_holds}
use Rattle.cert_rows.specs.Parts.{All}
use Rattle.cert_format_laws.proofs.Decoding.{all_joined}
use Rattle.cert_fit_laws.proofs.Listed.{all_from}
use Rattle.cert_fit_laws.proofs.Tables.{type_empty}
use Rattle.cert_fit_laws.proofs.Types.{when_at, key_rule, there_type, declared, shape_fits}

-- an object's type
abbrev pub IsObject : Program → ℕ → Type 0
IsObject p t = (d : TypeDecl) × (decl_of p t ≡ Some d) × (is_variant (Some d) ≡ false)

-- ---- copies of what rules say inside, by their clauses

abbrev of_decl : Option TypeDecl → Rules
of_decl None = rule.NOT_A_TYPE ∷ []
of_decl d = unless (not (is_variant d)) rule.HEADER_TYPE

abbrev of_result : ℕ → Option Ty → List ℕ
of_result k None = []
of_result k (Some ty) = types_at k (own_typings ty)

-- ---- headers

module _ (p : Program) where
  abbrev OfHeader : Option ℕ → Type 0
  OfHeader None = Unit {0}
  OfHeader (Some t) = IsObject p t

  abbrev AreTyped : List Typing → Type 0
  AreTyped = All (λ x. IsObject p x.type)

  header_key : (o : Option ℕ) → when_some o (λ t. of_decl (decl_of p t)) ≡ [] → OfHeader o
  header_key None e = tt
  header_key (Some t) e = by (decl_of p t) refl e
    where
      by : (o : Option TypeDecl) → decl_of p t ≡ o → of_decl o ≡ [] → IsObject p t
      by None at e = absurd (filled_not_empty rule.NOT_A_TYPE [] e)
      by (Some d) at e = (d, at, not-true (is_variant (Some d)) (unless_holds (not (is_variant (Some d))) rule.HEADER_TYPE e))

  header_keys : (h : Header) → header_broken p h ≡ [] → All OfHeader h
  header_keys h e = all_from OfHeader h (λ i o at. header_key o (each_at (λ h. when_some h (λ t. of_decl (decl_of p t))) h i o e at))

  args_typed : (args : List ℕ) (h : Header) → All OfHeader h → AreTyped (arg_typings args h)
  args_typed [] h is = tt
  args_typed (k ∷ ks) [] is = tt
  args_typed (k ∷ ks) (None ∷ hs) is = args_typed ks hs is.1
  args_typed (k ∷ ks) (Some t ∷ hs) is = (is.0, args_typed ks hs is.1)

  at_key : (k : ℕ) (xs : List Typing) → AreTyped xs → All (IsObject p) (types_at k xs)
  at_key k [] is = tt
  at_key k (x ∷ xs) is = by (x.key == k) (at_key k xs is.1)
    where
      by : (b : Bool) → All (IsObject p) (types_at k xs) → All (IsObject p) (map (λ x. x.type) (cond b (x ∷ filter (λ x. x.key == k) xs) (filter (λ x. x.key == k) xs)))
      by true more = (is.0, more)
      by false more = more

module _ (p : Program) (kinded : HasKindedParts p) where
  header_objects : (t : ℕ) → All (OfHeader p) (header_of p t)
  header_objects t = by (decl_of p t) refl
    where
      by : (o : Option TypeDecl) → decl_of p t ≡ o → All (OfHeader p) (header_in o)
      by None at = tt
      by (Some (an_abstract name set)) at = tt
      by (Some (a_struct d)) at =
          header_keys p d.header (right_empty (unless (has_set p (decl_of p t)) rule.UNKNOWN_NAME) (header_broken p d.header)
          (left_empty _ (states_broken p t d.release) (left_empty _ (flat_map (field_broken p t d.header) d.fields) (type_empty p t (a_struct d) kinded at).0)))
      by (Some (a_variant d)) at = header_keys p d.header (type_empty p t (a_variant d) kinded at).0

  -- ---- the types of a function

  module _ (f : Func) where
    own_object : (k t : ℕ) (args : List ℕ) → type_broken p f (tracked k t args) ≡ [] → IsObject p t
    own_object k t args e =
        let there = there_type p f (tracked k t args) e in
        let d = declared p (key_rule p f) (argument_broken p f) (tracked k t args) t refl there in
        let plain = unless_holds (not (is_variant (decl_of p t))) rule.WRONG_PREFIX (shape_fits p (key_rule p f) (argument_broken p f) (tracked k t args) t refl there) in
        (d.0, d.1, not-true (is_variant (Some d.0)) (subst (λ o. not (is_variant o) ≡ true) d.1 plain))

    own_typed : (ty : Ty) → type_broken p f ty ≡ [] → AreTyped p (own_typings ty)
    own_typed int e = tt
    own_typed bool e = tt
    own_typed (tracked k t args) e = (own_object k t args e, tt)
    own_typed (owning states t args) e = tt
    own_typed (guarded k t args) e = tt
    own_typed (variant t args) e = tt
    own_typed (owning_variant t args) e = tt

    type_typed : (ty : Ty) → type_broken p f ty ≡ [] → AreTyped p (typings p ty)
    type_typed int e = tt
    type_typed bool e = tt
    type_typed (tracked k t args) e = (own_object k t args e, args_typed p args (header_of p t) (header_objects t))
    type_typed (owning states t args) e = args_typed p args (header_of p t) (header_objects t)
    type_typed (guarded k t args) e = args_typed p args (header_of p t) (header_objects t)
    type_typed (variant t args) e = args_typed p args (header_of p t) (header_objects t)
    type_typed (owning_variant t args) e = args_typed p args (header_of p t) (header_objects t)

    parameters_typed : (n : ℕ) (ds : List VarDecl) → All (λ d. type_broken p f d.ty ≡ []) ds → AreTyped p (flat_map (typings p) (map (λ d. d.ty) (take n ds)))
    parameters_typed zero ds are = tt
    parameters_typed (suc n) [] are = tt
    parameters_typed (suc n) (d ∷ ds) are =
        all_joined (λ x. IsObject p x.type) (typings p d.ty) (flat_map (typings p) (map (λ d. d.ty) (take n ds))) (type_typed d.ty are.0) (parameters_typed n ds are.1)

    -- ---- a head that breaks no rule

    module _ (m : ℕ) (e : head_broken p m f ≡ []) where
      abbrev types_part : Rules
      types_part = unless (nat_le f.params (length f.vars)) rule.UNKNOWN_NAME ++ flat_map (λ d. type_broken p f d.ty) f.vars

      abbrev upto_clause : Rules
      upto_clause = types_part ++ when_some f.result (type_broken p f) ++ listed_broken p f 0 f.keys ++ unless (are_apart (map (λ e. e.key) f.clause)) rule.CLAUSE_KEY_AGAIN ++ flat_map (entry_broken p f) f.clause

      clause_empty : upto_clause ≡ []
      clause_empty =
          left_empty upto_clause (result_broken f) (left_empty (upto_clause ++ result_broken f) (if f.external then external_broken p f else [])
          (left_empty _ (if m == p.main then unless (is_main_head f) rule.MAIN_HEAD else [])
          (left_empty _ (unless (nat_le (length (filter is_bound_entry f.clause)) 1) rule.SECOND_BOUND) e)))

      result_empty : types_part ++ when_some f.result (type_broken p f) ≡ []
      result_empty =
          left_empty _ (listed_broken p f 0 f.keys) (left_empty _ (unless (are_apart (map (λ e. e.key) f.clause)) rule.CLAUSE_KEY_AGAIN)
          (left_empty _ (flat_map (entry_broken p f) f.clause) clause_empty))

      vars_fit : All (λ d. type_broken p f d.ty ≡ []) f.vars
      vars_fit = all_from (λ d. type_broken p f d.ty ≡ []) f.vars (λ v d at. each_at (λ d. type_broken p f d.ty) f.vars v d
          (right_empty (unless (nat_le f.params (length f.vars)) rule.UNKNOWN_NAME) (flat_map (λ d. type_broken p f d.ty) f.vars)
          (left_empty types_part (when_some f.result (type_broken p f)) result_empty)) at)

      of_result_objects : (k : ℕ) → All (IsObject p) (of_result k f.result)
      of_result_objects k = by f.result refl
        where
          by : (o : Option Ty) → f.result ≡ o → All (IsObject p) (of_result k o)
          by None is = tt
          by (Some ty) is = at_key p k (own_typings ty)
              (own_typed ty (when_at f.result (type_broken p f) ty is (right_empty types_part (when_some f.result (type_broken p f)) result_empty)))

      head_objects : (k : ℕ) → has (keys_of_parameters f) k ≡ true → All (IsObject p) (given_types p f k)
      head_objects k there = by (has (new_keys f) k) (has (keys_of_parameters f) k) there
        where
          by : (new of_parameters : Bool) → of_parameters ≡ true → All (IsObject p) (if new then of_result k f.result else if of_parameters then types_at k (flat_map (typings p) (parameters_of f))
              else if has (head_keys f) k then [] else types_at k (flat_map (λ d. own_typings d.ty) (drop f.params f.vars)))
          by true of_parameters is = of_result_objects k
          by false true is = at_key p k (flat_map (typings p) (parameters_of f)) (parameters_typed f.params f.vars vars_fit)
          by false false is = absurd (true≢false (sym is))

-- the types of a key of the parameters
pub given_objects : (p : Program) → HasKindedParts p → (g : ℕ) (f : Func) → slice_get p.fns g ≡ Some f → (k : ℕ) → has (keys_of_parameters f) k ≡ true → All (IsObject p) (given_types p f k)
given_objects p kinded g f at k there = let x = head_empty p g f kinded at in head_objects p kinded f x.0 x.1 k there
