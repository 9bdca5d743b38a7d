-- Declarations that break no rule have narrow numbers.
use Rattle.std.proofs.Common.{◌≡◌, ◌≤◌, ◌+◌, ℕ, suc, nat_lt, nat_le, Bool, true, false, not, ◌==◌, if◌then◌else◌, List, [], ◌∷◌, ◌++◌, map, length, Option, Some, None, IfSome, refl, sym, ◌∙◌, subst, slice_get, arith}
use Rattle.std.specs.Prelude.{filter}
use Rattle.std.specs.List.{flat_map}
use Rattle.std.proofs.lemmas.Bool.Decides.{nat_tests}
use Rattle.std.proofs.lemmas.List.Concat.{flat_map-cons}
use Rattle.vlt_core.specs.Core.{Ty, SetDecl, FieldDecl, CaseKey, CaseDecl, TypeDecl, an_abstract, a_struct, a_variant, Header, Entry, KeyDecl, VarDecl, Func, Program}
use Rattle.vlt_core.specs.Lookups.{set_in, count_in, fields_in, fields_of, cases_in, cases_of}
use Rattle.vlt_core.specs.Types.{decl_of, is_variant}
use Rattle.vlt_core.specs.KindedHeads.{Rules, is_bound_entry, unless, when_some, are_apart, has_set, states_broken, own_typings, ty_broken, part_broken, header_broken, is_field_type, field_broken, is_payload_type, case_key_broken, case_broken, argument_broken, reference_broken, type_broken, key_broken, listed_broken, entry_broken, result_broken, external_broken, is_main_head, head_broken}
use Rattle.vlt_core.specs.Kinded.{HasKindedParts, IsKinded}
use Rattle.vlt_core.specs.KindedBodies.{first_ids, stmts_rows}
use Rattle.vlt_core.specs.declared.rules.TheConstants as rule
use Rattle.vlt_core_laws.proofs.Unbroken.{filled_not_empty, left_empty, right_empty, unless_holds}
use Rattle.vlt_core_laws.specs.Unbroken.{EachEmpty}
use Rattle.vlt_core_laws.proofs.Headed.{kinded_parts, function_empty, head_empty, each_at}
use Rattle.vlt_core_laws.proofs.Binding.{in_range}
use Rattle.cert_rows.specs.Parts.{All}
use Rattle.cert_rows.specs.Values.{FitsTy, field, case_key, key_decl, var_decl}
use Rattle.cert_rows.specs.Rows.{FitsResult}
use Rattle.cert_fit_laws.specs.Limits.{IsLimitedSet, IsLimitedType, IsLimitedFunc, IsLimitedProgram}
use Rattle.cert_fit_laws.proofs.Narrow.{IsId, IsMaybeId, IsNarrowCase, IsNarrowType, IsNarrowEntry, AreNarrow, IsNarrowFunc, IsNarrowProgram}
use Rattle.cert_fit_laws.proofs.FittingParts.{maybe_fits}
use Rattle.cert_fit_laws.proofs.Masked.{IsMaskedTy, IsMaskedField, IsMaskedKey, IsMaskedCase, IsMaskedType, IsMaskedEntry, IsMaskedFunc, IsMaskedProgram}
use Rattle.cert_fit_laws.proofs.NarrowNumbers.{Bounds, few_id, within, ty_fits}
use Rattle.cert_fit_laws.proofs.Listed.{all_at, all_from}
use Rattle.cert_fit_laws.proofs.Tables.{set_there, count_from, type_empty, sets_there}
use Rattle.cert_fit_laws.proofs.NarrowBodies.{list_low}

-- ---- lists

flat_with : {A : Type 0} (M P : A → Type 0) (go : A → Rules) (each : (x : A) → go x ≡ [] → M x → P x) (xs : List A) → flat_map go xs ≡ [] → All M xs → All P xs
flat_with M P go each [] e m = tt
flat_with M P go each (x ∷ xs) e m =
    let both = sym (flat_map-cons go x xs) ∙ e in
    (each x (left_empty (go x) (flat_map go xs) both) m.0, flat_with M P go each xs (right_empty (go x) (flat_map go xs) both) m.1)

rows_with : {A : Type 0} (M P : A → Type 0) (go : A → Rules) (each : (x : A) → go x ≡ [] → M x → P x) (xs : List A) → EachEmpty (map go xs) → All M xs → All P xs
rows_with M P go each [] e m = tt
rows_with M P go each (x ∷ xs) e m = (each x e.0 m.0, rows_with M P go each xs e.1 m.1)

abbrev Any : {A : Type 0} → A → Type 0
Any x = Unit {0}

all_any : {A : Type 0} (xs : List A) → All Any xs
all_any [] = tt
all_any (x ∷ xs) = (tt, all_any xs)

-- ---- rows by number

module _ (p : Program) (kinded : HasKindedParts p) (is : IsLimitedProgram p) where
  few_states : (o : Option ℕ) → count_from p o ≤ 32
  few_states None = omega arith
  few_states (Some i) = by (slice_get p.sets i) refl
    where
      by : (o : Option SetDecl) → slice_get p.sets i ≡ o → count_in o ≤ 32
      by None at = omega arith
      by (Some d) at = (all_at IsLimitedSet p.sets i d is.sets at).few

  few_fields : (t : ℕ) → length (fields_of p t) ≤ 32
  few_fields t = by (slice_get p.types t) refl
    where
      none : 0 ≤ 32
      none = omega arith

      by : (o : Option TypeDecl) → slice_get p.types t ≡ o → length (fields_in o) ≤ 32
      by None at = none
      by (Some (an_abstract name set)) at = none
      by (Some (a_struct d)) at = (all_at IsLimitedType p.types t (a_struct d) is.types at).1
      by (Some (a_variant d)) at = none

  few_cases : (t : ℕ) → length (cases_of p t) ≤ 32
  few_cases t = by (slice_get p.types t) refl
    where
      none : 0 ≤ 32
      none = omega arith

      by : (o : Option TypeDecl) → slice_get p.types t ≡ o → length (cases_in o) ≤ 32
      by None at = none
      by (Some (an_abstract name set)) at = none
      by (Some (a_struct d)) at = none
      by (Some (a_variant d)) at = (all_at IsLimitedType p.types t (a_variant d) is.types at).2

  few_sets : length p.sets ≤ 4096
  few_sets = first (length p.sets) (length p.types) (length p.fns) is.few
    where
      first : (a b c : ℕ) → a + b + c ≤ 4096 → a ≤ 4096
      first a b c e = omega (arith, e)

  few_types : length p.types ≤ 4096
  few_types = first (length p.sets) (length p.types) (length p.fns) is.few
    where
      first : (a b c : ℕ) → a + b + c ≤ 4096 → b ≤ 4096
      first a b c e = omega (arith, e)

  few_fns : length p.fns ≤ 4096
  few_fns = first (length p.sets) (length p.types) (length p.fns) is.few
    where
      first : (a b c : ℕ) → a + b + c ≤ 4096 → c ≤ 4096
      first a b c e = omega (arith, e)

  -- ---- declared types

  set_low : (o : Option ℕ) → set_there p o ≡ true → IsMaybeId o
  set_low None e = tt
  set_low (Some i) e = few_id i (length p.sets) e few_sets

  abbrev of_decl : Option TypeDecl → Rules
  of_decl None = rule.NOT_A_TYPE ∷ []
  of_decl d = unless (not (is_variant d)) rule.HEADER_TYPE

  header_low : (h : Header) → header_broken p h ≡ [] → All IsMaybeId h
  header_low h e = flat_with Any IsMaybeId (λ h. when_some h (λ t. of_decl (decl_of p t))) low h e (all_any h)
    where
      by : (t : ℕ) (o : Option TypeDecl) → decl_of p t ≡ o → of_decl o ≡ [] → IsId t
      by t None at e = absurd (filled_not_empty rule.NOT_A_TYPE [] e)
      by t (Some d) at e = few_id t (length p.types) (within p.types t d at) few_types

      low : (h : Option ℕ) → when_some h (λ t. of_decl (decl_of p t)) ≡ [] → Any h → IsMaybeId h
      low None e m = tt
      low (Some t) e m = by t (decl_of p t) refl e

  module _ (header : Header) (short : length header ≤ 16) where
    abbrev key_rule : ℕ → Rules
    key_rule k = unless (nat_lt k (length header)) rule.KEY_NOT_IN_HEADER

    abbrev fits : ℕ → Option ℕ → Bool
    fits t None = false
    fits t (Some u) = t == u

    abbrev arg_rule : (key type : ℕ) → Rules
    arg_rule k t = when_some (slice_get header k) (λ h. unless (fits t h) rule.KEY_ARGUMENT)

    short_id : (k n : ℕ) → nat_lt k n ≡ true → n ≤ 16 → IsId k
    short_id k n less few = grind (arith, nat_tests)

    part_fits : (ty : Ty) → part_broken p header ty ≡ [] → IsMaskedTy ty → FitsTy ty
    part_fits ty e m = ty_fits p key_rule arg_rule (λ k e. short_id k (length header) (unless_holds (nat_lt k (length header)) rule.KEY_NOT_IN_HEADER e) short) few_types ty e m

    field_fits : (t : ℕ) (d : FieldDecl) → field_broken p t header d ≡ [] → IsMaskedField d → field.Fits d
    field_fits t d e m = ((tt, part_fits d.ty (left_empty (part_broken p header d.ty) (states_broken p t d.states) (left_empty _ (unless (is_field_type p d.ty) rule.FIELD_TYPE) e)) m.0, m.1), refl)

    abbrev of_key : CaseKey → Option (Option ℕ) → Rules
    of_key k (Some (Some t)) = when_some (decl_of p t) (λ d. states_broken p t k.states)
    of_key k _ = rule.CASE_KEY ∷ []

    key_fits : (k : CaseKey) → case_key_broken p header k ≡ [] → IsMaskedKey k → case_key.Fits k
    key_fits k e m = ((by (slice_get header k.position) refl e, m), refl)
      where
        by : (o : Option (Option ℕ)) → slice_get header k.position ≡ o → of_key k o ≡ [] → IsId k.position
        by None at e = absurd (filled_not_empty rule.CASE_KEY [] e)
        by (Some None) at e = absurd (filled_not_empty rule.CASE_KEY [] e)
        by (Some (Some t)) at e = short_id k.position (length header) (within header k.position (Some t) at) short

    case_low : (c : CaseDecl) → case_broken p header c ≡ [] → IsMaskedCase c → IsNarrowCase c
    case_low c e m =
        let first_part = left_empty _ (flat_map (case_key_broken p header) c.keys) e in (
          flat_with IsMaskedTy FitsTy (λ ty. part_broken p header ty ++ unless (is_payload_type ty) rule.PAYLOAD_TYPE) (λ ty e m. part_fits ty (left_empty (part_broken p header ty) (unless (is_payload_type ty) rule.PAYLOAD_TYPE) e) m) c.payload
              (left_empty _ (unless (are_apart (map (λ k. k.position) c.keys)) rule.CASE_KEY) first_part) m.0,
          flat_with IsMaskedKey case_key.Fits (case_key_broken p header) key_fits c.keys (right_empty _ (flat_map (case_key_broken p header) c.keys) e) m.1,
        )

  type_low : (t : ℕ) (d : TypeDecl) → slice_get p.types t ≡ Some d → IsMaskedType d → IsNarrowType d
  type_low t (an_abstract name set) at m = set_low set (subst (λ o. set_there p (set_in o) ≡ true) at (sets_there p kinded t))
  type_low t (a_struct d) at m =
      let row = (type_empty p t (a_struct d) kinded at).0 in
      let short = (all_at IsLimitedType p.types t (a_struct d) is.types at).0 in
      let first_part = left_empty _ (flat_map (field_broken p t d.header) d.fields) row in (
        header_low d.header (right_empty (unless (has_set p (decl_of p t)) rule.UNKNOWN_NAME) (header_broken p d.header) (left_empty _ (states_broken p t d.release) first_part)),
        set_low d.set (subst (λ o. set_there p (set_in o) ≡ true) at (sets_there p kinded t)),
        m.0,
        flat_with IsMaskedField field.Fits (field_broken p t d.header) (field_fits d.header short t) d.fields (right_empty _ (flat_map (field_broken p t d.header) d.fields) row) m.1,
      )
  type_low t (a_variant d) at m =
      let rows = type_empty p t (a_variant d) kinded at in
      let short = (all_at IsLimitedType p.types t (a_variant d) is.types at).0 in
      (header_low d.header rows.0, rows_with IsMaskedCase IsNarrowCase (case_broken p d.header) (case_low d.header short) d.cases rows.1 m)

  -- ---- functions

  module _ (g : ℕ) (f : Func) (at : slice_get p.fns g ≡ Some f) (m : IsMaskedFunc f) where
    limits : IsLimitedFunc f
    limits = all_at IsLimitedFunc p.fns g f is.fns at

    abbrev number : ℕ
    number = (head_empty p g f kinded at).0

    head : head_broken p number f ≡ []
    head = (head_empty p g f kinded at).1

    abbrev var_rules : Rules
    var_rules = flat_map (λ d. type_broken p f d.ty) f.vars

    abbrev upto_vars : Rules
    upto_vars = unless (nat_le f.params (length f.vars)) rule.UNKNOWN_NAME ++ var_rules

    abbrev upto_result : Rules
    upto_result = upto_vars ++ when_some f.result (type_broken p f)

    abbrev upto_keys : Rules
    upto_keys = upto_result ++ listed_broken p f 0 f.keys

    abbrev upto_apart : Rules
    upto_apart = upto_keys ++ unless (are_apart (map (λ e. e.key) f.clause)) rule.CLAUSE_KEY_AGAIN

    e5 : upto_apart ++ flat_map (entry_broken p f) f.clause ≡ []
    e5 = left_empty (upto_apart ++ flat_map (entry_broken p f) f.clause) (result_broken f) (left_empty _ (if f.external then external_broken p f else []) (left_empty _ (if number == p.main then unless (is_main_head f) rule.MAIN_HEAD else []) (left_empty _ (unless (nat_le (length (filter is_bound_entry f.clause)) 1) rule.SECOND_BOUND) head)))

    e3 : upto_result ++ listed_broken p f 0 f.keys ≡ []
    e3 = left_empty upto_keys (unless (are_apart (map (λ e. e.key) f.clause)) rule.CLAUSE_KEY_AGAIN) (left_empty upto_apart (flat_map (entry_broken p f) f.clause) e5)

    e2 : upto_vars ++ when_some f.result (type_broken p f) ≡ []
    e2 = left_empty upto_result (listed_broken p f 0 f.keys) e3

    e1 : var_rules ≡ []
    e1 = right_empty (unless (nat_le f.params (length f.vars)) rule.UNKNOWN_NAME) var_rules (left_empty upto_vars (when_some f.result (type_broken p f)) e2)

    abbrev key_test : ℕ → Rules
    key_test k = unless (nat_lt k (length f.keys)) rule.UNKNOWN_NAME

    key_low : (k n : ℕ) → nat_lt k n ≡ true → n ≤ 256 → IsId k
    key_low k n less few = grind (arith, nat_tests)

    typed : (ty : Ty) → type_broken p f ty ≡ [] → IsMaskedTy ty → FitsTy ty
    typed ty e m = ty_fits p key_test (argument_broken p f) (λ k e. key_low k (length f.keys) (unless_holds (nat_lt k (length f.keys)) rule.UNKNOWN_NAME e) limits.keys) few_types ty
        (left_empty (ty_broken p key_test (argument_broken p f) ty) (flat_map (reference_broken p f) (own_typings ty)) e) m

    result_fits : (o : Option Ty) → when_some o (type_broken p f) ≡ [] → IfSome o IsMaskedTy → FitsResult o
    result_fits None e m = tt
    result_fits (Some ty) e m = typed ty e m

    abbrev is_declared : Option TypeDecl → Bool
    is_declared None = false
    is_declared (Some t) = true

    key_type_low : (o : Option ℕ) → when_some o (λ t. unless (is_declared (decl_of p t)) rule.NOT_A_TYPE) ≡ [] → IsMaybeId o
    key_type_low None e = tt
    key_type_low (Some t) e = by (decl_of p t) refl e
      where
        by : (o : Option TypeDecl) → decl_of p t ≡ o → unless (is_declared o) rule.NOT_A_TYPE ≡ [] → IsId t
        by None at e = absurd (filled_not_empty rule.NOT_A_TYPE [] e)
        by (Some d) at e = few_id t (length p.types) (within p.types t d at) few_types

    keys_fit : (k : ℕ) (ds : List KeyDecl) → listed_broken p f k ds ≡ [] → All key_decl.Fits ds
    keys_fit k [] e = tt
    keys_fit k (d ∷ ds) e = (
      ((tt, maybe_fits d.key_type (key_type_low d.key_type (left_empty (when_some d.key_type (λ t. unless (is_declared (decl_of p t)) rule.NOT_A_TYPE)) _ (left_empty (key_broken p f k d) (listed_broken p f (suc k) ds) e)))), refl),
      keys_fit (suc k) ds (right_empty (key_broken p f k d) (listed_broken p f (suc k) ds) e),
    )

    entry_low : (e : Entry) → entry_broken p f e ≡ [] → IsMaskedEntry e → IsNarrowEntry e
    entry_low e r m = (key_low e.key (length f.keys) (in_range (nat_lt e.key (length f.keys)) _ r) limits.keys, m.0, m.1)

    bounds : Bounds p f
    bounds = record {
      vars = limits.vars;
      keys = limits.keys;
      fns = few_fns;
      fields = few_fields;
      cases = few_cases;
      states = λ t. few_states (set_in (slice_get p.types t));
      sets = sets_there p kinded;
      typed = λ v d at. each_at (λ (d : VarDecl). type_broken p f d.ty) f.vars v d e1 at;
    }

    body_low : AreNarrow f.body
    body_low = by f.external refl
      where
        by : (b : Bool) → f.external ≡ b → AreNarrow f.body
        by true is = subst AreNarrow (sym (limits.blank is)) tt
        by false is = list_low p f bounds 1 f.body (record { jumps = false; returns = true }) (first_ids p f) false m.body limits.body
            (subst (λ b. EachEmpty (if b then [] else stmts_rows p f (record { jumps = false; returns = true }) (first_ids p f) false f.body)) is (function_empty p g f kinded at).1.1)

    func_low : IsNarrowFunc f
    func_low = record {
      result = result_fits f.result (right_empty upto_vars (when_some f.result (type_broken p f)) e2) m.result;
      clause = flat_with IsMaskedEntry IsNarrowEntry (entry_broken p f) entry_low f.clause (right_empty upto_apart (flat_map (entry_broken p f) f.clause) e5) m.clause;
      keys = keys_fit 0 f.keys (right_empty upto_result (listed_broken p f 0 f.keys) e3);
      vars = flat_with (λ (d : VarDecl). IsMaskedTy d.ty) var_decl.Fits (λ (d : VarDecl). type_broken p f d.ty) (λ d e m. ((tt, typed d.ty e m), refl)) f.vars e1 m.vars;
      statements = limits.few;
      body = body_low;
    }

pub narrow : (p : Program) → IsKinded p → IsLimitedProgram p → IsMaskedProgram p → IsNarrowProgram p
narrow p kinded is masked = record {
  types = all_from IsNarrowType p.types (λ t d at. type_low p (kinded_parts p kinded) is t d at (all_at IsMaskedType p.types t d masked.types at));
  fns = all_from IsNarrowFunc p.fns (λ g f at. func_low p (kinded_parts p kinded) is g f at (all_at IsMaskedFunc p.fns g f masked.fns at));
}
