-- Of a program that breaks no rule, the declared types fit: payloads, fields, and the types that variables name.
use Rattle.std.proofs.Common.{◌≡◌, ℕ, zero, suc, ◌+◌, ◌==◌, nat_lt, nat_le, filter, true, if◌then◌else◌, List, [], ◌∷◌, ◌++◌, map, length, Option, Some, None, is_some, slice_get, refl, sym, ap, ◌∙◌, subst, arith}
use Rattle.std.proofs.lemmas.Bool.{eqb-true, false≢true}
use Rattle.std.proofs.lemmas.Option.{none-some, same_Some}
use Rattle.std.specs.List.{flat_map, enumerate_from}
use Rattle.std.specs.Option.{option_map}
use Rattle.vlt_core.specs.Core as core
use Rattle.vlt_core.specs.Core.{Ty, FieldDecl, CaseKey, CaseDecl, TypeDecl, VariantDecl, an_abstract, a_struct, a_variant, Header, VarDecl, Func, Program}
use Rattle.vlt_core.specs.Lookups.{fields_of, fields_in, cases_in, case_at, var_type}
use Rattle.vlt_core.specs.Types.{decl_of, keys_of_ty}
use Rattle.vlt_core.specs.Types as types
use Rattle.vlt_core.specs.KindedHeads.{Rules, unless, when_some, set_broken, part_broken, field_broken, case_broken, case_key_broken, are_apart, is_field_type, is_payload_type, type_rows, type_broken, head_broken, is_main_head, is_bound_entry, external_broken, result_broken, entry_broken, listed_broken, ty_broken, argument_broken, reference_broken, own_typings}
use Rattle.vlt_core.specs.KindedBodies.{end_broken}
use Rattle.vlt_core.specs.declared.rules.TheConstants as rule
use Rattle.vlt_core.specs.Kinded.{has_main, function_rows, rows_broken, IsKinded}
use Rattle.c_lower_worlds.specs.Naming.Functions.{IsFunction}
use Rattle.c_lower_worlds.specs.Naming.Types.{TypesFit, names_variant, names_object}
use Rattle.vlt_core_laws.proofs.Unbroken.{each_left, each_right, each_of_first, unless_holds, filled_not_empty}
use Rattle.vlt_core_laws.specs.Unbroken.{EachEmpty}
use Rattle.c_lower_worlds.proofs.OfNaming.KindedBodies.{none_numbered, function_kinded}
use Rattle.c_lower_worlds.proofs.OfNaming.RuleFacts.{both_empty}
use Rattle.vlt_core_laws.proofs.Headed.{each_at}

-- ---- lists of rules that are broken nowhere

rows_none : {A : Type 0} (go : A → Rules) (xs : List A) (i : ℕ) (x : A) → EachEmpty (map go xs) → slice_get xs i ≡ Some x → go x ≡ []
rows_none go [] i x e at = absurd (none-some x at)
rows_none go (y ∷ xs) zero x e at = subst (λ y. go y ≡ []) (same_Some y x at) e.0
rows_none go (y ∷ xs) (suc i) x e at = rows_none go xs i x e.1 at

-- ---- declared types

pub type_kinded : (p : Program) → IsKinded p → (t : ℕ) (d : TypeDecl) → slice_get p.types t ≡ Some d → EachEmpty (type_rows p t d)
type_kinded p kinded t d at =
    subst (λ t. EachEmpty (type_rows p t d)) (zero_plus t)
    (none_numbered (λ (q : ℕ × TypeDecl). type_rows p q.0 q.1) 0 p.types t d
    (each_right (unless (has_main p) rule.NO_MAIN ∷ map set_broken p.sets) (flat_map (λ q. type_rows p q.0 q.1) (enumerate_from 0 p.types))
    (each_left (unless (has_main p) rule.NO_MAIN ∷ map set_broken p.sets ++ flat_map (λ q. type_rows p q.0 q.1) (enumerate_from 0 p.types)) (flat_map (function_rows p) (enumerate_from 0 p.fns))
    (each_of_first 0 (rows_broken p) kinded))) at)
  where
    zero_plus : (n : ℕ) → 0 + n ≡ n
    zero_plus n = omega arith

payload_fits : (p : Program) (header : Header) (d : CaseDecl) → case_broken p header d ≡ [] → (j : ℕ) (ty : Ty) → slice_get d.payload j ≡ Some ty → is_payload_type ty ≡ true
payload_fits p header d e j ty at =
    let a = both_empty _ (flat_map (case_key_broken p header) d.keys) e in
    let b = both_empty (flat_map (λ ty. part_broken p header ty ++ unless (is_payload_type ty) rule.PAYLOAD_TYPE) d.payload) (unless (are_apart (map (λ k. k.position) d.keys)) rule.CASE_KEY) a.left in
    let c = each_at (λ ty. part_broken p header ty ++ unless (is_payload_type ty) rule.PAYLOAD_TYPE) d.payload j ty b.left at in
    unless_holds (is_payload_type ty) rule.PAYLOAD_TYPE (both_empty (part_broken p header ty) (unless (is_payload_type ty) rule.PAYLOAD_TYPE) c).right

payloads_fit : (p : Program) → IsKinded p → (t k : ℕ) (d : CaseDecl) → case_at p t k ≡ Some d → (j : ℕ) (ty : Ty) → slice_get d.payload j ≡ Some ty → is_payload_type ty ≡ true
payloads_fit p kinded t k d at j ty here = by (slice_get p.types t) refl at
  where
    by : (o : Option TypeDecl) → slice_get p.types t ≡ o → slice_get (cases_in o) k ≡ Some d → is_payload_type ty ≡ true
    by None q at = absurd (none-some d at)
    by (Some (an_abstract name set)) q at = absurd (none-some d at)
    by (Some (a_struct s)) q at = absurd (none-some d at)
    by (Some (a_variant v)) q at = payload_fits p v.header d (rows_none (case_broken p v.header) v.cases k d (type_kinded p kinded t (a_variant v) q).1 at) j ty here

fields_fit : (p : Program) → IsKinded p → (t i : ℕ) (d : FieldDecl) → slice_get (fields_of p t) i ≡ Some d → is_field_type p d.ty ≡ true
fields_fit p kinded t i d at = by (slice_get p.types t) refl at
  where
    by : (o : Option TypeDecl) → slice_get p.types t ≡ o → slice_get (fields_in o) i ≡ Some d → is_field_type p d.ty ≡ true
    by None q at = absurd (none-some d at)
    by (Some (an_abstract name set)) q at = absurd (none-some d at)
    by (Some (a_variant v)) q at = absurd (none-some d at)
    by (Some (a_struct s)) q at =
        let a = both_empty _ (flat_map (field_broken p t s.header) s.fields) (type_kinded p kinded t (a_struct s) q).0 in
        let b = each_at (field_broken p t s.header) s.fields i d a.right at in
        unless_holds (is_field_type p d.ty) rule.FIELD_TYPE (both_empty _ (unless (is_field_type p d.ty) rule.FIELD_TYPE) b).right

-- ---- the types that a function's variables name

record AreTyped (p : Program) (f : Func) : Type 0 where
  vars : flat_map (λ (d : VarDecl). type_broken p f d.ty) f.vars ≡ []
  result : when_some f.result (type_broken p f) ≡ []

head_typed : (p : Program) → IsKinded p → (g : ℕ) (f : Func) → slice_get p.fns g ≡ Some f → AreTyped p f
head_typed p kinded g f at = by (function_kinded p kinded g f at).0
  where
    by : head_broken p g f ++ end_broken p f ≡ [] → AreTyped p f
    by e =
        let a = both_empty (head_broken p g f) (end_broken p f) e in
        let z = both_empty _ (unless (nat_le (length (filter is_bound_entry f.clause)) 1) rule.SECOND_BOUND) a.left in
        let b = both_empty _ (if g == p.main then unless (is_main_head f) rule.MAIN_HEAD else []) z.left in
        let c = both_empty _ (if f.external then external_broken p f else []) b.left in
        let d = both_empty _ (result_broken f) c.left in
        let h = both_empty _ (flat_map (entry_broken p f) f.clause) d.left in
        let i = both_empty _ (unless (are_apart (map (λ e. e.key) f.clause)) rule.CLAUSE_KEY_AGAIN) h.left in
        let j = both_empty _ (listed_broken p f 0 f.keys) i.left in
        let k = both_empty _ (when_some f.result (type_broken p f)) j.left in
        record { vars = (both_empty _ (flat_map (λ d. type_broken p f d.ty) f.vars) k.left).right; result = k.right }

-- (of the declared function: an instance has its variables)
variable_kinded : (p : Program) → IsKinded p → (f : Func) (is : IsFunction p f) (v : ℕ) (ty : Ty) → var_type f v ≡ Some ty → type_broken p is.function.declared ty ≡ []
variable_kinded p kinded g is v ty at =
    typed f.vars v (subst (λ (g : Func). var_type g v ≡ Some ty) (sym is.function.is) at) (head_typed p kinded is.number f is.function.at).vars
  where
    f : Func
    f = is.function.declared

    typed : (ds : List VarDecl) (v : ℕ) → option_map (λ (d : VarDecl). d.ty) (slice_get ds v) ≡ Some ty → flat_map (λ (d : VarDecl). type_broken p f d.ty) ds ≡ [] → type_broken p f ty ≡ []
    typed [] v at e = absurd (none-some ty at)
    typed (d ∷ ds) zero at e = subst (λ ty. type_broken p f ty ≡ []) (same_Some d.ty ty at) (both_empty (type_broken p f d.ty) (flat_map (λ (d : VarDecl). type_broken p f d.ty) ds) e).left
    typed (d ∷ ds) (suc v) at e = typed ds v at (both_empty (type_broken p f d.ty) (flat_map (λ (d : VarDecl). type_broken p f d.ty) ds) e).right

abbrev keys_broken : Program → Func → Ty → Rules
keys_broken p f ty = flat_map (λ k. unless (nat_lt k (length f.keys)) rule.UNKNOWN_NAME) (keys_of_ty ty)

abbrev named_broken : Program → Func → Ty → Rules
named_broken p f ty = ty_broken p (λ k. unless (nat_lt k (length f.keys)) rule.UNKNOWN_NAME) (argument_broken p f) ty

-- what is written before a declared type's name fits it; a type that isn't declared is refused
named_variant : (p : Program) (f : Func) (ty : Ty) → type_broken p f ty ≡ [] → names_variant p ty ≡ true
named_variant p f core.int e = refl
named_variant p f core.bool e = refl
named_variant p f (core.tracked k t args) e = refl
named_variant p f (core.owning states t args) e = refl
named_variant p f (core.guarded k t args) e = refl
named_variant p f (core.variant t args) e = by (decl_of p t) refl
  where
    by : (o : Option TypeDecl) → decl_of p t ≡ o → types.is_variant (decl_of p t) ≡ true
    by None q = let h : rule.NOT_A_TYPE ∷ [] ≡ [] = rw q at (both_empty (keys_broken p f (core.variant t args)) _ (both_empty (named_broken p f (core.variant t args)) (flat_map (reference_broken p f) (own_typings (core.variant t args))) e).left).right in absurd (filled_not_empty rule.NOT_A_TYPE [] h)
    by (Some (a_variant d)) q = ap types.is_variant q
    by (Some (an_abstract name set)) q = absurd (filled_not_empty rule.BARE_OBJECT [] (both_empty (unless (length args == 0) rule.KEY_COUNT) (rule.BARE_OBJECT ∷ []) (both_empty (unless (length args == 0) rule.KEY_COUNT ++ rule.BARE_OBJECT ∷ []) _ (rw (q, q) at (both_empty (keys_broken p f (core.variant t args)) _ (both_empty (named_broken p f (core.variant t args)) (flat_map (reference_broken p f) (own_typings (core.variant t args))) e).left).right)).left).right)
    by (Some (a_struct d)) q = absurd (filled_not_empty rule.BARE_OBJECT [] (both_empty (unless (length args == length d.header) rule.KEY_COUNT) (rule.BARE_OBJECT ∷ []) (both_empty (unless (length args == length d.header) rule.KEY_COUNT ++ rule.BARE_OBJECT ∷ []) _ (rw (q, q) at (both_empty (keys_broken p f (core.variant t args)) _ (both_empty (named_broken p f (core.variant t args)) (flat_map (reference_broken p f) (own_typings (core.variant t args))) e).left).right)).left).right)
named_variant p f (core.owning_variant t args) e = by (decl_of p t) refl
  where
    by : (o : Option TypeDecl) → decl_of p t ≡ o → types.is_variant (decl_of p t) ≡ true
    by None q = let h : rule.NOT_A_TYPE ∷ [] ≡ [] = rw q at (both_empty (keys_broken p f (core.owning_variant t args)) _ (both_empty (named_broken p f (core.owning_variant t args)) (flat_map (reference_broken p f) (own_typings (core.owning_variant t args))) e).left).right in absurd (filled_not_empty rule.NOT_A_TYPE [] h)
    by (Some (a_variant d)) q = ap types.is_variant q
    by (Some (an_abstract name set)) q = absurd (filled_not_empty rule.WRONG_OWNERSHIP [] (both_empty (unless (length args == 0) rule.KEY_COUNT) (rule.WRONG_OWNERSHIP ∷ []) (both_empty (unless (length args == 0) rule.KEY_COUNT ++ rule.WRONG_OWNERSHIP ∷ []) _ (rw (q, q) at (both_empty (keys_broken p f (core.owning_variant t args)) _ (both_empty (named_broken p f (core.owning_variant t args)) (flat_map (reference_broken p f) (own_typings (core.owning_variant t args))) e).left).right)).left).right)
    by (Some (a_struct d)) q = absurd (filled_not_empty rule.WRONG_OWNERSHIP [] (both_empty (unless (length args == length d.header) rule.KEY_COUNT) (rule.WRONG_OWNERSHIP ∷ []) (both_empty (unless (length args == length d.header) rule.KEY_COUNT ++ rule.WRONG_OWNERSHIP ∷ []) _ (rw (q, q) at (both_empty (keys_broken p f (core.owning_variant t args)) _ (both_empty (named_broken p f (core.owning_variant t args)) (flat_map (reference_broken p f) (own_typings (core.owning_variant t args))) e).left).right)).left).right)

named_object : (p : Program) (f : Func) (ty : Ty) → type_broken p f ty ≡ [] → names_object p ty ≡ true
named_object p f core.int e = refl
named_object p f core.bool e = refl
named_object p f (core.owning states t args) e = refl
named_object p f (core.variant t args) e = refl
named_object p f (core.owning_variant t args) e = refl
named_object p f (core.tracked k t args) e = by (decl_of p t) refl
  where
    by : (o : Option TypeDecl) → decl_of p t ≡ o → is_some (decl_of p t) ≡ true
    by None q = let h : rule.NOT_A_TYPE ∷ [] ≡ [] = rw q at (both_empty (keys_broken p f (core.tracked k t args)) _ (both_empty (named_broken p f (core.tracked k t args)) (flat_map (reference_broken p f) (own_typings (core.tracked k t args))) e).left).right in absurd (filled_not_empty rule.NOT_A_TYPE [] h)
    by (Some d) q = ap is_some q
named_object p f (core.guarded k t args) e = by (decl_of p t) refl
  where
    by : (o : Option TypeDecl) → decl_of p t ≡ o → is_some (decl_of p t) ≡ true
    by None q = let h : rule.NOT_A_TYPE ∷ [] ≡ [] = rw q at (both_empty (keys_broken p f (core.guarded k t args)) _ (both_empty (named_broken p f (core.guarded k t args)) (flat_map (reference_broken p f) (own_typings (core.guarded k t args))) e).left).right in absurd (filled_not_empty rule.NOT_A_TYPE [] h)
    by (Some d) q = ap is_some q

-- ---- a variant that a result is of

variant_args : (p : Program) (f : Func) (t : ℕ) (args : List ℕ) (d : VariantDecl) → slice_get p.types t ≡ Some (a_variant d) → type_broken p f (core.variant t args) ≡ [] → length args ≡ length d.header
variant_args p f t args d q e =
    let row = both_empty _ _ (rw (q, q) at (both_empty (keys_broken p f (core.variant t args)) _ (both_empty (named_broken p f (core.variant t args)) (flat_map (reference_broken p f) (own_typings (core.variant t args))) e).left).right) in
    eqb-true (length args) (length d.header) (unless_holds (length args == length d.header) rule.KEY_COUNT (both_empty (unless (length args == length d.header) rule.KEY_COUNT) _ row.left).left)

owning_variant_args : (p : Program) (f : Func) (t : ℕ) (args : List ℕ) (d : VariantDecl) → slice_get p.types t ≡ Some (a_variant d) → type_broken p f (core.owning_variant t args) ≡ [] → length args ≡ length d.header
owning_variant_args p f t args d q e =
    let row = both_empty _ _ (rw (q, q) at (both_empty (keys_broken p f (core.owning_variant t args)) _ (both_empty (named_broken p f (core.owning_variant t args)) (flat_map (reference_broken p f) (own_typings (core.owning_variant t args))) e).left).right) in
    eqb-true (length args) (length d.header) (unless_holds (length args == length d.header) rule.KEY_COUNT (both_empty (unless (length args == length d.header) rule.KEY_COUNT) _ row.left).left)

pub record IsOfVariant (p : Program) (t : ℕ) (args : List ℕ) : Type 0 where
  pub decl : VariantDecl
  pub at : slice_get p.types t ≡ Some (a_variant decl)
  pub count : length args ≡ length decl.header

of_variant : (p : Program) (t : ℕ) (args : List ℕ) → types.is_variant (decl_of p t) ≡ true → ((d : VariantDecl) → slice_get p.types t ≡ Some (a_variant d) → length args ≡ length d.header) → IsOfVariant p t args
of_variant p t args is count = by (slice_get p.types t) refl is
  where
    by : (o : Option TypeDecl) → slice_get p.types t ≡ o → types.is_variant o ≡ true → IsOfVariant p t args
    by None q is = absurd (false≢true is)
    by (Some (an_abstract name set)) q is = absurd (false≢true is)
    by (Some (a_struct d)) q is = absurd (false≢true is)
    by (Some (a_variant d)) q is = record { decl = d; at = q; count = count d q }

result_row : (p : Program) → IsKinded p → (g : ℕ) (f : Func) → slice_get p.fns g ≡ Some f → (ty : Ty) → f.result ≡ Some ty → type_broken p f ty ≡ []
result_row p kinded g f at ty is = ap (λ (o : Option Ty). when_some o (type_broken p f)) (sym is) ∙ (head_typed p kinded g f at).result

pub result_variant : (p : Program) → IsKinded p → (g : ℕ) (f : Func) → slice_get p.fns g ≡ Some f → (t : ℕ) (args : List ℕ) → f.result ≡ Some (core.variant t args) → IsOfVariant p t args
result_variant p kinded g f at t args is =
    let row = result_row p kinded g f at (core.variant t args) is in
    of_variant p t args (named_variant p f (core.variant t args) row) (λ d q. variant_args p f t args d q row)

pub result_owning_variant : (p : Program) → IsKinded p → (g : ℕ) (f : Func) → slice_get p.fns g ≡ Some f → (t : ℕ) (args : List ℕ) → f.result ≡ Some (core.owning_variant t args) → IsOfVariant p t args
result_owning_variant p kinded g f at t args is =
    let row = result_row p kinded g f at (core.owning_variant t args) is in
    of_variant p t args (named_variant p f (core.owning_variant t args) row) (λ d q. owning_variant_args p f t args d q row)

-- a case's key stands for one of the header
pub key_in_header : (p : Program) → IsKinded p → (t : ℕ) (v : VariantDecl) → slice_get p.types t ≡ Some (a_variant v) → (c i : ℕ) (d : CaseDecl) (k : CaseKey) → slice_get v.cases c ≡ Some d → slice_get d.keys i ≡ Some k →
    (h : Option ℕ) × (slice_get v.header k.position ≡ Some h)
key_in_header p kinded t v q c i d k at there =
    let row = rows_none (case_broken p v.header) v.cases c d (type_kinded p kinded t (a_variant v) q).1 at in
    by (slice_get v.header k.position) refl (each_at (case_key_broken p v.header) d.keys i k (both_empty _ (flat_map (case_key_broken p v.header) d.keys) row).right there)
  where
    by : (o : Option (Option ℕ)) → slice_get v.header k.position ≡ o → case_key_broken p v.header k ≡ [] → (h : Option ℕ) × (slice_get v.header k.position ≡ Some h)
    by None e row = let bad : rule.CASE_KEY ∷ [] ≡ [] = rw e at row in absurd (filled_not_empty rule.CASE_KEY [] bad)
    by (Some h) e row = (h, e)

-- the object that a result refers to is declared too
pub result_names : (p : Program) → IsKinded p → (g : ℕ) (f : Func) → slice_get p.fns g ≡ Some f → (ty : Ty) → f.result ≡ Some ty → names_object p ty ≡ true
result_names p kinded g f at ty is = named_object p f ty (result_row p kinded g f at ty is)

pub types_fit : (p : Program) → IsKinded p → TypesFit p
types_fit p kinded = record {
  payloads = payloads_fit p kinded;
  fields = fields_fit p kinded;
  variables = λ f is v ty at. named_variant p is.function.declared ty (variable_kinded p kinded f is v ty at);
  objects = λ f is v ty at. named_object p is.function.declared ty (variable_kinded p kinded f is v ty at);
}
