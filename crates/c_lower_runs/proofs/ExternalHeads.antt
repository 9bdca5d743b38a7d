-- What the rules say of the heads of externals: their parameters, and the keys of their clauses.
use Rattle.std.proofs.Common.{Option, None, ◌≡◌, ◌<◌, ℕ, zero, suc, ◌==◌, nat_le, filter, length, ◌||◌, ◌&&◌, Bool, true, false, if◌then◌else◌, List, [], ◌∷◌, ◌++◌, map, take, Some, slice_get, refl, sym, ap, ◌∙◌, arith}
use Rattle.std.proofs.lemmas.Bool.{true≢false, false≢true}
use Rattle.std.proofs.lemmas.Option.{none-some, same_Some}
use Rattle.std.specs.List.{flat_map}
use Rattle.std.specs.Option.{option_map}
use Rattle.vlt_core.specs.Core as core
use Rattle.vlt_core.specs.Core.{TypeDecl, an_abstract, a_struct, a_variant, Ty, VarDecl, Entry, Func, Program}
use Rattle.vlt_core.specs.Lookups.{fields_of, fields_in, is_new}
use Rattle.vlt_core.specs.Types.{is_abstract, decl_of, type_in}
use Rattle.vlt_core.specs.KindedHeads.{new_keys, Rules, unless, when_some, has, head_broken, external_broken, is_external_parameter, tracked_keys, own_typings, parameters_of, is_main_head, is_declared_result, external_result_broken, is_bound_entry}
use Rattle.vlt_core.specs.KindedBodies.{end_broken}
use Rattle.vlt_core.specs.declared.rules.TheConstants as rule
use Rattle.vlt_core.specs.Kinded.{IsKinded}
use Rattle.c_lower.specs.Statements.{is_variant}
use Rattle.c_lower.specs.Glue.{is_tracked_by}
use Rattle.c_lower_worlds.proofs.OfNaming.KindedBodies.{function_kinded}
use Rattle.c_lower_runs.proofs.ClauseKeys.{KeyParameter, HaveParameters}
use Rattle.c_lower_runs.proofs.GlueParameters.{PlainParameters}
use Rattle.c_lower_worlds.proofs.OfNaming.RuleFacts.{both_empty}
use Rattle.vlt_core_laws.proofs.Unbroken.{unless_holds}
use Rattle.vlt_core_laws.proofs.Ids.{and_left}

plain_type : (ty : Ty) → is_external_parameter ty ≡ true → is_variant (Some ty) ≡ false
plain_type core.int e = refl
plain_type core.bool e = refl
plain_type (core.tracked k t args) e = refl
plain_type (core.owning states t args) e = refl
plain_type (core.guarded k t args) e = refl
plain_type (core.variant t args) e = absurd (false≢true e)
plain_type (core.owning_variant t args) e = absurd (false≢true e)

plain_at : (ds : List VarDecl) (n v : ℕ) (ty : Ty) → flat_map (λ ty. unless (is_external_parameter ty) rule.EXTERN_HEAD) (map (λ (d : VarDecl). d.ty) (take n ds)) ≡ [] → v < n →
    option_map (λ (d : VarDecl). d.ty) (slice_get ds v) ≡ Some ty → is_variant (Some ty) ≡ false
plain_at [] n v ty e l at = absurd (none-some ty at)
plain_at (d ∷ ds) zero v ty e l at = absurd (omega arith)
plain_at (d ∷ ds) (suc n) zero ty e l at =
    let b = both_empty (unless (is_external_parameter d.ty) rule.EXTERN_HEAD) (flat_map (λ ty. unless (is_external_parameter ty) rule.EXTERN_HEAD) (map (λ (d : VarDecl). d.ty) (take n ds))) e in
    plain_type ty (ap is_external_parameter (sym (same_Some d.ty ty at)) ∙ unless_holds (is_external_parameter d.ty) rule.EXTERN_HEAD b.left)
plain_at (d ∷ ds) (suc n) (suc v) ty e l at =
    let b = both_empty (unless (is_external_parameter d.ty) rule.EXTERN_HEAD) (flat_map (λ ty. unless (is_external_parameter ty) rule.EXTERN_HEAD) (map (λ (d : VarDecl). d.ty) (take n ds))) e in
    plain_at ds n v ty b.right (omega arith) at

-- ---- the parameter of a key

record TrackedAt (ds : List VarDecl) (n k : ℕ) : Type 0 where
  v : ℕ
  below : v < n
  tracked : is_tracked_by k (option_map (λ (d : VarDecl). d.ty) (slice_get ds v)) ≡ true

tracked_at : (ds : List VarDecl) (n k : ℕ) → has (map (λ (x : Rattle.vlt_core.specs.KindedHeads.Typing). x.key) (flat_map own_typings (map (λ (d : VarDecl). d.ty) (take n ds)))) k ≡ true → TrackedAt ds n k
tracked_at [] zero k e = absurd (false≢true e)
tracked_at [] (suc n) k e = absurd (false≢true e)
tracked_at (d ∷ ds) zero k e = absurd (false≢true e)
tracked_at (d ∷ ds) (suc n) k e = by d.ty refl e (tracked_at ds n k)
  where
    more : TrackedAt ds n k → TrackedAt (d ∷ ds) (suc n) k
    more r = let l = r.below in record { v = suc r.v; below = omega arith; tracked = r.tracked }

    one : (j t : ℕ) (args : List ℕ) → d.ty ≡ core.tracked j t args → (b : Bool) → (j == k) ≡ b →
        (b || has (map (λ (x : Rattle.vlt_core.specs.KindedHeads.Typing). x.key) (flat_map own_typings (map (λ (d : VarDecl). d.ty) (take n ds)))) k) ≡ true →
        (has (map (λ (x : Rattle.vlt_core.specs.KindedHeads.Typing). x.key) (flat_map own_typings (map (λ (d : VarDecl). d.ty) (take n ds)))) k ≡ true → TrackedAt ds n k) → TrackedAt (d ∷ ds) (suc n) k
    one j t args q true s e later = record { v = 0; below = omega arith; tracked = ap (λ ty. is_tracked_by k (Some ty)) q ∙ s }
    one j t args q false s e later = more (later e)

    by : (ty : Ty) → d.ty ≡ ty → has (map (λ (x : Rattle.vlt_core.specs.KindedHeads.Typing). x.key) (own_typings ty ++ flat_map own_typings (map (λ (d : VarDecl). d.ty) (take n ds)))) k ≡ true →
        (has (map (λ (x : Rattle.vlt_core.specs.KindedHeads.Typing). x.key) (flat_map own_typings (map (λ (d : VarDecl). d.ty) (take n ds)))) k ≡ true → TrackedAt ds n k) → TrackedAt (d ∷ ds) (suc n) k
    by core.int q e later = more (later e)
    by core.bool q e later = more (later e)
    by (core.tracked j t args) q e later = one j t args q (j == k) refl e later
    by (core.owning states t args) q e later = more (later e)
    by (core.guarded j t args) q e later = more (later e)
    by (core.variant t args) q e later = more (later e)
    by (core.owning_variant t args) q e later = more (later e)

clause_keys : (gf : Func) (es : List Entry) → flat_map (λ (e : Entry). unless (is_new e || has (tracked_keys gf) e.key) rule.EXTERN_HEAD) es ≡ [] → HaveParameters gf es
clause_keys gf [] e = tt
clause_keys gf (x ∷ es) e =
    let b = both_empty (unless (is_new x || has (tracked_keys gf) x.key) rule.EXTERN_HEAD) (flat_map (λ (e : Entry). unless (is_new e || has (tracked_keys gf) e.key) rule.EXTERN_HEAD) es) e in
    ((λ old. by (is_new x) old (unless_holds (is_new x || has (tracked_keys gf) x.key) rule.EXTERN_HEAD b.left)), clause_keys gf es b.right)
  where
    by : (n : Bool) → n ≡ false → (n || has (tracked_keys gf) x.key) ≡ true → KeyParameter gf x.key
    by true old h = absurd (true≢false old)
    by false old h = let r = tracked_at gf.vars gf.params x.key h in record { v = r.v; below = r.below; tracked = r.tracked }

pub record ExternalHead (gf : Func) : Type 0 where
  pub plain : PlainParameters gf
  pub parameters : HaveParameters gf gf.clause

pub external_head : (p : Program) → IsKinded p → (g : ℕ) (gf : Func) → slice_get p.fns g ≡ Some gf → gf.external ≡ true → ExternalHead gf
external_head p kinded g gf at external =
    let a = both_empty (head_broken p g gf) (end_broken p gf) (function_kinded p kinded g gf at).0 in
    let z = both_empty _ (unless (nat_le (length (filter is_bound_entry gf.clause)) 1) rule.SECOND_BOUND) a.left in
    let b = both_empty _ (if g == p.main then unless (is_main_head gf) rule.MAIN_HEAD else []) z.left in
    let c = both_empty _ (if gf.external then external_broken p gf else []) b.left in
    let d = ap (λ (b : Bool). if b then external_broken p gf else []) (sym external) ∙ c.right in
    let e = both_empty _ (when_some gf.result (λ ty. if is_declared_result p ty then external_result_broken p gf ty else [])) d in
    let h = both_empty (flat_map (λ ty. unless (is_external_parameter ty) rule.EXTERN_HEAD) (parameters_of gf)) (flat_map (λ (e : Entry). unless (is_new e || has (tracked_keys gf) e.key) rule.EXTERN_HEAD) gf.clause) e.left in
    record {
      plain = record { plain = λ v ty l q. plain_at gf.vars gf.params v ty h.left l q };
      parameters = clause_keys gf gf.clause h.right;
    }

-- ---- results

-- a type that an external may give objects of has no fields
abstract_fields : (p : Program) (t : ℕ) (ty : Ty) (r : Rules) → type_in ty ≡ Some t → (is_abstract (decl_of p t) ≡ false → r ≡ [] → ⊥) →
    (if is_declared_result p ty then r else []) ≡ [] → fields_of p t ≡ []
abstract_fields p t ty r of not_struct e = by (slice_get p.types t) refl
  where
    by : (d : Option TypeDecl) → slice_get p.types t ≡ d → fields_in d ≡ []
    by None q = refl
    by (Some (an_abstract name set)) q = refl
    by (Some (a_variant d)) q = refl
    by (Some (a_struct d)) q = absurd (not_struct (rw q refl) (rw (of, q) at e))

pub result_row : (p : Program) → IsKinded p → (g : ℕ) (gf : Func) → slice_get p.fns g ≡ Some gf → gf.external ≡ true → (ty : Ty) → gf.result ≡ Some ty →
    (if is_declared_result p ty then external_result_broken p gf ty else []) ≡ []
result_row p kinded g gf at external ty result =
    let a = both_empty (head_broken p g gf) (end_broken p gf) (function_kinded p kinded g gf at).0 in
    let z = both_empty _ (unless (nat_le (length (filter is_bound_entry gf.clause)) 1) rule.SECOND_BOUND) a.left in
    let b = both_empty _ (if g == p.main then unless (is_main_head gf) rule.MAIN_HEAD else []) z.left in
    let c = both_empty _ (if gf.external then external_broken p gf else []) b.left in
    let d = ap (λ (b : Bool). if b then external_broken p gf else []) (sym external) ∙ c.right in
    let e = both_empty _ (when_some gf.result (λ ty. if is_declared_result p ty then external_result_broken p gf ty else [])) d in
    ap (λ (o : Option Ty). when_some o (λ ty. if is_declared_result p ty then external_result_broken p gf ty else [])) (sym result) ∙ e.right

pub owning_fields : (p : Program) → IsKinded p → (g : ℕ) (gf : Func) → slice_get p.fns g ≡ Some gf → gf.external ≡ true → (states : core.States) (t : ℕ) (args : List ℕ) →
    gf.result ≡ Some (core.owning states t args) → fields_of p t ≡ []
owning_fields p kinded g gf at external states t args result =
    abstract_fields p t (core.owning states t args) (unless (is_abstract (decl_of p t)) rule.EXTERN_HEAD) refl
    (λ no e2. true≢false (sym (unless_holds (is_abstract (decl_of p t)) rule.EXTERN_HEAD e2) ∙ no)) (result_row p kinded g gf at external (core.owning states t args) result)

pub tracked_fields : (p : Program) → IsKinded p → (g : ℕ) (gf : Func) → slice_get p.fns g ≡ Some gf → gf.external ≡ true → (k t : ℕ) (args : List ℕ) →
    gf.result ≡ Some (core.tracked k t args) → fields_of p t ≡ []
tracked_fields p kinded g gf at external k t args result =
    abstract_fields p t (core.tracked k t args) (unless (is_abstract (decl_of p t) && has (new_keys gf) k) rule.EXTERN_HEAD) refl
    (λ no e2. true≢false (sym (and_left (is_abstract (decl_of p t)) (has (new_keys gf) k) (unless_holds (is_abstract (decl_of p t) && has (new_keys gf) k) rule.EXTERN_HEAD e2)) ∙ no))
    (result_row p kinded g gf at external (core.tracked k t args) result)

-- a parameter for a key that references among the parameters have
pub key_parameter : (gf : Func) (k : ℕ) → has (tracked_keys gf) k ≡ true → KeyParameter gf k
key_parameter gf k e = let r = tracked_at gf.vars gf.params k e in record { v = r.v; below = r.below; tracked = r.tracked }
