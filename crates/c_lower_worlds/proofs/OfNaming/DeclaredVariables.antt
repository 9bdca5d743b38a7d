-- The variables that statements name are declared.
use Rattle.std.proofs.Common.{◌≡◌, ◌<◌, ℕ, zero, suc, ◌&&◌, nat_lt, Bool, true, false, if◌then◌else◌, List, [], ◌∷◌, ◌++◌, length, Option, Some, None, slice_get, refl, ap, arith, option_map}
use Rattle.std.proofs.lemmas.Bool.Decides.{nat_tests}
use Rattle.vlt_core.specs.Core.{Ty, Func, VarDecl}
use Rattle.vlt_core.specs.Lookups.{var_type}
use Rattle.vlt_core.specs.KindedHeads.{unless, has}
use Rattle.vlt_core.specs.KindedScopes.{Ids, use_broken, binding_broken, target_broken, fresh_broken, keys_broken, with_key}
use Rattle.vlt_core.specs.declared.rules.TheConstants as rule
use Rattle.vlt_core_laws.proofs.Unbroken.{filled_not_empty}

pub record Declared (f : Func) (v : ℕ) : Type 0 where
  pub ty : Ty
  pub is : var_type f v ≡ Some ty

pub declared_in_range : (f : Func) (v : ℕ) → nat_lt v (length f.vars) ≡ true → Declared f v
declared_in_range f v l = let q = by f.vars v (grind (arith, nat_tests)) in record { ty = q.0.ty; is = ap (option_map (λ (d : VarDecl). d.ty)) q.1 }
  where
    by : (ds : List VarDecl) (v : ℕ) → v < length ds → (d : VarDecl) × (slice_get ds v ≡ Some d)
    by [] v l = absurd (omega arith)
    by (d ∷ ds) zero l = (d, refl)
    by (d ∷ ds) (suc v) l = by ds v (omega arith)

pub used_declared : (f : Func) (ids : Ids) (v : ℕ) → use_broken f ids v ≡ [] → Declared f v
used_declared f ids v e = by (nat_lt v (length f.vars)) refl e
  where
    by : (b : Bool) → nat_lt v (length f.vars) ≡ b → (if b then unless (has ids.vars v) rule.NAME_TAKEN else rule.UNKNOWN_NAME ∷ []) ≡ [] → Declared f v
    by true l e = declared_in_range f v l
    by false l e = absurd (filled_not_empty rule.UNKNOWN_NAME [] e)

pub bound_declared : (f : Func) (ids : Ids) (fresh : Option ℕ) (v : ℕ) → binding_broken f ids fresh v ≡ [] → Declared f v
bound_declared f ids fresh v e = by (nat_lt v (length f.vars)) refl e
  where
    by : (b : Bool) → nat_lt v (length f.vars) ≡ b →
        (if b then unless (Rattle.std.specs.Prelude.not (has ids.vars_ever v)) rule.NAME_TAKEN ++ fresh_broken f ids fresh ++ keys_broken f (with_key f fresh ids) (var_type f v) else rule.UNKNOWN_NAME ∷ []) ≡ [] → Declared f v
    by true l e = declared_in_range f v l
    by false l e = absurd (filled_not_empty rule.UNKNOWN_NAME [] e)

pub target_declared : (f : Func) (ids : Ids) (v : ℕ) → target_broken f ids v ≡ [] → Declared f v
target_declared f ids v e = by (has ids.vars v) (nat_lt v (length f.vars)) refl e
  where
    by : (h l : Bool) → nat_lt v (length f.vars) ≡ l → (if h && l then [] else binding_broken f ids None v) ≡ [] → Declared f v
    by true true l e = declared_in_range f v l
    by true false l e = bound_declared f ids None v e
    by false true l e = bound_declared f ids None v e
    by false false l e = bound_declared f ids None v e
