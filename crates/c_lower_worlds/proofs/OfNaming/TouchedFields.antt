-- What the rules say of a field of an object that a variable refers to.
use Rattle.std.proofs.Common.{◌≡◌, ℕ, true, List, [], ◌∷◌, Option, Some, None, slice_get, refl}
use Rattle.std.proofs.lemmas.Bool.{false≢true}
use Rattle.vlt_core.specs.Core as core
use Rattle.vlt_core.specs.Core.{Ty, FieldDecl, Func, Program}
use Rattle.vlt_core.specs.Lookups.{var_type, fields_of}
use Rattle.vlt_core.specs.Types.{decl_of}
use Rattle.vlt_core.specs.KindedScopes.{Ids, use_broken}
use Rattle.vlt_core.specs.KindedOperands.{touch_broken, object_in}
use Rattle.vlt_core.specs.declared.rules.TheConstants as rule
use Rattle.c_lower_worlds.specs.Naming.Types.{names_object}
use Rattle.c_lower_worlds.proofs.OfNaming.RuleFacts.{both_empty}
use Rattle.vlt_core_laws.proofs.Unbroken.{filled_not_empty}

-- the declared type of the object that a type refers to
abbrev pub referred : Ty → Option ℕ
referred (core.tracked k t args) = Some t
referred (core.guarded k t args) = Some t
referred ty = None

-- a field that is touched, as the rules know it
pub record IsTouched (p : Program) (f : Func) (x i : ℕ) : Type 0 where
  pub ty : Ty
  pub is : var_type f x ≡ Some ty
  pub type : ℕ
  pub args : List ℕ
  pub refers : referred ty ≡ Some type
  pub object : object_in (Some ty) ≡ Some (type, args)
  pub decl : FieldDecl
  pub at : slice_get (fields_of p type) i ≡ Some decl

pub some_there : {A : Type 0} (o : Option A) → Rattle.std.specs.Prelude.is_some o ≡ true → (a : A) × (o ≡ Some a)
some_there None e = absurd (false≢true e)
some_there (Some a) e = (a, refl)

pub touch_field : (p : Program) (f : Func) (ids : Ids) (x i : ℕ) (ty : Ty) → var_type f x ≡ Some ty → names_object p ty ≡ true → touch_broken p f ids x i ≡ [] → IsTouched p f x i
touch_field p f ids x i ty is named e = by ty is named
  where
    by : (ty : Ty) → var_type f x ≡ Some ty → names_object p ty ≡ true → IsTouched p f x i
    by (core.tracked k t args) is named =
        of_field (slice_get (fields_of p t) i) refl
      where
        of_field : (o : Option FieldDecl) → slice_get (fields_of p t) i ≡ o → IsTouched p f x i
        of_field None at = let b = (both_empty (use_broken f ids x) _ e).right in let q : rule.UNKNOWN_NAME ∷ [] ≡ [] = rw (is, at, (some_there (decl_of p t) named).1) at b in absurd (filled_not_empty rule.UNKNOWN_NAME [] q)
        of_field (Some decl) at = record { ty = core.tracked k t args; is = is; type = t; args = args; refers = refl; object = refl; decl = decl; at = at }
    by (core.guarded k t args) is named = of_field (slice_get (fields_of p t) i) refl
      where
        of_field : (o : Option FieldDecl) → slice_get (fields_of p t) i ≡ o → IsTouched p f x i
        of_field None at = let b = (both_empty (use_broken f ids x) _ e).right in let q : rule.UNKNOWN_NAME ∷ [] ≡ [] = rw (is, at, (some_there (decl_of p t) named).1) at b in absurd (filled_not_empty rule.UNKNOWN_NAME [] q)
        of_field (Some decl) at = record { ty = core.guarded k t args; is = is; type = t; args = args; refers = refl; object = refl; decl = decl; at = at }
    by core.int is named = let b = (both_empty (use_broken f ids x) _ e).right in let q : rule.WRONG_TYPE ∷ [] ≡ [] = rw is at b in absurd (filled_not_empty rule.WRONG_TYPE [] q)
    by core.bool is named = let b = (both_empty (use_broken f ids x) _ e).right in let q : rule.WRONG_TYPE ∷ [] ≡ [] = rw is at b in absurd (filled_not_empty rule.WRONG_TYPE [] q)
    by (core.owning states t args) is named = let b = (both_empty (use_broken f ids x) _ e).right in let q : rule.WRONG_TYPE ∷ [] ≡ [] = rw is at b in absurd (filled_not_empty rule.WRONG_TYPE [] q)
    by (core.variant t args) is named = let b = (both_empty (use_broken f ids x) _ e).right in let q : rule.WRONG_TYPE ∷ [] ≡ [] = rw is at b in absurd (filled_not_empty rule.WRONG_TYPE [] q)
    by (core.owning_variant t args) is named = let b = (both_empty (use_broken f ids x) _ e).right in let q : rule.WRONG_TYPE ∷ [] ≡ [] = rw is at b in absurd (filled_not_empty rule.WRONG_TYPE [] q)
