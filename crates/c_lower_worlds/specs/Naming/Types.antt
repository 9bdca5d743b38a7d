-- What the rules on declared types say, as laws on statements need it. It follows from `IsKinded`.
use Rattle.std.specs.Prelude.{◌≡◌, ℕ, Bool, true, Some, slice_get, is_some}
use Rattle.vlt_core.specs.Core.{Ty, tracked, guarded, variant, owning_variant, FieldDecl, CaseDecl, Func, Program}
use Rattle.vlt_core.specs.Lookups.{fields_of, case_at, var_type}
use Rattle.vlt_core.specs.Types.{decl_of}
use Rattle.vlt_core.specs.Types as types
use Rattle.vlt_core.specs.KindedHeads.{is_payload_type, is_field_type}
use Rattle.c_lower_worlds.specs.Naming.Functions.{IsFunction}

-- a variant's type is declared as one
abbrev pub names_variant : Program → Ty → Bool
names_variant p (variant t args) = types.is_variant (decl_of p t)
names_variant p (owning_variant t args) = types.is_variant (decl_of p t)
names_variant p ty = true

-- the type of an object that is referred to is declared
abbrev pub names_object : Program → Ty → Bool
names_object p (tracked k t args) = is_some (decl_of p t)
names_object p (guarded k t args) = is_some (decl_of p t)
names_object p ty = true

pub record TypesFit (p : Program) : Type 0 where
  pub payloads : (t k : ℕ) (d : CaseDecl) → case_at p t k ≡ Some d →
      (j : ℕ) (ty : Ty) → slice_get d.payload j ≡ Some ty → is_payload_type ty ≡ true
  pub fields : (t i : ℕ) (d : FieldDecl) → slice_get (fields_of p t) i ≡ Some d →
      is_field_type p d.ty ≡ true
  pub variables : (f : Func) → IsFunction p f → (v : ℕ) (ty : Ty) → var_type f v ≡ Some ty →
      names_variant p ty ≡ true
  pub objects : (f : Func) → IsFunction p f → (v : ℕ) (ty : Ty) → var_type f v ≡ Some ty →
      names_object p ty ≡ true
