-- What is known of a program's declared types and of a function's variants without a run: facts that follow from the rules on
-- names and types.
use Rattle.std.specs.Prelude.{◌≡◌, ℕ, ◌<◌, true, IsTrue, List, length, Some, slice_get}
use Rattle.vlt_core.specs.Core.{Ty, CaseKey, CaseDecl, Func, Program}
use Rattle.vlt_core.specs.Lookups.{var_type, all_states, first_state, case_at}
use Rattle.vlt_core.specs.Types.{decl_of, is_variant, header_of, keys_of_ty}
use Rattle.vlt_core.specs.KindedHeads.{is_payload_type}
use Rattle.vlt_core.specs.KindedStatements.{variant_args}
use Rattle.vlt_sound_worlds.specs.Members.{In}
use Rattle.vlt_sound_worlds.specs.Fits.{header_type}

pub record HasCases (p : Program) (f : Func) : Type 0 where
  -- each type has a state that a new object of it is in
  pub first : (t : ℕ) → IsTrue (all_states p t first_state)
  -- a payload is no reference and no variant, and the keys of its type are those of the header
  pub payloads : (t c i : ℕ) (d : CaseDecl) (ty : Ty) → case_at p t c ≡ Some d → slice_get d.payload i ≡ Some ty →
      (is_payload_type ty ≡ true) × ((k : ℕ) → In k (keys_of_ty ty) → k < length (header_of p t))
  -- a key that a case lists is one of the header, which says its type
  pub keys : (t c i : ℕ) (d : CaseDecl) (k : CaseKey) → case_at p t c ≡ Some d → slice_get d.keys i ≡ Some k →
      (u : ℕ) × (header_type p t k.position ≡ Some u)
  -- a variable of a variant's type is of a declared one
  pub variants : (v t : ℕ) (args : List ℕ) (ty : Ty) → var_type f v ≡ Some ty → variant_args (Some ty) ≡ Some (t, args) →
      is_variant (decl_of p t) ≡ true
