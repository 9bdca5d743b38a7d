-- What is known of a program and a function without a run: facts that follow from the rules on names and types.
use Rattle.std.specs.Prelude.{◌≡◌, ℕ, ◌<◌, true, false, List, length, Some, slice_get}
use Rattle.vlt_core.specs.Core.{Ty, tracked, variant, FieldDecl, TypeDecl, Func, Program}
use Rattle.vlt_core.specs.Lookups.{var_type, key_type, fields_of, all_states}
use Rattle.vlt_core.specs.KindedHeads.{has_set}
use Rattle.vlt_core.specs.Types.{decl_of, header_of, type_in, args_of, keys_of_ty, is_owning_type}
use Rattle.vlt_sound_worlds.specs.Members.{In}
use Rattle.vlt_sound_worlds.specs.Fits.{header_type}
use Rattle.vlt_sound_worlds.specs.Limited.{IsNarrow}

-- a type is declared, and has as many arguments as the declaration's header
pub record IsDeclared (p : Program) (t : ℕ) (args : List ℕ) : Type 0 where
  pub decl : TypeDecl
  pub is : decl_of p t ≡ Some decl
  pub count : length args ≡ length (header_of p t)

-- the states that a program can have have numbers below 32
pub record IsLimited (p : Program) : Type 0 where
  pub narrow : (t : ℕ) → IsNarrow (all_states p t)

-- the types of a program's fields and of a function's variables
pub record IsTyped (p : Program) (f : Func) : Type 0 where
  pub limited : IsLimited p
  -- the set of states that a declared type names is there
  pub sets : (t : ℕ) → has_set p (decl_of p t) ≡ true
  pub vars : (v : ℕ) (ty : Ty) (t : ℕ) → var_type f v ≡ Some ty → type_in ty ≡ Some t → IsDeclared p t (args_of ty)
  -- the keys of a field's type are those of the header
  pub fields : (t i : ℕ) (d : FieldDecl) → slice_get (fields_of p t) i ≡ Some d → (k : ℕ) →
      In k (keys_of_ty d.ty) → k < length (header_of p t)
  -- a variable of a variant that is copied owns nothing
  pub variants : (v t : ℕ) (args : List ℕ) → var_type f v ≡ Some (variant t args) → is_owning_type p t ≡ false
  -- and so does a field of one
  pub field_variants : (t i u : ℕ) (d : FieldDecl) (args : List ℕ) → slice_get (fields_of p t) i ≡ Some d →
      d.ty ≡ variant u args → is_owning_type p u ≡ false
  -- a reference's own key has the type of its object
  pub keys : (v k t : ℕ) (args : List ℕ) → var_type f v ≡ Some (tracked k t args) → key_type f k ≡ Some t
  -- a key that stands for one of a header has the type that the header gives it
  pub heads : (v t i k u : ℕ) (ty : Ty) → var_type f v ≡ Some ty → type_in ty ≡ Some t →
      slice_get (args_of ty) i ≡ Some k → header_type p t i ≡ Some u → key_type f k ≡ Some u
