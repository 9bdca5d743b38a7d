-- What is known without a run of the fields of declared types.
use Rattle.std.specs.Prelude.{◌≡◌, ℕ, true, Some, slice_get}
use Rattle.vlt_core.specs.Core.{FieldDecl, Program}
use Rattle.vlt_core.specs.Lookups.{fields_of}
use Rattle.vlt_core.specs.Types.{args_of, type_in}
use Rattle.vlt_core.specs.KindedHeads.{is_field_type}
use Rattle.vlt_sound_worlds.specs.Fits.{header_type}

-- No field is a tracked reference, and a key of a field's type that stands for a header's key with a type has that type in the
-- header of its own declaration.
pub record HasFields (p : Program) : Type 0 where
  pub types : (t i : ℕ) (d : FieldDecl) → slice_get (fields_of p t) i ≡ Some d → is_field_type p d.ty ≡ true
  pub heads : (t i j k u w : ℕ) (d : FieldDecl) → slice_get (fields_of p t) i ≡ Some d → type_in d.ty ≡ Some u →
      slice_get (args_of d.ty) j ≡ Some k → header_type p u j ≡ Some w → header_type p t k ≡ Some w
