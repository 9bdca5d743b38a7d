-- What an expression's type says of variants: they own nothing.
use Rattle.std.proofs.Common.{◌≡◌, ℕ, Bool, true, false, List, Option, Some, None, if◌then◌else◌, refl, slice_get}
use Rattle.std.proofs.lemmas.Option.{none-some, same_Some}
use Rattle.vlt_ops.specs.Operator.{row_of}
use Rattle.vlt_core.specs.Core.{Ty, int, bool, variant, FieldDecl, Expr, number, truth, var, field, unary, binary, Func, Program}
use Rattle.vlt_core.specs.Lookups.{var_type, is_owning, fields_of}
use Rattle.vlt_core.specs.Types.{is_owning_type, with_keys}
use Rattle.vlt_core.specs.KindedOperands.{object_in, field_decl, field_type_in, field_type, unless_owning, given_by, type_of_expr}
use Rattle.vlt_sound_worlds.proofs.Fields.{variant_after}
use Rattle.vlt_sound_worlds.specs.Typed.{IsTyped}

-- a type that is known but for owning ones
known_type : (o : Option Ty) (ty : Ty) → unless_owning o ≡ Some ty → o ≡ Some ty
known_type None ty e = absurd (none-some ty e)
known_type (Some t) ty e = by (is_owning t) e
  where
    by : (b : Bool) → (if b then None else Some t) ≡ Some ty → Some t ≡ Some ty
    by true e = absurd (none-some ty e)
    by false e = e

module _ {p : Program} {f : Func} (typed : IsTyped p f) where
  field_variant : (x i u : ℕ) (args : List ℕ) → field_type p f x i ≡ Some (variant u args) → is_owning_type p u ≡ false
  field_variant x i u args e = by (object_in (var_type f x)) e
    where
      of_decl : (o : ℕ × List ℕ) (d : Option FieldDecl) → slice_get (fields_of p o.0) i ≡ d →
          field_type_in (Some o) d ≡ Some (variant u args) → is_owning_type p u ≡ false
      of_decl o None at e = absurd (none-some (variant u args) e)
      of_decl o (Some d) at e =
          let g = variant_after o.1 d.ty u args (same_Some (with_keys o.1 d.ty) (variant u args) e) in
          typed.field_variants o.0 i u d g.0 at g.1

      by : (o : Option (ℕ × List ℕ)) → field_type_in o (field_decl p o i) ≡ Some (variant u args) →
          is_owning_type p u ≡ false
      by None e = absurd (none-some (variant u args) e)
      by (Some o) e = of_decl o (slice_get (fields_of p o.0) i) refl e

  -- a variant that an expression gives is one that is copied
  pub read_variant : (e : Expr) (u : ℕ) (args : List ℕ) → type_of_expr p f e ≡ Some (variant u args) →
      is_owning_type p u ≡ false
  read_variant (number z) u args is = absurd (basic true (same_Some int (variant u args) is))
    where
      basic : (b : Bool) → (if b then int else bool) ≡ variant u args → ⊥
      basic true e = cc
      basic false e = cc
  read_variant (truth b) u args is = absurd (other (same_Some bool (variant u args) is))
    where
      other : bool ≡ variant u args → ⊥
      other e = cc
  read_variant (var v) u args is = typed.variants v u args (known_type (var_type f v) (variant u args) is)
  read_variant (field x i) u args is =
      field_variant x i u args (known_type (field_type p f x i) (variant u args) is)
  read_variant (unary o a) u args is =
      absurd (basic (row_of o).gives_int (same_Some (given_by o) (variant u args) is))
    where
      basic : (b : Bool) → (if b then int else bool) ≡ variant u args → ⊥
      basic true e = cc
      basic false e = cc
  read_variant (binary o a b) u args is =
      absurd (basic (row_of o).gives_int (same_Some (given_by o) (variant u args) is))
    where
      basic : (b : Bool) → (if b then int else bool) ≡ variant u args → ⊥
      basic true e = cc
      basic false e = cc
