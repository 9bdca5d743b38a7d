-- Names that stand for declared types.
use Rattle.std.proofs.Common.{◌≡◌, ℕ, Option, Some, None, slice_get, option_map, refl, sym, ap, ◌∙◌}
use Rattle.std.proofs.lemmas.Option.{slice_get-map, none-some}
use Rattle.vlt_syntax.specs.Tree.{Name}
use Rattle.vlt_core.specs.Core.{TypeDecl, Program}
use Rattle.vlt_core.specs.Types.{decl_of}
use Rattle.vlt_kinds_types.specs.declared.shapes.Shape.{Shape}
use Rattle.vlt_kinds_types.specs.Files.{File, then_with, type_named, shape_at, shape_named}
use Rattle.vlt_resolve_laws.specs.KindsLaws.Shapes.{core_shape, Describes}

-- the name stands for this type
pub record Stands (file : File) (p : Program) (n : Name) : Type 0 where
  pub type : ℕ
  pub decl : TypeDecl
  pub named : type_named file n ≡ Some type
  pub there : decl_of p type ≡ Some decl
  pub shaped : shape_named file n ≡ Some (core_shape decl)

module _ (file : File) (p : Program) (describes : Describes file p) where
  pub shape_is : (t : ℕ) → shape_at file t ≡ option_map core_shape (decl_of p t)
  unfolding shape_at
  shape_is t = ap (λ ss. slice_get ss t) describes.shapes ∙ slice_get-map core_shape p.types t

  pub stands : (n : Name) (shape : Shape) → shape_named file n ≡ Some shape → Stands file p n
  unfolding shape_named
  stands n shape is = by (type_named file n) refl is
    where
      at : (t : ℕ) → type_named file n ≡ Some t → (o : Option TypeDecl) → decl_of p t ≡ o → option_map core_shape o ≡ Some shape → Stands file p n
      at t named None there e = absurd (none-some shape e)
      at t named (Some d) there e = record {
        type = t;
        decl = d;
        named = named;
        there = there;
        shaped = ap (λ o. then_with o (shape_at file)) named ∙ (shape_is t ∙ ap (option_map core_shape) there);
      }

      by : (o : Option ℕ) → type_named file n ≡ o → then_with o (shape_at file) ≡ Some shape → Stands file p n
      by None named e = absurd (none-some shape e)
      by (Some t) named e = at t named (decl_of p t) refl (sym (shape_is t) ∙ e)
