-- The types of headers' keys are declared.
use Rattle.std.proofs.Common.{◌≡◌, is_some, List, [], ◌∷◌, Option, Some, None, slice_get, refl, sym, ap, ◌∙◌}
use Rattle.vlt_syntax.specs.Tree as s
use Rattle.vlt_syntax.specs.Tree.{Name, HeaderKey, Decl}
use Rattle.vlt_syntax.specs.Lists.{Each}
use Rattle.vlt_core.specs.Core.{Program}
use Rattle.vlt_core.specs.Types.{header_in}
use Rattle.vlt_core.specs.declared.rules.TheConstants as rule
use Rattle.vlt_kinds_types.specs.Names.Refusals.{refusal, of_each}
use Rattle.vlt_kinds_types.specs.declared.shapes.Shape.{Shape}
use Rattle.vlt_kinds_types.specs.Files.{File, file_of, shape_named, wanted_in}
use Rattle.vlt_kinds_types.specs.Types.{sort_in}
use Rattle.vlt_kinds_decls.specs.Decls.{object_refused, key_type_refused, header_refused, struct_refused, variant_refused, type_refused, types_refused}
use Rattle.vlt_kinds_decls.specs.Made.{type_wanted, core_header, core_struct, core_variant, core_types_in, core_types}
use Rattle.vlt_resolve_laws.specs.KindsLaws.Shapes.{Describes, HasType, HasHeaders}
use Rattle.vlt_resolve_laws.specs.KindsLaws.Declared.{HasDeclared, IsPassed}
use Rattle.vlt_resolve_laws.proofs.OfKindsLaws.Empty.{cons_not_nil, no_left, no_right}
use Rattle.vlt_resolve_laws.proofs.OfKindsLaws.Named.{stands}
use Rattle.vlt_resolve_laws.proofs.OfKindsLaws.Rows.{each_at, each_in, describes}

module _ (file : File) (p : Program) (described : Describes file p) where
  key_there : (o : Option Name) → key_type_refused file o ≡ [] → HasType p (type_wanted (wanted_in file.globals o))
  key_there None none = tt
  key_there (Some n) none = by (shape_named file n) refl none
    where
      by : (o : Option Shape) → shape_named file n ≡ o → object_refused (sort_in o) n ≡ [] → HasType p (type_wanted (wanted_in file.globals (Some n)))
      by None is none = absurd (cons_not_nil (refusal rule.NOT_A_TYPE n.at.from) [] none)
      by (Some shape) is none =
          let x = stands file p described n shape is in
          rw x.named (ap is_some x.there)

  header_there : (ps : List HeaderKey) → of_each (header_refused file) ps ≡ [] → Each (HasType p) (core_header file.globals ps)
  unfolding header_refused
  header_there [] none = tt
  header_there (q ∷ ps) none = (key_there q.key_type (no_left _ _ none), header_there ps (no_right (key_type_refused file q.key_type) _ none))

  decl_there : (d : Decl) → type_refused file d ≡ [] → Each (λ x. Each (HasType p) (header_in (Some x))) (core_types_in file d)
  unfolding struct_refused variant_refused core_struct core_variant
  decl_there (s.stateset n ss at) none = tt
  decl_there (s.abstract n ss at) none = (tt, tt)
  decl_there (s.struct n ps ss fs r at) none = (header_there ps (no_left _ _ none), tt)
  decl_there (s.variant n ps cs at) none = (header_there ps (no_left _ _ none), tt)
  decl_there (s.extern h at) none = tt
  decl_there (s.function h b at) none = tt

  all_there : (ds : List Decl) → of_each (type_refused file) ds ≡ [] → Each (λ d. Each (λ x. Each (HasType p) (header_in (Some x))) (core_types_in file d)) ds
  all_there [] none = tt
  all_there (d ∷ ds) none = (decl_there d (no_left (type_refused file d) _ none), all_there ds (no_right (type_refused file d) _ none))

pub declarations_described : (ds : List Decl) (p : Program) → IsPassed ds → HasDeclared ds p → Describes (file_of ds) p × HasHeaders p
unfolding types_refused
declarations_described ds p passed has =
    let described = describes ds p passed has in (
      described,
      record {
        each = λ t d there.
            each_at (λ x. Each (HasType p) (header_in (Some x))) (core_types (file_of ds) ds) t d
            (each_in _ (core_types_in (file_of ds)) ds (all_there (file_of ds) p described ds passed.types)) (sym (ap (λ xs. slice_get xs t) has.types) ∙ there);
      },
    )
