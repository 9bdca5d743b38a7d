-- Headers, fields and payloads that aren't refused.
use Rattle.std.proofs.Common.{◌≡◌, ℕ, Bool, true, false, true≢false, not, if◌then◌else◌, List, [], ◌∷◌, ◌++◌, map, Option, Some, None, refl, sym, ap, ap₂, ◌∙◌}
use Rattle.vlt_base.specs.declared.places.Span.{Span}
use Rattle.vlt_syntax.specs.Tree as s
use Rattle.vlt_syntax.specs.Tree.{Name, Named, HeaderKey, Field}
use Rattle.vlt_syntax.specs.Lists.{Each}
use Rattle.vlt_core.specs.Core as core
use Rattle.vlt_core.specs.Core.{TypeDecl, an_abstract, a_struct, a_variant, Program}
use Rattle.vlt_core.specs.Lookups.{cases_in}
use Rattle.vlt_core.specs.Types as c
use Rattle.vlt_core.specs.Types.{decl_of}
use Rattle.vlt_core.specs.KindedHeads.{Rules, unless, when_some, header_broken, is_field_type, field_broken, is_payload_type, part_broken}
use Rattle.vlt_core.specs.declared.rules.TheConstants as rule
use Rattle.vlt_kinds_types.specs.Names.Refusals.{refusal, of_each}
use Rattle.vlt_kinds_types.specs.declared.shapes.Sort.{Sort}
use Rattle.vlt_kinds_types.specs.declared.shapes.Shape.{Shape}
use Rattle.vlt_kinds_types.specs.declared.shapes.Wanted.{Wanted}
use Rattle.vlt_kinds_types.specs.declared.shapes.Wanted.TheVariants as wanted
use Rattle.vlt_kinds_types.specs.Files.{File, then_with, type_named, type_in, shape_at, shape_named, state_names, wanted_in, header_in, wanted_type, variant_sort}
use Rattle.vlt_kinds_types.specs.Types.{key_use, argument_uses, header_uses, named_uses, sort_in, shape_in, is_variant, is_variant_in, ty_place, ty_refused, ty_uses, states_refused, states_listed, type_number, key_numbers, owned_refused, owned_ty, core_ty}
use Rattle.vlt_kinds_decls.specs.declared.parts.Part.TheVariants as part
use Rattle.vlt_kinds_decls.specs.Decls.{object_refused, key_type_refused, header_refused, is_wrong_field, is_wrong_payload, part_refused, typed_refused, field_refused}
use Rattle.vlt_kinds_decls.specs.Made.{type_wanted, core_header, header_number, core_field}
use Rattle.vlt_resolve_laws.specs.KindsLaws.Shapes.{lists_keys, has_owners, core_sort, core_shape, header_wanted, Describes}
use Rattle.vlt_resolve_laws.proofs.OfKindsLaws.Empty.{cons_not_nil, no_left, no_right, none_of_both, not_broken, holds}
use Rattle.vlt_resolve_laws.proofs.OfKindsLaws.Named.{stands}
use Rattle.vlt_resolve_laws.proofs.OfKindsLaws.States.{states_unbroken}
use Rattle.vlt_resolve_laws.proofs.OfKindsLaws.Written.{written, variant_is, number_is}
use Rattle.vlt_resolve_laws.proofs.OfKindsLaws.Parts.{typed_unbroken}

-- ---- headers

is_clear : (file : File) (n : Name) → key_type_refused file (Some n) ≡ [] → wanted_type (type_in file.globals n) ≡ header_wanted (type_wanted (wanted_type (type_in file.globals n)))
unfolding shape_named
is_clear file n none = by (type_in file.globals n) refl
  where
    by : (o : Option ℕ) → type_in file.globals n ≡ o → wanted_type o ≡ header_wanted (type_wanted (wanted_type o))
    by None is = absurd (cons_not_nil (refusal rule.NOT_A_TYPE n.at.from) [] (sym (ap (λ o. object_refused (sort_in (then_with o (shape_at file))) n) is) ∙ none))
    by (Some t) is = refl

-- no key of the header is of an unknown type
pub header_clear : (file : File) (ps : List HeaderKey) → of_each (header_refused file) ps ≡ [] → header_in file.globals ps ≡ map header_wanted (core_header file.globals ps)
unfolding header_refused
header_clear file [] none = refl
header_clear file (p ∷ ps) none =
    ap₂ (λ w ws. w ∷ ws) (by p.key_type (no_left (key_type_refused file p.key_type) _ none)) (header_clear file ps (no_right (key_type_refused file p.key_type) _ none))
  where
    by : (o : Option Name) → key_type_refused file o ≡ [] → wanted_in file.globals o ≡ header_wanted (type_wanted (wanted_in file.globals o))
    by None none = refl
    by (Some n) none = is_clear file n none

module _ (file : File) (p : Program) (describes : Describes file p) where
  -- what a header's key of a type breaks
  abbrev object_broken : Option TypeDecl → Rules
  object_broken None = rule.NOT_A_TYPE ∷ []
  object_broken d = unless (not (c.is_variant d)) rule.HEADER_TYPE

  key_unbroken : (o : Option Name) → key_type_refused file o ≡ []
      → when_some (type_wanted (wanted_in file.globals o)) (λ t. object_broken (decl_of p t)) ≡ []
  key_unbroken None none = refl
  key_unbroken (Some n) none = by (shape_named file n) refl none
    where
      by : (o : Option Shape) → shape_named file n ≡ o → object_refused (sort_in o) n ≡ []
          → when_some (type_wanted (wanted_type (type_named file n))) (λ t. object_broken (decl_of p t)) ≡ []
      by None is none = absurd (cons_not_nil (refusal rule.NOT_A_TYPE n.at.from) [] none)
      by (Some shape) is none =
          let x = stands file p describes n shape is in
          let plain = not_broken (is_variant (core_sort x.decl)) rule.HEADER_TYPE n.at.from (sym (ap (λ o. object_refused (sort_in o) n) (sym is ∙ x.shaped)) ∙ none) in
          rw (x.named, x.there) (holds _ rule.HEADER_TYPE (ap not (sym (variant_is x.decl) ∙ plain)))

  pub header_unbroken : (ps : List HeaderKey) → of_each (header_refused file) ps ≡ [] → header_broken p (core_header file.globals ps) ≡ []
  unfolding header_refused
  header_unbroken [] none = refl
  header_unbroken (q ∷ ps) none =
      none_of_both _ _ (key_unbroken q.key_type (no_left (key_type_refused file q.key_type) _ none)) (header_unbroken ps (no_right (key_type_refused file q.key_type) _ none))

-- ---- keys that stand as arguments

key_uses_free : (w : Wanted) (ks : List Name) → Each (λ u. u.tracked ≡ false) (map (key_use w) ks)
key_uses_free w [] = tt
key_uses_free w (k ∷ ks) = (refl, key_uses_free w ks)

argument_uses_free : (ws : List Wanted) (ks : List Name) → Each (λ u. u.tracked ≡ false) (argument_uses ws ks)
argument_uses_free [] ks = tt
argument_uses_free (w ∷ ws) [] = tt
argument_uses_free (w ∷ ws) (k ∷ ks) = (refl, argument_uses_free ws ks)

pub named_free : (file : File) (n : Named) → Each (λ u. u.tracked ≡ false) (named_uses file n)
unfolding named_uses
named_free file n = by (shape_named file n.name)
  where
    chosen : (b : Bool) (shape : Shape) → Each (λ u. u.tracked ≡ false) (if b then argument_uses shape.header n.keys else map (key_use wanted.Unknown) n.keys)
    chosen true shape = argument_uses_free shape.header n.keys
    chosen false shape = key_uses_free wanted.Unknown n.keys

    by : (o : Option Shape) → Each (λ u. u.tracked ≡ false) (header_uses o n.keys)
    by None = key_uses_free wanted.Unknown n.keys
    by (Some shape) = chosen _ shape

field_free : (file : File) (t : s.Ty) (kind : Option Sort) → is_wrong_field t kind ≡ false → Each (λ u. u.tracked ≡ false) (ty_uses file t)
field_free file (s.int at) kind right = tt
field_free file (s.bool at) kind right = tt
field_free file (s.tracked k n at) kind right = absurd (true≢false right)
field_free file (s.owning ss n at) kind right = named_free file n
field_free file (s.guarded k n) kind right = (refl, named_free file n)
field_free file (s.plain n) kind right = named_free file n

payload_free : (file : File) (t : s.Ty) (kind : Option Sort) → is_wrong_payload t kind ≡ false → Each (λ u. u.tracked ≡ false) (ty_uses file t)
payload_free file (s.int at) kind right = tt
payload_free file (s.bool at) kind right = tt
payload_free file (s.tracked k n at) kind right = absurd (true≢false right)
payload_free file (s.owning ss n at) kind right = named_free file n
payload_free file (s.guarded k n) kind right = (refl, named_free file n)
payload_free file (s.plain n) kind right = named_free file n

-- ---- forms of fields and payloads

tracked_unkeyed : (d : TypeDecl) (ss : Option s.States) (n : Named) (at : Span) → is_wrong_field (s.owning ss n at) (Some (core_sort d)) ≡ false → lists_keys (cases_in (Some d)) ≡ false
tracked_unkeyed (an_abstract name set) ss n at right = refl
tracked_unkeyed (a_struct d) ss n at right = refl
tracked_unkeyed (a_variant d) ss n at right = by (lists_keys d.cases) (has_owners d.cases) right
  where
    by : (a b : Bool) → is_wrong_field (s.owning ss n at) (Some (variant_sort a b false)) ≡ false → a ≡ false
    by true b right = right
    by false b right = refl

plain_unkeyed : (d : TypeDecl) (n : Named) → is_wrong_field (s.plain n) (Some (core_sort d)) ≡ false → lists_keys (cases_in (Some d)) ≡ false
plain_unkeyed (an_abstract name set) n right = refl
plain_unkeyed (a_struct d) n right = refl
plain_unkeyed (a_variant d) n right = by (lists_keys d.cases) (has_owners d.cases) right
  where
    by : (a b : Bool) → is_wrong_field (s.plain n) (Some (variant_sort a b false)) ≡ false → a ≡ false
    by true b right = right
    by false b right = refl

module _ (file : File) (p : Program) (describes : Describes file p) (number : List ℕ → ℕ) where
  field_type : (t : s.Ty) → ty_refused file t ≡ [] → is_wrong_field t (sort_in (shape_in file t)) ≡ false → is_field_type p (core_ty file number t) ≡ true
  unfolding shape_in owned_ty owned_refused
  field_type (s.int at) none right = refl
  field_type (s.bool at) none right = refl
  field_type (s.tracked k n at) none right = absurd (true≢false right)
  field_type (s.guarded k n) none right = refl
  field_type (s.plain n) none right =
      let x = written file p describes (s.plain n) n none in
      rw (number_is file p describes n.name x.stood, x.stood.there)
      (ap not (plain_unkeyed x.stood.decl n (sym (ap (λ o. is_wrong_field (s.plain n) (sort_in o)) x.stood.shaped) ∙ right)))
  field_type (s.owning ss n at) none right = by (states_listed (state_names file (shape_named file n.name)) ss) (is_variant_in (sort_in (shape_named file n.name)))
    where
      unkeyed : c.is_keyed p (type_number file n.name) ≡ false
      unkeyed =
          let x = written file p describes (s.owning ss n at) n (no_left _ _ none) in
          rw (number_is file p describes n.name x.stood, x.stood.there)
          (tracked_unkeyed x.stood.decl ss n at (sym (ap (λ o. is_wrong_field (s.owning ss n at) (sort_in o)) x.stood.shaped) ∙ right))

      by : (states : core.States) (b : Bool) → is_field_type p (if b then core.owning_variant (type_number file n.name) (key_numbers number n.keys) else core.owning states (type_number file n.name) (key_numbers number n.keys)) ≡ true
      by states true = ap not unkeyed
      by states false = refl

  payload_type : (t : s.Ty) → ty_refused file t ≡ [] → is_wrong_payload t (sort_in (shape_in file t)) ≡ false → is_payload_type (core_ty file number t) ≡ true
  unfolding shape_in owned_ty owned_refused
  payload_type (s.int at) none right = refl
  payload_type (s.bool at) none right = refl
  payload_type (s.tracked k n at) none right = absurd (true≢false right)
  payload_type (s.guarded k n) none right = refl
  payload_type (s.plain n) none right =
      let x = written file p describes (s.plain n) n none in
      absurd (true≢false (sym (ap (λ o. is_wrong_payload (s.plain n) (sort_in o)) x.stood.shaped) ∙ right))
  payload_type (s.owning ss n at) none right =
      let x = written file p describes (s.owning ss n at) n (no_left _ _ none) in
      let plain : is_variant (core_sort x.stood.decl) ≡ false = sym (ap (λ o. is_wrong_payload (s.owning ss n at) (sort_in o)) x.stood.shaped) ∙ right in
      rw (ap (λ o. is_variant_in (sort_in o)) x.stood.shaped ∙ plain) refl

module _ (file : File) (p : Program) (describes : Describes file p) (ps : List HeaderKey) (clear : header_in file.globals ps ≡ map header_wanted (core_header file.globals ps)) where
  pub field_unbroken : (t : ℕ) (d : TypeDecl) → decl_of p t ≡ Some d → (f : Field) → field_refused file ps (state_names file (Some (core_shape d))) f ≡ []
      → field_broken p t (core_header file.globals ps) (core_field file ps (state_names file (Some (core_shape d))) f) ≡ []
  unfolding field_refused typed_refused core_field
  field_unbroken t d there f none =
      let typed = no_left _ (states_refused (state_names file (Some (core_shape d))) f.states) none in
      let form = no_left (ty_refused file f.ty) _ typed in
      let rest = no_right (ty_refused file f.ty) _ typed in
      let right = not_broken (is_wrong_field f.ty (sort_in (shape_in file f.ty))) rule.FIELD_TYPE (ty_place f.ty) (no_left _ _ rest) in
      none_of_both _ _
      (none_of_both _ _
      (typed_unbroken file.globals ps clear file p describes f.ty form (field_free file f.ty _ right) (no_right (part_refused part.Field f.ty (sort_in (shape_in file f.ty))) _ rest))
      (states_unbroken file p describes t d there f.states))
      (holds _ rule.FIELD_TYPE (field_type file p describes (header_number ps) f.ty form right))

  pub payload_unbroken : (t : s.Ty) → typed_refused file ps part.Payload t ≡ []
      → part_broken p (core_header file.globals ps) (core_ty file (header_number ps) t) ++ unless (is_payload_type (core_ty file (header_number ps) t)) rule.PAYLOAD_TYPE ≡ []
  unfolding typed_refused
  payload_unbroken t none =
      let form = no_left (ty_refused file t) _ none in
      let rest = no_right (ty_refused file t) _ none in
      let right = not_broken (is_wrong_payload t (sort_in (shape_in file t))) rule.PAYLOAD_TYPE (ty_place t) (no_left _ _ rest) in
      none_of_both _ _
      (typed_unbroken file.globals ps clear file p describes t form (payload_free file t _ right) (no_right (part_refused part.Payload t (sort_in (shape_in file t))) _ rest))
      (holds _ rule.PAYLOAD_TYPE (payload_type file p describes (header_number ps) t form right))
