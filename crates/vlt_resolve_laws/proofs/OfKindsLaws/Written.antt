-- A type that isn't refused is right, its keys aside.
use Rattle.std.proofs.Common.{◌≡◌, ℕ, Bool, true, false, true≢false, not, ◌||◌, ◌==◌, List, [], length, Option, Some, None, unwrap_or, refl, sym, ap, ◌∙◌}
use Rattle.std.proofs.lemmas.Bool.{eqb-true, eq-eqb, not-false}
use Rattle.std.proofs.lemmas.List.{length-map}
use Rattle.vlt_syntax.specs.Tree as s
use Rattle.vlt_syntax.specs.Tree.{Name, Named}
use Rattle.vlt_core.specs.Core.{TypeDecl, an_abstract, a_struct, a_variant, Program}
use Rattle.vlt_core.specs.Lookups.{cases_in}
use Rattle.vlt_base.specs.declared.places.Span.{Span}
use Rattle.vlt_core.specs.Types as c
use Rattle.vlt_core.specs.Types.{header_in}
use Rattle.vlt_core.specs.declared.rules.TheConstants as rule
use Rattle.vlt_kinds_types.specs.Names.Refusals.{refusal, refuse_if}
use Rattle.vlt_kinds_types.specs.declared.shapes.Shape.{Shape}
use Rattle.vlt_kinds_types.specs.Files.{File, shape_named, variant_sort}
use Rattle.vlt_kinds_types.specs.Types.{is_variant, sort_in, name_refused, has_wrong_prefix, has_wrong_ownership, is_bare_object, form_refused, ty_place, named_refused, owned_refused, ty_refused, type_number, key_numbers, is_variant_in, owned_ty, core_ty}
use Rattle.vlt_resolve_laws.specs.KindsLaws.Shapes.{lists_keys, has_owners, core_sort, header_wanted, core_shape, Describes, IsDeclaredOf, IsWell}
use Rattle.vlt_resolve_laws.proofs.OfKindsLaws.Empty.{cons_not_nil, no_left, no_right, not_broken, holds}
use Rattle.vlt_resolve_laws.proofs.OfKindsLaws.Named.{Stands, stands}
use Rattle.vlt_resolve_laws.proofs.OfKindsLaws.States.{states_unbroken}

-- ---- sorts

variant_sort_is : (k o : Bool) → is_variant (variant_sort k o false) ≡ true
variant_sort_is true o = refl
variant_sort_is false true = refl
variant_sort_is false false = refl

pub variant_is : (d : TypeDecl) → is_variant (core_sort d) ≡ c.is_variant (Some d)
variant_is (an_abstract n ss) = refl
variant_is (a_struct d) = refl
variant_is (a_variant d) = variant_sort_is (lists_keys d.cases) (has_owners d.cases)

pub struct_is : (d : TypeDecl) (k : Name) (n : Named) → has_wrong_prefix (s.guarded k n) (Some (core_sort d)) ≡ not (c.is_struct (Some d))
struct_is (an_abstract name ss) k n = refl
struct_is (a_struct d) k n = refl
struct_is (a_variant d) k n = by (lists_keys d.cases) (has_owners d.cases)
  where
    by : (a b : Bool) → has_wrong_prefix (s.guarded k n) (Some (variant_sort a b false)) ≡ true
    by true b = refl
    by false true = refl
    by false false = refl

-- a variant that stands plain is copied
abbrev pub IsCopied : TypeDecl → Type 0
IsCopied d = (c.is_variant (Some d) ≡ true) × ((lists_keys (cases_in (Some d)) || has_owners (cases_in (Some d))) ≡ false)

-- a variant that stands after `tracked` owns
abbrev IsOwner : TypeDecl → Type 0
IsOwner d = (lists_keys (cases_in (Some d)) || has_owners (cases_in (Some d))) ≡ true

pub plain_copied : (d : TypeDecl) (n : Named) → has_wrong_ownership (s.plain n) (Some (core_sort d)) ≡ false → is_bare_object (s.plain n) (Some (core_sort d)) ≡ false → IsCopied d
plain_copied (an_abstract name ss) n own bare = absurd (true≢false bare)
plain_copied (a_struct d) n own bare = absurd (true≢false bare)
plain_copied (a_variant d) n own bare = (refl, by (lists_keys d.cases) (has_owners d.cases) own)
  where
    by : (a b : Bool) → has_wrong_ownership (s.plain n) (Some (variant_sort a b false)) ≡ false → (a || b) ≡ false
    by true b own = own
    by false true own = own
    by false false own = refl

tracked_owner : (d : TypeDecl) (ss : Option s.States) (n : Named) (at : Span) → has_wrong_prefix (s.owning ss n at) (Some (core_sort d)) ≡ false
    → has_wrong_ownership (s.owning ss n at) (Some (core_sort d)) ≡ false → c.is_variant (Some d) ≡ true → IsOwner d
tracked_owner (an_abstract name set) ss n at pre own is = absurd (true≢false (sym is))
tracked_owner (a_struct d) ss n at pre own is = absurd (true≢false (sym is))
tracked_owner (a_variant d) None n at pre own is = by (lists_keys d.cases) (has_owners d.cases) own
  where
    by : (a b : Bool) → has_wrong_ownership (s.owning None n at) (Some (variant_sort a b false)) ≡ false → (a || b) ≡ true
    by true b own = refl
    by false true own = refl
    by false false own = absurd (true≢false own)
tracked_owner (a_variant d) (Some ss) n at pre own is = absurd (true≢false (sym (variant_sort_is (lists_keys d.cases) (has_owners d.cases)) ∙ pre))

-- ---- names with keys

-- the name before the keys stands for a type with as many of them, and is written as it should be
pub record IsWritten (file : File) (p : Program) (t : s.Ty) (n : Named) : Type 0 where
  pub stood : Stands file p n.name
  pub count : (length (header_in (Some stood.decl)) == length n.keys) ≡ true
  pub prefixed : has_wrong_prefix t (Some (core_sort stood.decl)) ≡ false
  pub owned : has_wrong_ownership t (Some (core_sort stood.decl)) ≡ false
  pub bare : is_bare_object t (Some (core_sort stood.decl)) ≡ false

module _ (file : File) (p : Program) (describes : Describes file p) where
  pub written : (t : s.Ty) (n : Named) → named_refused (shape_named file n.name) t n ≡ [] → IsWritten file p t n
  unfolding named_refused form_refused name_refused
  written t n none = by (shape_named file n.name) refl none
    where
      some : (shape : Shape) → shape_named file n.name ≡ Some shape → named_refused (Some shape) t n ≡ [] → IsWritten file p t n
      some shape is none =
          let stood = stands file p describes n.name shape is in
          let same : Some shape ≡ Some (core_shape stood.decl) = sym is ∙ stood.shaped in
          let inner : named_refused (Some (core_shape stood.decl)) t n ≡ [] = sym (ap (λ o. named_refused o t n) same) ∙ none in
          let forms = no_left (form_refused t (Some (core_sort stood.decl)) (ty_place t)) _ inner in
          let name = no_right (form_refused t (Some (core_sort stood.decl)) (ty_place t)) _ inner in
          let rest = no_right (refuse_if (has_wrong_prefix t (Some (core_sort stood.decl))) rule.WRONG_PREFIX (ty_place t)) _ forms in
          record {
            stood = stood;
            count = sym (ap (λ k. k == length n.keys) (length-map (header_in (Some stood.decl)) header_wanted)) ∙ not-false _ (not_broken _ rule.KEY_COUNT n.name.at.from name);
            prefixed = not_broken _ rule.WRONG_PREFIX (ty_place t) (no_left _ _ forms);
            owned = not_broken _ rule.WRONG_OWNERSHIP (ty_place t) (no_left _ _ rest);
            bare = not_broken _ rule.BARE_OBJECT (ty_place t) (no_right (refuse_if (has_wrong_ownership t (Some (core_sort stood.decl))) rule.WRONG_OWNERSHIP (ty_place t)) _ rest);
          }

      by : (o : Option Shape) → shape_named file n.name ≡ o → named_refused o t n ≡ [] → IsWritten file p t n
      by None is none = absurd (cons_not_nil (refusal rule.NOT_A_TYPE n.name.at.from) [] (no_right (form_refused t None (ty_place t)) _ none))
      by (Some shape) is none = some shape is none

  pub number_is : (n : Name) (x : Stands file p n) → type_number file n ≡ x.type
  number_is n x = ap (λ o. unwrap_or o 0) x.named

  pub declared_of : (t : s.Ty) (n : Named) (number : List ℕ → ℕ) (x : IsWritten file p t n) → IsDeclaredOf p (type_number file n.name) (key_numbers number n.keys)
  declared_of t n number x = rw (number_is n.name x.stood) (
    x.stood.decl,
    x.stood.there,
    rw (x.stood.there, length-map n.keys (λ k. number k.text)) (eq-eqb (length n.keys) (length (header_in (Some x.stood.decl))) (sym (eqb-true (length (header_in (Some x.stood.decl))) (length n.keys) x.count))),
  )

  -- ---- each form

  tracked_well : (k : Name) (n : Named) (at : Span) (number : List ℕ → ℕ) → ty_refused file (s.tracked k n at) ≡ [] → IsWell p (core_ty file number (s.tracked k n at))
  tracked_well k n at number none =
      let x = written (s.tracked k n at) n none in
      record {
        declared = declared_of (s.tracked k n at) n number x;
        shape = rw (number_is n.name x.stood, x.stood.there) (holds _ rule.WRONG_PREFIX (ap not (sym (variant_is x.stood.decl) ∙ x.prefixed)));
      }

  guarded_well : (k : Name) (n : Named) (number : List ℕ → ℕ) → ty_refused file (s.guarded k n) ≡ [] → IsWell p (core_ty file number (s.guarded k n))
  guarded_well k n number none =
      let x = written (s.guarded k n) n none in
      record {
        declared = declared_of (s.guarded k n) n number x;
        shape = rw (number_is n.name x.stood, x.stood.there) (holds _ rule.WRONG_PREFIX (not-false _ (sym (struct_is x.stood.decl k n) ∙ x.prefixed)));
      }

  plain_well : (n : Named) (number : List ℕ → ℕ) → ty_refused file (s.plain n) ≡ [] → IsWell p (core_ty file number (s.plain n))
  plain_well n number none =
      let x = written (s.plain n) n none in
      let copied = plain_copied x.stood.decl n x.owned x.bare in
      record {
        declared = declared_of (s.plain n) n number x;
        shape = rw (number_is n.name x.stood, x.stood.there) (rw (copied.0, copied.1) refl);
      }

  owned_by : (ss : Option s.States) (n : Named) (at : Span) (number : List ℕ → ℕ) (x : IsWritten file p (s.owning ss n at) n)
      → is_variant_in (sort_in (shape_named file n.name)) ≡ c.is_variant (Some x.stood.decl)
      → (b : Bool) → c.is_variant (Some x.stood.decl) ≡ b → IsWell p (owned_ty file number ss n)
  unfolding owned_ty
  owned_by ss n at number x sorted true is = rw (sorted, is) (record {
    declared = declared_of (s.owning ss n at) n number x;
    shape = rw (number_is n.name x.stood, x.stood.there) (rw (is, tracked_owner x.stood.decl ss n at x.prefixed x.owned is) refl);
  })
  owned_by ss n at number x sorted false is = rw (sorted, is) (record {
    declared = declared_of (s.owning ss n at) n number x;
    shape = rw (number_is n.name x.stood, x.stood.shaped, x.stood.there) (rw is (rw x.stood.there at (states_unbroken file p describes x.stood.type x.stood.decl x.stood.there ss)));
  })

  owned_well : (ss : Option s.States) (n : Named) (at : Span) (number : List ℕ → ℕ) → ty_refused file (s.owning ss n at) ≡ [] → IsWell p (core_ty file number (s.owning ss n at))
  unfolding owned_refused
  owned_well ss n at number none =
      let x = written (s.owning ss n at) n (no_left _ _ none) in
      owned_by ss n at number x (ap (λ o. is_variant_in (sort_in o)) x.stood.shaped ∙ variant_is x.stood.decl) (c.is_variant (Some x.stood.decl)) refl

  pub ty_well : (t : s.Ty) (number : List ℕ → ℕ) → ty_refused file t ≡ [] → IsWell p (core_ty file number t)
  ty_well (s.int at) number none = record { declared = tt; shape = refl }
  ty_well (s.bool at) number none = record { declared = tt; shape = refl }
  ty_well (s.tracked k n at) number none = tracked_well k n at number none
  ty_well (s.owning ss n at) number none = owned_well ss n at number none
  ty_well (s.guarded k n) number none = guarded_well k n number none
  ty_well (s.plain n) number none = plain_well n number none
