-- The shapes of a file are those of its core types.
use Rattle.std.proofs.Common.{◌≡◌, ℕ, Bool, true, false, not, ◌||◌, if◌then◌else◌, List, [], ◌∷◌, ◌++◌, map, Option, Some, None, refl, sym, ap, ap₂, ◌∙◌}
use Rattle.std.specs.List.{list_any}
use Rattle.std.proofs.lemmas.Bool.{or_from}
use Rattle.std.proofs.lemmas.List.{map-append}
use Rattle.vlt_base.specs.declared.places.Span.{Span}
use Rattle.vlt_syntax.specs.Tree as s
use Rattle.vlt_syntax.specs.Tree.{Named, HeaderKey, Case, Decl}
use Rattle.vlt_syntax.specs.Lists.{Each}
use Rattle.vlt_core.specs.Core as core
use Rattle.vlt_core.specs.Lookups.{is_owning}
use Rattle.vlt_core.specs.Types as c
use Rattle.vlt_core.specs.declared.rules.TheConstants as rule
use Rattle.vlt_kinds_types.specs.Names.Refusals.{refusal, of_each}
use Rattle.vlt_kinds_types.specs.declared.shapes.Sort.TheVariants as sort
use Rattle.vlt_kinds_types.specs.Files.{File, then_with, type_in, shape_at, shape_named, state_names, is_filled, lists_keys, is_known_type, owns_payload, leaves_payload_open, variant_sort, sort_of_cases, set_in, shapes_in}
use Rattle.vlt_kinds_types.specs.Types.{name_refused, form_refused, sort_in, ty_place, named_refused, owned_refused, ty_refused, type_number, key_numbers, is_variant_in, owned_ty, core_ty, states_listed}
use Rattle.vlt_kinds_decls.specs.declared.parts.Part.TheVariants as part
use Rattle.vlt_kinds_decls.specs.Decls.{header_refused, typed_refused, case_keys_refused, case_refused, struct_refused, variant_refused, type_refused}
use Rattle.vlt_kinds_decls.specs.Made.{header_number, core_case_key, core_case, core_variant, core_struct, core_types_in, core_types}
use Rattle.vlt_resolve_laws.specs.KindsLaws.Shapes as shapes
use Rattle.vlt_resolve_laws.specs.KindsLaws.Shapes.{has_owners, core_sort, core_shape}
use Rattle.vlt_resolve_laws.proofs.OfKindsLaws.Empty.{cons_not_nil, no_left, no_right}
use Rattle.vlt_resolve_laws.proofs.OfKindsLaws.Fields.{header_clear}

module _ (file : File) where
  known_name : (t : s.Ty) (n : Named) → named_refused (shape_named file n.name) t n ≡ [] → is_known_type (type_in file.globals n.name) ≡ true
  unfolding named_refused name_refused shape_named
  known_name t n none = by (type_in file.globals n.name) refl
    where
      by : (o : Option ℕ) → type_in file.globals n.name ≡ o → is_known_type o ≡ true
      by None is = absurd (cons_not_nil (refusal rule.NOT_A_TYPE n.name.at.from) [] (no_right (form_refused t None (ty_place t)) _ (sym (ap (λ o. named_refused (then_with o (shape_at file)) t n) is) ∙ none)))
      by (Some u) is = refl

  known_owner : (ss : Option s.States) (n : Named) (at : Span) → ty_refused file (s.owning ss n at) ≡ [] → is_known_type (type_in file.globals n.name) ≡ true
  unfolding owned_refused
  known_owner ss n at none = known_name (s.owning ss n at) n (no_left _ _ none)

  owner : (number : List ℕ → ℕ) (ss : Option s.States) (n : Named) → is_owning (owned_ty file number ss n) ≡ true
  unfolding owned_ty
  owner number ss n = by (states_listed (state_names file (shape_named file n.name)) ss) (is_variant_in (sort_in (shape_named file n.name)))
    where
      by : (states : core.States) (b : Bool) → is_owning (if b then core.owning_variant (type_number file n.name) (key_numbers number n.keys) else core.owning states (type_number file n.name) (key_numbers number n.keys)) ≡ true
      by states true = refl
      by states false = refl

  owns : (number : List ℕ → ℕ) (t : s.Ty) → ty_refused file t ≡ [] → owns_payload file.globals t ≡ is_owning (core_ty file number t)
  owns number (s.int at) none = refl
  owns number (s.bool at) none = refl
  owns number (s.tracked k n at) none = refl
  owns number (s.owning ss n at) none = known_owner ss n at none ∙ sym (owner number ss n)
  owns number (s.guarded k n) none = refl
  owns number (s.plain n) none = refl

  closed : (t : s.Ty) → ty_refused file t ≡ [] → leaves_payload_open file.globals t ≡ false
  closed (s.int at) none = refl
  closed (s.bool at) none = refl
  closed (s.tracked k n at) none = refl
  closed (s.owning ss n at) none = ap not (known_owner ss n at none)
  closed (s.guarded k n) none = refl
  closed (s.plain n) none = refl

  -- ---- variants

  abbrev AreClear : List s.Ty → Type 0
  AreClear ts = Each (λ t. ty_refused file t ≡ []) ts

  owners : (number : List ℕ → ℕ) (ts : List s.Ty) → AreClear ts → list_any (owns_payload file.globals) ts ≡ list_any is_owning (map (core_ty file number) ts)
  owners number [] each = refl
  owners number (t ∷ ts) each = ap₂ (λ a b. a || b) (owns number t each.0) (owners number ts each.1)

  all_closed : (ts : List s.Ty) → AreClear ts → list_any (leaves_payload_open file.globals) ts ≡ false
  all_closed [] each = refl
  all_closed (t ∷ ts) each = or_from _ _ (closed t each.0) (all_closed ts each.1)

  payload_clear : (ps : List HeaderKey) (ts : List s.Ty) → of_each (typed_refused file ps part.Payload) ts ≡ [] → AreClear ts
  unfolding typed_refused
  payload_clear ps [] none = tt
  payload_clear ps (t ∷ ts) none = (no_left (ty_refused file t) _ (no_left _ _ none), payload_clear ps ts (no_right (typed_refused file ps part.Payload t) _ none))

  same_filled : (ps : List HeaderKey) (ks : List s.KeyStates) → is_filled ks ≡ c.is_filled (map (core_case_key file ps) ks)
  same_filled ps [] = refl
  same_filled ps (k ∷ ks) = refl

  record FitVariant (ps : List HeaderKey) (cs : List Case) : Type 0 where
    pub keyed : list_any lists_keys cs ≡ shapes.lists_keys (map (core_case file ps) cs)
    pub owning : list_any (λ c. list_any (owns_payload file.globals) c.payload) cs ≡ has_owners (map (core_case file ps) cs)
    pub closed : list_any (λ c. list_any (leaves_payload_open file.globals) c.payload) cs ≡ false

  fit_variant : (ps : List HeaderKey) (cs : List Case) → of_each (case_refused file ps) cs ≡ [] → FitVariant ps cs
  unfolding case_refused core_case
  fit_variant ps [] none = record { keyed = refl; owning = refl; closed = refl }
  fit_variant ps (c ∷ cs) none =
      let more = fit_variant ps cs (no_right (case_refused file ps c) _ none) in
      let clear = payload_clear ps c.payload (no_left _ (case_keys_refused file ps c.keys) (no_left (case_refused file ps c) _ none)) in
      record {
        keyed = ap₂ (λ a b. a || b) (same_filled ps c.keys) more.keyed;
        owning = ap₂ (λ a b. a || b) (owners (header_number ps) c.payload clear) more.owning;
        closed = or_from _ _ (all_closed c.payload clear) more.closed;
      }

  -- ---- all declarations

  shape_fits : (d : Decl) → type_refused file d ≡ [] → shapes_in file.globals d ≡ map core_shape (core_types_in file d)
  unfolding struct_refused variant_refused sort_of_cases core_struct core_variant
  shape_fits (s.stateset n ss at) none = refl
  shape_fits (s.abstract n ss at) none = refl
  shape_fits (s.struct n ps ss fs r at) none =
      ap (λ h. record { sort = sort.Struct; header = h; set = set_in file.globals ss } ∷ []) (header_clear file ps (no_left _ _ none))
  shape_fits (s.variant n ps cs at) none =
      let fit = fit_variant ps cs (no_right (of_each (header_refused file) ps) _ none) in
      let sorted : sort_of_cases file.globals cs ≡ core_sort (core.a_variant (core_variant file n ps cs)) =
      ap₂ (λ a b. variant_sort a b (list_any (λ c. list_any (leaves_payload_open file.globals) c.payload) cs)) fit.keyed fit.owning
      ∙ ap (variant_sort (shapes.lists_keys (map (core_case file ps) cs)) (has_owners (map (core_case file ps) cs))) fit.closed in
      ap₂ (λ k h. record { sort = k; header = h; set = None } ∷ []) sorted (header_clear file ps (no_left _ _ none))
  shape_fits (s.extern h at) none = refl
  shape_fits (s.function h b at) none = refl

  pub shapes_fit : (ds : List Decl) → of_each (type_refused file) ds ≡ [] → of_each (shapes_in file.globals) ds ≡ map core_shape (core_types file ds)
  shapes_fit [] none = refl
  shapes_fit (d ∷ ds) none =
      ap₂ (λ a b. a ++ b) (shape_fits d (no_left (type_refused file d) _ none)) (shapes_fit ds (no_right (type_refused file d) _ none))
      ∙ sym (map-append core_shape (core_types_in file d) (core_types file ds))
