-- Declared types.
use Rattle.std.proofs.Common.{◌≡◌, ⊎_elim, ℕ, Bool, true, false, not, ◌&&◌, ◌||◌, if◌then◌else◌, List, [], ◌∷◌, ◌++◌, map, drop, Option, Some, None, option_map, refl, sym, ap, ap₂, ◌∙◌}
use Rattle.std.specs.Str.{bytes_eq}
use Rattle.vlt_syntax.specs.Tree as s
use Rattle.vlt_syntax.specs.Tree.{Name, States, KeyStates, Ty, HeaderKey, Field, Case}
use Rattle.vlt_core.specs.Core as core
use Rattle.vlt_core.specs.declared.rules.TheConstants as rule
use Rattle.vlt_link_laws.specs.CoreMoves.Moves.{Moves, moved_ty, moved_field, moved_struct, moved_case, moved_variant}
use Rattle.vlt_kinds_types.specs.Names.Along.{along}
use Rattle.vlt_kinds_types.specs.Names.Refusals.{refusal, refuse_if, of_each}
use Rattle.vlt_kinds_types.specs.declared.shapes.Sort.TheVariants as sort
use Rattle.vlt_kinds_types.specs.declared.shapes.Wanted.{Wanted}
use Rattle.vlt_kinds_types.specs.declared.shapes.Wanted.TheVariants as wanted
use Rattle.vlt_kinds_types.specs.declared.shapes.Shape.{Shape}
use Rattle.vlt_kinds_types.specs.Files.{wanted_type, wanted_in, header_in, set_in, shape_named, state_names}
use Rattle.vlt_kinds_types.specs.Types.{KeyUse, sort_in, shape_in, is_unknown_or_listed, states_refused, named_refused, owned_refused, ty_refused, ty_uses, states_listed, core_ty}
use Rattle.vlt_kinds_types.specs.Kinds.{Kinds}
use Rattle.vlt_kinds_decls.specs.declared.parts.Part.{Part}
use Rattle.vlt_kinds_decls.specs.declared.parts.Part.TheVariants as part
use Rattle.vlt_kinds_decls.specs.Decls.{object_refused, key_type_refused, header_refused, wanted_of, disagrees, key_refused, use_refused, part_refused, typed_refused, field_refused, struct_refused, header_position, is_any, object_states_refused, case_key_refused, with_key, next_key_refused, case_refused, variant_refused}
use Rattle.vlt_kinds_decls.specs.Made.{type_wanted, core_header, header_number, core_field, core_struct, object_states, core_case_key, core_case, core_variant}
use Rattle.vlt_link_laws.specs.Moves.Sees.{Sees, moved_wanted}
use Rattle.vlt_link_laws.proofs.OfMoves.Empty.{cons_not_nil, no_left, no_right, none_of_both}
use Rattle.vlt_link_laws.proofs.OfMoves.Named.{moved_use, Known, known_shape, named_known, same_variant, ty_fine, uses_move, core_moves}
use Rattle.vlt_link_laws.proofs.OfMoves.Heads.{shape_states}
use Rattle.vlt_link_laws.proofs.OfMoves.HeadRules.{shape_owned}

module _ (m : Moves) where
  same_any : (o : Option Wanted) → is_any (option_map (moved_wanted m) o) ≡ is_any o
  same_any None = refl
  same_any (Some wanted.Any) = refl
  same_any (Some wanted.Unknown) = refl
  same_any (Some (wanted.OfType t)) = refl

  part_grows : (p : Part) (t : Ty) → part_refused p t (Some sort.Struct) ≡ part_refused p t (Some sort.Abstract)
  part_grows part.Field (s.int at) = refl
  part_grows part.Field (s.bool at) = refl
  part_grows part.Field (s.tracked k n at) = refl
  part_grows part.Field (s.owning ss n at) = refl
  part_grows part.Field (s.guarded k n) = refl
  part_grows part.Field (s.plain n) = refl
  part_grows part.Payload (s.int at) = refl
  part_grows part.Payload (s.bool at) = refl
  part_grows part.Payload (s.tracked k n at) = refl
  part_grows part.Payload (s.owning ss n at) = refl
  part_grows part.Payload (s.guarded k n) = refl
  part_grows part.Payload (s.plain n) = refl

  module _ (a b : Kinds) (sees : Sees m a b) where
    -- ---- headers

    named_object : (n : Name) → object_refused (sort_in (shape_named a.file n)) n ≡ [] → Known m a b sees n
    named_object n none = by (shape_named a.file n) refl none
      where
        by : (o : Option Shape) → shape_named a.file n ≡ o → object_refused (sort_in o) n ≡ [] → Known m a b sees n
        by None e none = absurd (cons_not_nil _ [] none)
        by (Some x) e none = known_shape m a b sees n x e

    header_fine : (p : HeaderKey) → header_refused a.file p ≡ [] → header_refused b.file p ≡ []
    unfolding header_refused
    header_fine p none = by p.key_type none
      where
        by : (o : Option Name) → key_type_refused a.file o ≡ [] → key_type_refused b.file o ≡ []
        by None none = refl
        by (Some n) none =
            let k = named_object n none in
            ap (λ o. object_refused (sort_in o) n) k.shaped_there ∙
            (ap (λ x. refuse_if x rule.HEADER_TYPE n.at.from) (same_variant m a b sees k.shape.sort k.is.shape.sort k.is.sort) ∙ (sym (ap (λ o. object_refused (sort_in o) n) k.shaped) ∙ none))

    headers_fine : (ps : List HeaderKey) → of_each (header_refused a.file) ps ≡ [] → of_each (header_refused b.file) ps ≡ []
    headers_fine [] none = refl
    headers_fine (p ∷ ps) none = none_of_both _ _ (header_fine p (no_left (header_refused a.file p) _ none)) (headers_fine ps (no_right (header_refused a.file p) _ none))

    wanted_moves : (p : HeaderKey) → header_refused a.file p ≡ [] → wanted_in b.file.globals p.key_type ≡ moved_wanted m (wanted_in a.file.globals p.key_type)
    unfolding header_refused
    wanted_moves p none = by p.key_type none
      where
        by : (o : Option Name) → key_type_refused a.file o ≡ [] → wanted_in b.file.globals o ≡ moved_wanted m (wanted_in a.file.globals o)
        by None none = refl
        by (Some n) none = let k = named_object n none in ap wanted_type k.named_there ∙ sym (ap (λ o. moved_wanted m (wanted_type o)) k.named)

    header_moves : (ps : List HeaderKey) → of_each (header_refused a.file) ps ≡ [] → header_in b.file.globals ps ≡ map (moved_wanted m) (header_in a.file.globals ps)
    header_moves [] none = refl
    header_moves (p ∷ ps) none = ap₂ (λ w ws. w ∷ ws) (wanted_moves p (no_left (header_refused a.file p) _ none)) (header_moves ps (no_right (header_refused a.file p) _ none))

    wanted_of_moves : (ps : List HeaderKey) (k : List ℕ) → of_each (header_refused a.file) ps ≡ [] → wanted_of b.file.globals ps k ≡ option_map (moved_wanted m) (wanted_of a.file.globals ps k)
    wanted_of_moves [] k none = refl
    wanted_of_moves (p ∷ ps) k none =
        ap₂ (λ w o. if bytes_eq k p.key.text then Some w else o) (wanted_moves p (no_left (header_refused a.file p) _ none)) (wanted_of_moves ps k (no_right (header_refused a.file p) _ none)) ∙ by (bytes_eq k p.key.text)
      where
        by : (x : Bool) → (if x then Some (moved_wanted m (wanted_in a.file.globals p.key_type)) else option_map (moved_wanted m) (wanted_of a.file.globals ps k)) ≡ option_map (moved_wanted m) (if x then Some (wanted_in a.file.globals p.key_type) else wanted_of a.file.globals ps k)
        by true = refl
        by false = refl

    core_header_moves : (ps : List HeaderKey) → of_each (header_refused a.file) ps ≡ [] → core_header b.file.globals ps ≡ map (option_map m.types) (core_header a.file.globals ps)
    core_header_moves ps none = ap (map type_wanted) (header_moves ps none) ∙ by (header_in a.file.globals ps)
      where
        one : (w : Wanted) → type_wanted (moved_wanted m w) ≡ option_map m.types (type_wanted w)
        one wanted.Any = refl
        one wanted.Unknown = refl
        one (wanted.OfType t) = refl

        by : (ws : List Wanted) → map type_wanted (map (moved_wanted m) ws) ≡ map (option_map m.types) (map type_wanted ws)
        by [] = refl
        by (w ∷ ws) = ap₂ (λ x y. x ∷ y) (one w) (by ws)

    -- ---- types in declarations

    disagrees_same : (x w : Wanted) → disagrees (moved_wanted m x) (moved_wanted m w) ≡ disagrees x w
    disagrees_same wanted.Any wanted.Any = refl
    disagrees_same wanted.Any wanted.Unknown = refl
    disagrees_same wanted.Any (wanted.OfType t) = refl
    disagrees_same wanted.Unknown wanted.Any = refl
    disagrees_same wanted.Unknown wanted.Unknown = refl
    disagrees_same wanted.Unknown (wanted.OfType t) = refl
    disagrees_same (wanted.OfType u) wanted.Any = refl
    disagrees_same (wanted.OfType u) wanted.Unknown = refl
    disagrees_same (wanted.OfType u) (wanted.OfType t) = ap not (sees.apart u t)

    use_same : (ps : List HeaderKey) → of_each (header_refused a.file) ps ≡ [] → (u : KeyUse) → use_refused b.file.globals ps (moved_use m u) ≡ use_refused a.file.globals ps u
    unfolding use_refused
    use_same ps none u = ap (λ o. key_refused o (moved_use m u)) (wanted_of_moves ps u.key none) ∙ by (wanted_of a.file.globals ps u.key)
      where
        by : (o : Option Wanted) → key_refused (option_map (moved_wanted m) o) (moved_use m u) ≡ key_refused o u
        by None = refl
        by (Some x) = ap (λ y. refuse_if (not u.tracked && y) rule.KEY_ARGUMENT u.at) (disagrees_same x u.wanted)

    uses_same : (ps : List HeaderKey) → of_each (header_refused a.file) ps ≡ [] → (us : List KeyUse) → of_each (use_refused b.file.globals ps) (map (moved_use m) us) ≡ of_each (use_refused a.file.globals ps) us
    uses_same ps none [] = refl
    uses_same ps none (u ∷ us) = ap₂ (λ x y. x ++ y) (use_same ps none u) (uses_same ps none us)

    part_same_at : (p : Part) (t : Ty) (n : Name) → Known m a b sees n → part_refused p t (sort_in (shape_named b.file n)) ≡ part_refused p t (sort_in (shape_named a.file n))
    part_same_at p t n k =
        ap (λ o. part_refused p t (sort_in o)) k.shaped_there ∙
        (⊎_elim (λ e. ap (λ x. part_refused p t (Some x)) e) (λ e. ap (λ x. part_refused p t (Some x)) e.1 ∙ (part_grows p t ∙ sym (ap (λ x. part_refused p t (Some x)) e.0))) k.is.sort ∙
        sym (ap (λ o. part_refused p t (sort_in o)) k.shaped))

    part_same : (p : Part) (t : Ty) → ty_refused a.file t ≡ [] → part_refused p t (sort_in (shape_in b.file t)) ≡ part_refused p t (sort_in (shape_in a.file t))
    unfolding shape_in owned_refused
    part_same p (s.int at) none = refl
    part_same p (s.bool at) none = refl
    part_same p (s.tracked k n at) none = part_same_at p (s.tracked k n at) n.name (named_known m a b sees (s.tracked k n at) n none)
    part_same p (s.owning ss n at) none = part_same_at p (s.owning ss n at) n.name (named_known m a b sees (s.owning ss n at) n (no_left (named_refused (shape_named a.file n.name) (s.owning ss n at) n) _ none))
    part_same p (s.guarded k n) none = part_same_at p (s.guarded k n) n.name (named_known m a b sees (s.guarded k n) n none)
    part_same p (s.plain n) none = part_same_at p (s.plain n) n.name (named_known m a b sees (s.plain n) n none)

    typed_fine : (ps : List HeaderKey) → of_each (header_refused a.file) ps ≡ [] → (p : Part) (t : Ty) → typed_refused a.file ps p t ≡ [] → (ty_refused a.file t ≡ []) × (typed_refused b.file ps p t ≡ [])
    unfolding typed_refused
    typed_fine ps header p t none =
        let ty = no_left (ty_refused a.file t) _ none in
        let back = no_right (ty_refused a.file t) _ none in (
          ty,
          none_of_both _ _ (ty_fine m a b sees t ty)
              (none_of_both _ _ (part_same p t ty ∙ no_left (part_refused p t (sort_in (shape_in a.file t))) _ back)
              (ap (of_each (use_refused b.file.globals ps)) (uses_move m a b sees t ty) ∙ (uses_same ps header (ty_uses a.file t) ∙ no_right (part_refused p t (sort_in (shape_in a.file t))) _ back))),
        )

    -- ---- structs

    fields_fine : (ps : List HeaderKey) → of_each (header_refused a.file) ps ≡ [] → (known : Option (List (List ℕ))) (fs : List Field) → of_each (field_refused a.file ps known) fs ≡ [] → of_each (field_refused b.file ps known) fs ≡ []
    unfolding field_refused
    fields_fine ps header known [] none = refl
    fields_fine ps header known (f ∷ fs) none =
        let here = no_left (field_refused a.file ps known f) _ none in
        none_of_both _ _
        (none_of_both _ _ (typed_fine ps header part.Field f.ty (no_left (typed_refused a.file ps part.Field f.ty) _ here)).1 (no_right (typed_refused a.file ps part.Field f.ty) _ here))
        (fields_fine ps header known fs (no_right (field_refused a.file ps known f) _ none))

    fields_move : (ps : List HeaderKey) → of_each (header_refused a.file) ps ≡ [] → (known : Option (List (List ℕ))) (fs : List Field) → of_each (field_refused a.file ps known) fs ≡ [] →
        map (core_field b.file ps known) fs ≡ map (moved_field m) (map (core_field a.file ps known) fs)
    unfolding field_refused core_field
    fields_move ps header known [] none = refl
    fields_move ps header known (f ∷ fs) none =
        let here = no_left (field_refused a.file ps known f) _ none in
        let ty = (typed_fine ps header part.Field f.ty (no_left (typed_refused a.file ps part.Field f.ty) _ here)).0 in
        ap₂ (λ (t : core.Ty) ds. (let r : core.FieldDecl = record { name = f.name.text; ty = t; states = states_listed known f.states } in r) ∷ ds)
        (core_moves m a b sees (header_number ps) f.ty ty) (fields_move ps header known fs (no_right (field_refused a.file ps known f) _ none))

    -- the declared type's own states
    abbrev pub SameOwn : Name → Type 0
    SameOwn n = state_names b.file (shape_named b.file n) ≡ state_names a.file (shape_named a.file n)

    pub same_own : (n : Name) → Known m a b sees n → SameOwn n
    same_own n k = ap (state_names b.file) k.shaped_there ∙ (k.is.states ∙ sym (ap (state_names a.file) k.shaped))

    pub struct_fine : (n : Name) (ps : List HeaderKey) (fs : List Field) (r : Option States) → SameOwn n → struct_refused a.file n ps fs r ≡ [] → struct_refused b.file n ps fs r ≡ []
    unfolding struct_refused
    struct_fine n ps fs r own none =
        let known = state_names a.file (shape_named a.file n) in
        let header = no_left (of_each (header_refused a.file) ps) _ none in
        let back = no_right (of_each (header_refused a.file) ps) _ none in
        none_of_both _ _ (headers_fine ps header)
        (ap (λ k. of_each (field_refused b.file ps k) fs ++ states_refused k r) own ∙
        none_of_both _ _ (fields_fine ps header known fs (no_left (of_each (field_refused a.file ps known) fs) _ back)) (no_right (of_each (field_refused a.file ps known) fs) _ back))

    pub struct_moves : (n : Name) (ps : List HeaderKey) (ss : Option Name) (fs : List Field) (r : Option States) → SameOwn n →
        set_in b.file.globals ss ≡ option_map m.sets (set_in a.file.globals ss) → struct_refused a.file n ps fs r ≡ [] →
        core_struct b.file n ps ss fs r ≡ moved_struct m (core_struct a.file n ps ss fs r)
    unfolding struct_refused core_struct
    struct_moves n ps ss fs r own set none =
        let known = state_names a.file (shape_named a.file n) in
        let header = no_left (of_each (header_refused a.file) ps) _ none in
        let back = no_right (of_each (header_refused a.file) ps) _ none in
        ap (λ k. let x : core.StructDecl = record { name = n.text; header = core_header b.file.globals ps; set = set_in b.file.globals ss; release = states_listed k r; fields = map (core_field b.file ps k) fs } in x) own ∙
        (ap₂ (λ (h : core.Header) (i : Option ℕ). let x : core.StructDecl = record { name = n.text; header = h; set = i; release = states_listed known r; fields = map (core_field b.file ps known) fs } in x) (core_header_moves ps header) set ∙
        ap (λ ds. let x : core.StructDecl = record { name = n.text; header = map (option_map m.types) (core_header a.file.globals ps); set = option_map m.sets (set_in a.file.globals ss); release = states_listed known r; fields = ds } in x)
        (fields_move ps header known fs (no_left (of_each (field_refused a.file ps known) fs) _ back)))

    -- ---- variants

    object_states_same : (o : Option Wanted) (ss : Option States) → object_states_refused b.file (option_map (moved_wanted m) o) ss ≡ object_states_refused a.file o ss
    object_states_same None ss = refl
    object_states_same (Some wanted.Any) ss = refl
    object_states_same (Some wanted.Unknown) ss = refl
    object_states_same (Some (wanted.OfType t)) ss = shape_owned m a b sees t ss

    case_key_same : (ps : List HeaderKey) → of_each (header_refused a.file) ps ≡ [] → (wrong : Bool) (k : KeyStates) → case_key_refused b.file ps wrong k ≡ case_key_refused a.file ps wrong k
    unfolding case_key_refused
    case_key_same ps header wrong k =
        ap (λ o. if wrong || is_any o then refusal rule.CASE_KEY k.key.at.from ∷ [] else object_states_refused b.file o k.states) (wanted_of_moves ps k.key.text header) ∙
        ap₂ (λ x y. if wrong || x then refusal rule.CASE_KEY k.key.at.from ∷ [] else y) (same_any (wanted_of a.file.globals ps k.key.text)) (object_states_same (wanted_of a.file.globals ps k.key.text) k.states)

    case_keys_same : (ps : List HeaderKey) → of_each (header_refused a.file) ps ≡ [] → (seen : List ℕ) (ks : List KeyStates) → along (with_key ps) (next_key_refused b.file ps) seen ks ≡ along (with_key ps) (next_key_refused a.file ps) seen ks
    unfolding next_key_refused
    case_keys_same ps header seen [] = refl
    case_keys_same ps header seen (k ∷ ks) =
        ap₂ (λ x y. x ++ y) (case_key_same ps header (is_unknown_or_listed seen (header_position ps k.key.text)) k) (case_keys_same ps header (with_key ps seen k) ks)

    payloads_fine : (ps : List HeaderKey) → of_each (header_refused a.file) ps ≡ [] → (ts : List Ty) → of_each (typed_refused a.file ps part.Payload) ts ≡ [] → of_each (typed_refused b.file ps part.Payload) ts ≡ []
    payloads_fine ps header [] none = refl
    payloads_fine ps header (t ∷ ts) none =
        none_of_both _ _ (typed_fine ps header part.Payload t (no_left (typed_refused a.file ps part.Payload t) _ none)).1 (payloads_fine ps header ts (no_right (typed_refused a.file ps part.Payload t) _ none))

    payloads_move : (ps : List HeaderKey) → of_each (header_refused a.file) ps ≡ [] → (ts : List Ty) → of_each (typed_refused a.file ps part.Payload) ts ≡ [] → map (core_ty b.file (header_number ps)) ts ≡ map (moved_ty m) (map (core_ty a.file (header_number ps)) ts)
    payloads_move ps header [] none = refl
    payloads_move ps header (t ∷ ts) none =
        ap₂ (λ x y. x ∷ y) (core_moves m a b sees (header_number ps) t (typed_fine ps header part.Payload t (no_left (typed_refused a.file ps part.Payload t) _ none)).0) (payloads_move ps header ts (no_right (typed_refused a.file ps part.Payload t) _ none))

    cases_fine : (ps : List HeaderKey) → of_each (header_refused a.file) ps ≡ [] → (cs : List Case) → of_each (case_refused a.file ps) cs ≡ [] → of_each (case_refused b.file ps) cs ≡ []
    unfolding case_refused
    cases_fine ps header [] none = refl
    cases_fine ps header (c ∷ cs) none =
        let here = no_left (case_refused a.file ps c) _ none in
        none_of_both _ _
        (none_of_both _ _ (payloads_fine ps header c.payload (no_left (of_each (typed_refused a.file ps part.Payload) c.payload) _ here)) (case_keys_same ps header [] c.keys ∙ no_right (of_each (typed_refused a.file ps part.Payload) c.payload) _ here))
        (cases_fine ps header cs (no_right (case_refused a.file ps c) _ none))

    pub variant_fine : (ps : List HeaderKey) (cs : List Case) → variant_refused a.file ps cs ≡ [] → variant_refused b.file ps cs ≡ []
    unfolding variant_refused
    variant_fine ps cs none =
        let header = no_left (of_each (header_refused a.file) ps) _ none in
        none_of_both _ _ (headers_fine ps header) (cases_fine ps header cs (no_right (of_each (header_refused a.file) ps) _ none))

    object_same : (o : Option Wanted) → object_states b.file (option_map (moved_wanted m) o) ≡ object_states a.file o
    object_same None = refl
    object_same (Some wanted.Any) = refl
    object_same (Some wanted.Unknown) = refl
    object_same (Some (wanted.OfType t)) = shape_states m a b sees t

    case_keys_core : (ps : List HeaderKey) → of_each (header_refused a.file) ps ≡ [] → (ks : List KeyStates) → map (core_case_key b.file ps) ks ≡ map (core_case_key a.file ps) ks
    unfolding core_case_key
    case_keys_core ps header [] = refl
    case_keys_core ps header (k ∷ ks) =
        ap₂ (λ (o : Option (List (List ℕ))) xs. (let r : core.CaseKey = record { position = header_number ps k.key.text; states = states_listed o k.states } in r) ∷ xs)
        (ap (object_states b.file) (wanted_of_moves ps k.key.text header) ∙ object_same (wanted_of a.file.globals ps k.key.text)) (case_keys_core ps header ks)

    cases_move : (ps : List HeaderKey) → of_each (header_refused a.file) ps ≡ [] → (cs : List Case) → of_each (case_refused a.file ps) cs ≡ [] → map (core_case b.file ps) cs ≡ map (moved_case m) (map (core_case a.file ps) cs)
    unfolding case_refused core_case
    cases_move ps header [] none = refl
    cases_move ps header (c ∷ cs) none =
        let here = no_left (case_refused a.file ps c) _ none in
        ap₂ (λ (x : List core.Ty × List core.CaseKey) ds. (let r : core.CaseDecl = record { name = drop 1 c.name.text; payload = x.0; keys = x.1 } in r) ∷ ds)
        (ap₂ (λ (x : List core.Ty) (y : List core.CaseKey). (x, y)) (payloads_move ps header c.payload (no_left (of_each (typed_refused a.file ps part.Payload) c.payload) _ here)) (case_keys_core ps header c.keys))
        (cases_move ps header cs (no_right (case_refused a.file ps c) _ none))

    pub variant_moves : (n : Name) (ps : List HeaderKey) (cs : List Case) → variant_refused a.file ps cs ≡ [] → core_variant b.file n ps cs ≡ moved_variant m (core_variant a.file n ps cs)
    unfolding variant_refused core_variant
    variant_moves n ps cs none =
        let header = no_left (of_each (header_refused a.file) ps) _ none in
        ap₂ (λ (h : core.Header) (ds : List core.CaseDecl). let r : core.VariantDecl = record { name = n.text; header = h; cases = ds } in r) (core_header_moves ps header) (cases_move ps header cs (no_right (of_each (header_refused a.file) ps) _ none))
