-- Types by their names: what isn't refused in one, and what it becomes.
use Rattle.std.proofs.Common.{◌≡◌, inl, inr, ⊎_elim, ℕ, ◌==◌, Bool, true, false, not, if◌then◌else◌, List, [], ◌∷◌, length, map, Option, Some, None, slice_get, option_map, unwrap_or, refl, sym, ap, ap₂, ◌∙◌}
use Rattle.std.proofs.lemmas.Option.{none-some}
use Rattle.std.proofs.lemmas.List.{length-map}
use Rattle.vlt_syntax.specs.Tree as s
use Rattle.vlt_syntax.specs.Tree.{Name, Named}
use Rattle.vlt_core.specs.Core as core
use Rattle.vlt_core.specs.declared.rules.TheConstants as rule
use Rattle.vlt_link_laws.specs.CoreMoves.Moves.{Moves, moved_ty}
use Rattle.vlt_kinds_types.specs.Names.Globals.{global_in}
use Rattle.vlt_kinds_types.specs.declared.names.globals.Entity.{Entity}
use Rattle.vlt_kinds_types.specs.declared.names.globals.Entity.TheVariants.{ASet, AType, AFunction}
use Rattle.vlt_kinds_types.specs.Names.Refusals.{refuse_if}
use Rattle.vlt_kinds_types.specs.declared.shapes.Sort.{Sort}
use Rattle.vlt_kinds_types.specs.declared.shapes.Sort.TheVariants as sort
use Rattle.vlt_kinds_types.specs.declared.shapes.Wanted.{Wanted}
use Rattle.vlt_kinds_types.specs.declared.shapes.Wanted.TheVariants as wanted
use Rattle.vlt_kinds_types.specs.declared.shapes.Shape.{Shape}
use Rattle.vlt_kinds_types.specs.Files.{then_with, as_type, type_named, shape_at, shape_named, state_names, wanted_type}
use Rattle.vlt_kinds_types.specs.Types.{is_variant, sort_in, name_refused, form_refused, states_refused, has_states, owned_states_refused, ty_place, named_refused, owned_refused, ty_refused, KeyUse, key_use, tracked_use, argument_uses, header_uses, named_uses, ty_uses, states_listed, type_number, key_numbers, is_variant_in, owned_ty, core_ty}
use Rattle.vlt_kinds_types.specs.Kinds.{Kinds}
use Rattle.vlt_link_laws.specs.Moves.Sees.{Sees, IsShapeIn, IsSort, moved_wanted}
use Rattle.vlt_link_laws.proofs.OfMoves.Empty.{cons_not_nil, no_left, no_right, none_of_both}

module _ (m : Moves) where
  abbrev pub moved_use : KeyUse → KeyUse
  moved_use u = record { key = u.key; at = u.at; wanted = moved_wanted m u.wanted; tracked = u.tracked }

  plain_uses : (ks : List Name) → map (key_use wanted.Unknown) ks ≡ map moved_use (map (key_use wanted.Unknown) ks)
  plain_uses [] = refl
  plain_uses (k ∷ ks) = ap (λ us. key_use wanted.Unknown k ∷ us) (plain_uses ks)

  argument_uses_move : (ws : List Wanted) (ks : List Name) → argument_uses (map (moved_wanted m) ws) ks ≡ map moved_use (argument_uses ws ks)
  argument_uses_move [] ks = refl
  argument_uses_move (w ∷ ws) [] = refl
  argument_uses_move (w ∷ ws) (k ∷ ks) = ap (λ us. key_use (moved_wanted m w) k ∷ us) (argument_uses_move ws ks)

  form_grows : (t : s.Ty) (at : ℕ) → form_refused t (Some sort.Abstract) at ≡ [] → form_refused t (Some sort.Struct) at ≡ []
  unfolding form_refused
  form_grows (s.int x) at none = refl
  form_grows (s.bool x) at none = refl
  form_grows (s.tracked k n x) at none = refl
  form_grows (s.owning None n x) at none = refl
  form_grows (s.owning (Some ss) n x) at none = refl
  form_grows (s.guarded k n) at none = refl
  form_grows (s.plain n) at none = none

  module _ (a b : Kinds) (sees : Sees m a b) where
    pub type_moves : (n : Name) (t : ℕ) → type_named a.file n ≡ Some t → type_named b.file n ≡ Some (m.types t)
    type_moves n t e = by (global_in a.file.globals n.text) refl e
      where
        by : (o : Option Entity) → global_in a.file.globals n.text ≡ o → as_type o ≡ Some t → type_named b.file n ≡ Some (m.types t)
        by None at e = absurd (none-some t e)
        by (Some (ASet i)) at e = absurd (none-some t e)
        by (Some (AType u)) at e = ap as_type (sees.names n.text (AType u) at) ∙ ap (option_map m.types) e
        by (Some (AFunction f)) at e = absurd (none-some t e)

    -- a name that stands for a type in both
    pub record Known (n : Name) : Type 0 where
      pub type : ℕ
      pub named : type_named a.file n ≡ Some type
      pub named_there : type_named b.file n ≡ Some (m.types type)
      pub shape : Shape
      pub shaped : shape_named a.file n ≡ Some shape
      pub is : IsShapeIn m a b type shape
      pub shaped_there : shape_named b.file n ≡ Some is.shape

    pub known_shape : (n : Name) (x : Shape) → shape_named a.file n ≡ Some x → Known n
    unfolding shape_named shape_at
    known_shape n x e = by (type_named a.file n) refl e
      where
        by : (o : Option ℕ) → type_named a.file n ≡ o → then_with o (slice_get a.file.shapes) ≡ Some x → Known n
        by None at e = absurd (none-some x e)
        by (Some t) at e =
            let is = sees.shapes t x e in
            record {
              type = t;
              named = at;
              named_there = type_moves n t at;
              shape = x;
              shaped = ap (λ o. then_with o (slice_get a.file.shapes)) at ∙ e;
              is = is;
              shaped_there = ap (λ o. then_with o (slice_get b.file.shapes)) (type_moves n t at) ∙ is.there;
            }

    pub name_known : (n : Named) → name_refused (shape_named a.file n.name) n ≡ [] → Known n.name
    unfolding name_refused
    name_known n none = by (shape_named a.file n.name) refl none
      where
        by : (o : Option Shape) → shape_named a.file n.name ≡ o → name_refused o n ≡ [] → Known n.name
        by None e none = absurd (cons_not_nil _ [] none)
        by (Some x) e none = known_shape n.name x e

    -- ---- what is refused

    pub name_fine : (n : Named) (k : Known n.name) → name_refused (shape_named a.file n.name) n ≡ [] → name_refused (shape_named b.file n.name) n ≡ []
    unfolding name_refused
    name_fine n k none =
        ap (λ o. name_refused o n) k.shaped_there ∙
        (ap (λ (h : List Wanted). refuse_if (not (length h == length n.keys)) rule.KEY_COUNT n.name.at.from) k.is.header ∙
        (ap (λ l. refuse_if (not (l == length n.keys)) rule.KEY_COUNT n.name.at.from) (length-map k.shape.header (moved_wanted m)) ∙
        (sym (ap (λ o. name_refused o n) k.shaped) ∙ none)))

    form_fine : (t : s.Ty) (n : Name) (k : Known n) (at : ℕ) → form_refused t (sort_in (shape_named a.file n)) at ≡ [] → form_refused t (sort_in (shape_named b.file n)) at ≡ []
    form_fine t n k at none =
        ap (λ o. form_refused t (sort_in o) at) k.shaped_there ∙
        ⊎_elim
        (λ same. ap (λ x. form_refused t (Some x) at) same ∙ before)
        (λ grown. ap (λ x. form_refused t (Some x) at) grown.1 ∙ form_grows t at (sym (ap (λ x. form_refused t (Some x) at) grown.0) ∙ before))
        k.is.sort
      where
        before : form_refused t (Some k.shape.sort) at ≡ []
        before = sym (ap (λ o. form_refused t (sort_in o) at) k.shaped) ∙ none

    -- the parts of what is refused in a type with a name
    pub named_known : (t : s.Ty) (n : Named) → named_refused (shape_named a.file n.name) t n ≡ [] → Known n.name
    unfolding named_refused
    named_known t n none = name_known n (no_right (form_refused t (sort_in (shape_named a.file n.name)) (ty_place t)) _ none)

    named_fine : (t : s.Ty) (n : Named) → named_refused (shape_named a.file n.name) t n ≡ [] → named_refused (shape_named b.file n.name) t n ≡ []
    unfolding named_refused
    named_fine t n none =
        let k = named_known t n none in
        none_of_both _ _ (form_fine t n.name k (ty_place t) (no_left (form_refused t (sort_in (shape_named a.file n.name)) (ty_place t)) _ none))
        (name_fine n k (no_right (form_refused t (sort_in (shape_named a.file n.name)) (ty_place t)) _ none))

    same_states_known : (k : Sort) (u : Sort) → IsSort m k u → has_states (Some u) ≡ has_states (Some k)
    same_states_known k u (inl e) = ap (λ x. has_states (Some x)) e
    same_states_known k u (inr e) = ap (λ x. has_states (Some x)) e.1 ∙ sym (ap (λ x. has_states (Some x)) e.0)

    pub same_variant : (k : Sort) (u : Sort) → IsSort m k u → is_variant u ≡ is_variant k
    same_variant k u (inl e) = ap is_variant e
    same_variant k u (inr e) = ap is_variant e.1 ∙ sym (ap is_variant e.0)

    -- the states that are listed for a type
    pub same_owned_states : (t : ℕ) (x : Shape) (is : IsShapeIn m a b t x) (ss : Option s.States) →
        owned_states_refused b.file (Some is.shape) ss ≡ owned_states_refused a.file (Some x) ss
    unfolding owned_states_refused
    same_owned_states t x is ss =
        ap₂ (λ (h : Bool) known. if h then states_refused known ss else []) (same_states_known x.sort is.shape.sort is.sort) is.states

    owned_fine : (t : s.Ty) (ss : Option s.States) (n : Named) → owned_refused a.file (shape_named a.file n.name) t ss n ≡ [] → owned_refused b.file (shape_named b.file n.name) t ss n ≡ []
    unfolding owned_refused
    owned_fine t ss n none =
        let front = no_left (named_refused (shape_named a.file n.name) t n) _ none in
        let k = named_known t n front in
        none_of_both _ _ (named_fine t n front)
        (ap (λ o. owned_states_refused b.file o ss) k.shaped_there ∙
        (same_owned_states k.type k.shape k.is ss ∙
        (sym (ap (λ o. owned_states_refused a.file o ss) k.shaped) ∙ no_right (named_refused (shape_named a.file n.name) t n) _ none)))

    pub ty_fine : (t : s.Ty) → ty_refused a.file t ≡ [] → ty_refused b.file t ≡ []
    ty_fine (s.int at) none = refl
    ty_fine (s.bool at) none = refl
    ty_fine (s.tracked k n at) none = named_fine (s.tracked k n at) n none
    ty_fine (s.owning ss n at) none = owned_fine (s.owning ss n at) ss n none
    ty_fine (s.guarded k n) none = named_fine (s.guarded k n) n none
    ty_fine (s.plain n) none = named_fine (s.plain n) n none

    -- ---- its keys

    pub named_uses_move : (n : Named) → Known n.name → named_uses b.file n ≡ map moved_use (named_uses a.file n)
    unfolding named_uses
    named_uses_move n k =
        ap (λ o. header_uses o n.keys) k.shaped_there ∙
        (ap (λ (h : List Wanted). if length h == length n.keys then argument_uses h n.keys else map (key_use wanted.Unknown) n.keys) k.is.header ∙
        (ap (λ l. if l == length n.keys then argument_uses (map (moved_wanted m) k.shape.header) n.keys else map (key_use wanted.Unknown) n.keys) (length-map k.shape.header (moved_wanted m)) ∙
        (by (length k.shape.header == length n.keys) ∙ sym (ap (λ o. map moved_use (header_uses o n.keys)) k.shaped))))
      where
        by : (x : Bool) → (if x then argument_uses (map (moved_wanted m) k.shape.header) n.keys else map (key_use wanted.Unknown) n.keys) ≡
            map moved_use (if x then argument_uses k.shape.header n.keys else map (key_use wanted.Unknown) n.keys)
        by true = argument_uses_move k.shape.header n.keys
        by false = plain_uses n.keys

    tracked_use_moves : (n k : Name) → Known n → tracked_use (wanted_type (type_named b.file n)) k ≡ moved_use (tracked_use (wanted_type (type_named a.file n)) k)
    tracked_use_moves n k known = ap (λ o. tracked_use (wanted_type o) k) known.named_there ∙ sym (ap (λ o. moved_use (tracked_use (wanted_type o) k)) known.named)

    pub uses_move : (t : s.Ty) → ty_refused a.file t ≡ [] → ty_uses b.file t ≡ map moved_use (ty_uses a.file t)
    unfolding owned_refused
    uses_move (s.int at) none = refl
    uses_move (s.bool at) none = refl
    uses_move (s.tracked k n at) none =
        let known = named_known (s.tracked k n at) n none in
        ap₂ (λ u us. u ∷ us) (tracked_use_moves n.name k known) (named_uses_move n known)
    uses_move (s.owning ss n at) none = named_uses_move n (named_known (s.owning ss n at) n (no_left (named_refused (shape_named a.file n.name) (s.owning ss n at) n) _ none))
    uses_move (s.guarded k n) none = ap (λ us. key_use wanted.Any k ∷ us) (named_uses_move n (named_known (s.guarded k n) n none))
    uses_move (s.plain n) none = named_uses_move n (named_known (s.plain n) n none)

    -- ---- what it becomes

    number_moves : (n : Name) → Known n → type_number b.file n ≡ m.types (type_number a.file n)
    number_moves n k = ap (λ o. unwrap_or o 0) k.named_there ∙ sym (ap (λ o. m.types (unwrap_or o 0)) k.named)

    owned_moves : (number : List ℕ → ℕ) (ss : Option s.States) (n : Named) → Known n.name → owned_ty b.file number ss n ≡ moved_ty m (owned_ty a.file number ss n)
    unfolding owned_ty
    owned_moves number ss n k =
        ap₂ (λ (v : Bool) (x : ℕ × Option (List (List ℕ))). if v then core.owning_variant x.0 (key_numbers number n.keys) else core.owning (states_listed x.1 ss) x.0 (key_numbers number n.keys))
        (ap (λ o. is_variant_in (sort_in o)) k.shaped_there ∙ (same_variant k.shape.sort k.is.shape.sort k.is.sort ∙ sym (ap (λ o. is_variant_in (sort_in o)) k.shaped)))
        (ap₂ (λ (x : ℕ) (y : Option (List (List ℕ))). (x, y)) (number_moves n.name k)
        (ap (state_names b.file) k.shaped_there ∙ (k.is.states ∙ sym (ap (state_names a.file) k.shaped)))) ∙
        by (is_variant_in (sort_in (shape_named a.file n.name)))
      where
        by : (v : Bool) → (if v then core.owning_variant (m.types (type_number a.file n.name)) (key_numbers number n.keys) else core.owning (states_listed (state_names a.file (shape_named a.file n.name)) ss) (m.types (type_number a.file n.name)) (key_numbers number n.keys)) ≡
            moved_ty m (if v then core.owning_variant (type_number a.file n.name) (key_numbers number n.keys) else core.owning (states_listed (state_names a.file (shape_named a.file n.name)) ss) (type_number a.file n.name) (key_numbers number n.keys))
        by true = refl
        by false = refl

    pub core_moves : (number : List ℕ → ℕ) (t : s.Ty) → ty_refused a.file t ≡ [] → core_ty b.file number t ≡ moved_ty m (core_ty a.file number t)
    unfolding owned_refused
    core_moves number (s.int at) none = refl
    core_moves number (s.bool at) none = refl
    core_moves number (s.tracked k n at) none = ap (λ t. core.tracked (number k.text) t (key_numbers number n.keys)) (number_moves n.name (named_known (s.tracked k n at) n none))
    core_moves number (s.owning ss n at) none =
        owned_moves number ss n (named_known (s.owning ss n at) n (no_left (named_refused (shape_named a.file n.name) (s.owning ss n at) n) _ none))
    core_moves number (s.guarded k n) none = ap (λ t. core.guarded (number k.text) t (key_numbers number n.keys)) (number_moves n.name (named_known (s.guarded k n) n none))
    core_moves number (s.plain n) none = ap (λ t. core.variant t (key_numbers number n.keys)) (number_moves n.name (named_known (s.plain n) n none))
