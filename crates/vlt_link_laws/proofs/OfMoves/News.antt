-- New objects, and objects that are adopted.
use Rattle.std.proofs.Common.{◌≡◌, ℕ, ◌==◌, Bool, true, false, not, ◌&&◌, if◌then◌else◌, List, [], ◌∷◌, ◌++◌, length, map, Option, Some, None, slice_get, option_map, refl, sym, ap, ap₂, ◌∙◌, arith, eqb-true}
use Rattle.std.specs.Str.{bytes_eq}
use Rattle.std.proofs.lemmas.List.{length-map}
use Rattle.vlt_syntax.specs.Tree as s
use Rattle.vlt_syntax.specs.Tree.{Name, Named, Init, Right}
use Rattle.vlt_core.specs.Core as core
use Rattle.vlt_core.specs.Core.{Ty, int, bool, tracked, owning, guarded, variant, owning_variant, TypeDecl, an_abstract, a_struct, a_variant, StructDecl, FieldDecl, Operand, simple, make, adopt}
use Rattle.vlt_core.specs.Types.{is_struct}
use Rattle.vlt_core.specs.declared.rules.TheConstants as rule
use Rattle.vlt_link_laws.specs.CoreMoves.Moves.{Moves, moved_ty, moved_field, moved_form}
use Rattle.vlt_kinds_types.specs.Names.Refusals.{refusal, refuse_if, of_each}
use Rattle.vlt_kinds_types.specs.declared.shapes.Wanted.{Wanted}
use Rattle.vlt_kinds_types.specs.declared.shapes.Wanted.TheVariants as wanted
use Rattle.vlt_kinds_types.specs.Files.{type_named, shape_named}
use Rattle.vlt_kinds_types.specs.Types.{KeyUse, key_use, argument_uses, header_uses, named_uses, name_refused}
use Rattle.vlt_kinds_types.specs.Kinds.{Kinds}
use Rattle.vlt_resolve_exprs.specs.Refused.{unknown_name}
use Rattle.vlt_resolve_exprs.specs.Scopes.{Scope, key_named, key_type, var_named, var_ty, more_key, more_var}
use Rattle.vlt_resolve_exprs.specs.Exprs.{fields_of, number_of, var_number}
use Rattle.vlt_resolve_exprs.specs.Operands.{operand_refused}
use Rattle.vlt_resolve_exprs.specs.Targets.{Target}
use Rattle.vlt_resolve_rights.specs.Droppable.{may_drop_struct}
use Rattle.vlt_resolve_rights.specs.News.{typed_refused, wanted_refused, known_refused, use_refused, uses_refused, named_refused, with_known, known_keys, keys_of_shape, known_args, args_fit, object_fits, target_fits, target_refused, guards, recipient_unfit, recipient_refused, adopter_refused, agree, fields_agree, releases_first, takes_first, adopted_refused, start_refused, inits_refused, field_types, values_refused, struct_refused, object_refused, known_made_refused, made_refused, is_some_name, new_refused, hides, hidden_refused, args_or_none, with_object, init_operands, made_operands, made_forms, new_forms}
use Rattle.vlt_resolve_rights.specs.Adopts as ad
use Rattle.vlt_resolve_rights.specs.Adopts.{recipient_fits, is_guarded, adopt_fits, adopt_refused, core_adopt}
use Rattle.vlt_link_laws.specs.Moves.Sees.{Sees, moved_scope, moved_wanted}
use Rattle.vlt_link_laws.proofs.OfMoves.Empty.{cons_not_nil, no_left, no_right, none_of_both, not_broken, quiet, not_false}
use Rattle.vlt_link_laws.proofs.OfMoves.Scoping.{same_var, same_key, ty_moves, key_type_moves, more_key_moves, more_var_moves}
use Rattle.vlt_link_laws.proofs.OfMoves.Types.{is_same_object_moves, under_moves}
use Rattle.vlt_link_laws.proofs.OfMoves.Exprs.{fields_move, operand_moves}
use Rattle.vlt_link_laws.proofs.OfMoves.Binding.{same_many_vars, same_many_keys}
use Rattle.vlt_link_laws.proofs.OfMoves.Named.{moved_use, Known, name_known, name_fine, named_uses_move}
use Rattle.vlt_link_laws.proofs.OfMoves.Calls.{moved_target}

module _ (m : Moves) where
  -- ---- keys in types

  known_keys_same : (scope : Scope) (ks : List Name) → known_keys (moved_scope m scope) ks ≡ known_keys scope ks
  known_keys_same scope [] = refl
  known_keys_same scope (k ∷ ks) = ap₂ with_known (same_key m scope k.text) (known_keys_same scope ks)

  guards_same : (r : Option Ty) (ty : Ty) → guards (option_map (moved_ty m) r) (moved_ty m ty) ≡ guards r ty
  guards_same (Some (tracked k t x)) (guarded l u y) = refl
  guards_same None ty = refl
  guards_same (Some (tracked k t x)) int = refl
  guards_same (Some (tracked k t x)) bool = refl
  guards_same (Some (tracked k t x)) (tracked l u y) = refl
  guards_same (Some (tracked k t x)) (owning S u y) = refl
  guards_same (Some (tracked k t x)) (variant u y) = refl
  guards_same (Some (tracked k t x)) (owning_variant u y) = refl
  guards_same (Some int) ty = refl
  guards_same (Some bool) ty = refl
  guards_same (Some (owning S t x)) ty = refl
  guards_same (Some (guarded k t x)) ty = refl
  guards_same (Some (variant t x)) ty = refl
  guards_same (Some (owning_variant t x)) ty = refl

  unfit_same : (r : Option Ty) (ty : Ty) (at : ℕ) → recipient_unfit (option_map (moved_ty m) r) (moved_ty m ty) at ≡ recipient_unfit r ty at
  unfit_same None ty at = refl
  unfit_same (Some r) ty at = ap (λ x. refuse_if (not x) rule.WRONG_TYPE at) (guards_same (Some r) ty)

  takes_first_same : (ty : Ty) → takes_first (moved_ty m ty) ≡ takes_first ty
  takes_first_same int = refl
  takes_first_same bool = refl
  takes_first_same (tracked k t x) = refl
  takes_first_same (owning S t x) = refl
  takes_first_same (guarded k t x) = refl
  takes_first_same (variant t x) = refl
  takes_first_same (owning_variant t x) = refl

  agree_same : (ds : List FieldDecl) (is : List Init) → agree (map (moved_field m) ds) is ≡ agree ds is
  agree_same [] is = refl
  agree_same (d ∷ ds) [] = refl
  agree_same (d ∷ ds) (i ∷ is) = ap (λ x. bytes_eq d.name i.field.text && x) (agree_same ds is)

  fields_agree_same : (ds : List FieldDecl) (is : List Init) → fields_agree (map (moved_field m) ds) is ≡ fields_agree ds is
  unfolding fields_agree
  fields_agree_same ds is = ap₂ (λ (n : ℕ) x. if n == length is then x else false) (length-map ds (moved_field m)) (agree_same ds is)

  field_types_move : (ds : List FieldDecl) (args : List ℕ) → field_types (map (moved_field m) ds) args ≡ map (moved_ty m) (field_types ds args)
  field_types_move [] args = refl
  field_types_move (d ∷ ds) args = ap₂ (λ t ts. t ∷ ts) (under_moves m args d.ty) (field_types_move ds args)

  pub hides_same : (right : Right) (ty : Option Ty) → hides right (option_map (moved_ty m) ty) ≡ hides right ty
  hides_same (s.value e) ty = refl
  hides_same (s.build y) ty = refl
  hides_same (s.call c) ty = refl
  hides_same (s.input at) ty = refl
  hides_same (s.more at) ty = refl
  hides_same (s.adopt x r at) ty = refl
  hides_same (s.make (Some r) n is at) ty = refl
  hides_same (s.make None n is at) None = refl
  hides_same (s.make None n is at) (Some int) = refl
  hides_same (s.make None n is at) (Some bool) = refl
  hides_same (s.make None n is at) (Some (tracked k t x)) = refl
  hides_same (s.make None n is at) (Some (owning S t x)) = refl
  hides_same (s.make None n is at) (Some (guarded k t x)) = refl
  hides_same (s.make None n is at) (Some (variant t x)) = refl
  hides_same (s.make None n is at) (Some (owning_variant t x)) = refl

  pub hidden_same : (scope : Scope) (right : Right) (ty : Option Ty) (at : ℕ) →
      hidden_refused (moved_scope m scope) (hides right (option_map (moved_ty m) ty)) at ≡ hidden_refused scope (hides right ty) at
  unfolding hidden_refused
  hidden_same scope right ty at = ap (λ x. hidden_refused (moved_scope m scope) x at) (hides_same right ty) ∙ by (hides right ty)
    where
      by : (x : Bool) → hidden_refused (moved_scope m scope) x at ≡ hidden_refused scope x at
      by true = ap₂ (λ x y. x ++ y) (same_many_keys m scope at) (same_many_vars m scope at)
      by false = refl

  module _ (a b : Kinds) (sees : Sees m a b) where
    -- ---- keys that stand in types

    typed_same : (given : Option ℕ) (t : ℕ) (is_tracked : Bool) (at : ℕ) → typed_refused (option_map m.types given) (m.types t) is_tracked at ≡ typed_refused given t is_tracked at
    typed_same None t is_tracked at = refl
    typed_same (Some u) t true at = ap (λ x. refuse_if (not x) rule.TWO_KEY_TYPES at) (sees.apart u t)
    typed_same (Some u) t false at = ap (λ x. refuse_if (not x) rule.KEY_ARGUMENT at) (sees.apart u t)

    wanted_same : (given : Option ℕ) (w : Wanted) (is_tracked : Bool) (at : ℕ) → wanted_refused (option_map m.types given) (moved_wanted m w) is_tracked at ≡ wanted_refused given w is_tracked at
    wanted_same given wanted.Any is_tracked at = refl
    wanted_same given wanted.Unknown is_tracked at = refl
    wanted_same given (wanted.OfType t) is_tracked at = typed_same given t is_tracked at

    use_same : (scope : Scope) (u : KeyUse) → use_refused (moved_scope m scope) (moved_use m u) ≡ use_refused scope u
    unfolding use_refused
    use_same scope u = ap (λ o. known_refused (moved_scope m scope) o (moved_use m u)) (same_key m scope u.key) ∙ by (key_named scope u.key)
      where
        by : (o : Option ℕ) → known_refused (moved_scope m scope) o (moved_use m u) ≡ known_refused scope o u
        by None = refl
        by (Some k) = ap (λ g. wanted_refused g (moved_wanted m u.wanted) u.tracked u.at) (key_type_moves m scope k) ∙ wanted_same (key_type scope k) u.wanted u.tracked u.at

    pub uses_same : (scope : Scope) (us : List KeyUse) → uses_refused (moved_scope m scope) (map (moved_use m) us) ≡ uses_refused scope us
    unfolding uses_refused
    uses_same scope us = by us
      where
        by : (us : List KeyUse) → of_each (use_refused (moved_scope m scope)) (map (moved_use m) us) ≡ of_each (use_refused scope) us
        by [] = refl
        by (u ∷ us) = ap₂ (λ x y. x ++ y) (use_same scope u) (by us)

    module _ (scope : Scope) where
      named_of : (n : Named) → named_refused a scope n ≡ [] → Known m a b sees n.name
      unfolding named_refused
      named_of n none = name_known m a b sees n (no_left (name_refused (shape_named a.file n.name) n) _ none)

      named_fine : (n : Named) → named_refused a scope n ≡ [] → named_refused b (moved_scope m scope) n ≡ []
      unfolding named_refused
      named_fine n none =
          let k = named_of n none in
          none_of_both _ _ (name_fine m a b sees n k (no_left (name_refused (shape_named a.file n.name) n) _ none))
          (ap (uses_refused (moved_scope m scope)) (named_uses_move m a b sees n k) ∙ (uses_same scope (named_uses a.file n) ∙ no_right (name_refused (shape_named a.file n.name) n) _ none))

      pub args_same : (n : Named) → Known m a b sees n.name → known_args b (moved_scope m scope) n ≡ known_args a scope n
      unfolding known_args
      args_same n k =
          ap (λ o. keys_of_shape o (moved_scope m scope) n.keys) k.shaped_there ∙
          (ap₂ (λ (l : ℕ) x. if l == length n.keys then x else None) (ap length k.is.header ∙ length-map k.shape.header (moved_wanted m)) (known_keys_same scope n.keys) ∙
          sym (ap (λ o. keys_of_shape o scope n.keys) k.shaped))

      -- all keys after a name that isn't refused are in scope
      argument_known : (ws : List Wanted) (ks : List Name) → length ws ≡ length ks → of_each (use_refused scope) (argument_uses ws ks) ≡ [] → (args : List ℕ) × (known_keys scope ks ≡ Some args)
      unfolding use_refused
      argument_known [] [] l none = ([], refl)
      argument_known [] (k ∷ ks) l none = absurd (omega (arith, l))
      argument_known (w ∷ ws) [] l none = absurd (omega (arith, l))
      argument_known (w ∷ ws) (k ∷ ks) l none =
          let rest = argument_known ws ks (omega (arith, l)) (no_right (use_refused scope (key_use w k)) _ none) in
          by (key_named scope k.text) refl (no_left (use_refused scope (key_use w k)) _ none) rest.0 rest.1
        where
          by : (o : Option ℕ) → key_named scope k.text ≡ o → known_refused scope o (key_use w k) ≡ [] → (args : List ℕ) → known_keys scope ks ≡ Some args →
              (args : List ℕ) × (with_known (key_named scope k.text) (known_keys scope ks) ≡ Some args)
          by None e none args f = absurd (cons_not_nil _ [] none)
          by (Some i) e none args f = (i ∷ args, ap₂ with_known e f)

      args_known : (n : Named) → named_refused a scope n ≡ [] → (args : List ℕ) × (known_args a scope n ≡ Some args)
      unfolding named_refused name_refused named_uses uses_refused known_args
      args_known n none =
          let k = named_of n none in
          let same : length k.shape.header == length n.keys ≡ true = not_false _ (not_broken _ rule.KEY_COUNT n.name.at.from (sym (ap (λ o. name_refused o n) k.shaped) ∙ no_left (name_refused (shape_named a.file n.name) n) _ none)) in
          let uses : of_each (use_refused scope) (argument_uses k.shape.header n.keys) ≡ [] =
          sym (ap (λ o. of_each (use_refused scope) (header_uses o n.keys)) k.shaped ∙ ap (λ (x : Bool). of_each (use_refused scope) (if x then argument_uses k.shape.header n.keys else map (key_use wanted.Unknown) n.keys)) same)
          ∙ no_right (name_refused (shape_named a.file n.name) n) _ none in
          let r = argument_known k.shape.header n.keys (eqb-true _ _ same) uses in
          (r.0, ap (λ o. keys_of_shape o scope n.keys) k.shaped ∙ (ap (λ (x : Bool). if x then known_keys scope n.keys else None) same ∙ r.1))

      -- ---- targets

      fits_same : (adopted : Bool) (t : Target) (u : ℕ) (args : Option (List ℕ)) → target_fits adopted (moved_target m t) (m.types u) args ≡ target_fits adopted t u args
      unfolding target_fits
      fits_same adopted t u args = by adopted t.ty
        where
          object : (v : ℕ) (y : List ℕ) → object_fits (m.types u) args (m.types v) y ≡ object_fits u args v y
          object v y = ap (λ x. x && args_fit args y) (sees.apart u v)

          by : (adopted : Bool) (ty : Ty) → target_fits adopted (record { ty = moved_ty m ty; binds = t.binds }) (m.types u) args ≡ target_fits adopted (record { ty = ty; binds = t.binds }) u args
          by true (guarded k v y) = object v y
          by true int = refl
          by true bool = refl
          by true (tracked k v y) = refl
          by true (owning S v y) = refl
          by true (variant v y) = refl
          by true (owning_variant v y) = refl
          by false (tracked k v y) = ap (λ x. t.binds && x) (object v y)
          by false (owning S v y) = object v y
          by false int = refl
          by false bool = refl
          by false (guarded k v y) = refl
          by false (variant v y) = refl
          by false (owning_variant v y) = refl

      target_same : (adopted : Bool) (t : Target) (u : ℕ) (args : Option (List ℕ)) (at : ℕ) → target_refused adopted (moved_target m t) (Some (m.types u)) args at ≡ target_refused adopted t (Some u) args at
      unfolding target_refused
      target_same adopted t u args at = ap (λ x. refuse_if (not x) rule.WRONG_TYPE at) (fits_same adopted t u args)

      adopter_same : (t : Target) (r : Option Name) (at : ℕ) → adopter_refused (moved_scope m scope) (moved_target m t) r at ≡ adopter_refused scope t r at
      unfolding adopter_refused recipient_refused
      adopter_same t None at = refl
      adopter_same t (Some r) at =
          ap₂ (λ x y. x ++ y) (ap (λ o. unknown_name o r) (same_var m scope r.text))
          (ap (λ o. recipient_unfit o (moved_ty m t.ty) at) (ty_moves m scope r.text) ∙ unfit_same (var_ty scope r.text) t.ty at)

      -- ---- the struct and its values

      struct_known : (t : ℕ) (args : Option (List ℕ)) (is : List Init) (at : ℕ) → object_refused a scope t args is at ≡ [] →
          (x : StructDecl) × (slice_get a.types t ≡ Some (a_struct x)) × (struct_refused a scope (fields_of a t) args is at ≡ [])
      unfolding object_refused
      struct_known t args is at none = by (slice_get a.types t) refl none
        where
          by : (o : Option TypeDecl) → slice_get a.types t ≡ o → (if is_struct o then struct_refused a scope (fields_of a t) args is at else refusal rule.WRONG_NEW at ∷ []) ≡ [] →
              (x : StructDecl) × (slice_get a.types t ≡ Some (a_struct x)) × (struct_refused a scope (fields_of a t) args is at ≡ [])
          by None e none = absurd (cons_not_nil _ [] none)
          by (Some (an_abstract n i)) e none = absurd (cons_not_nil _ [] none)
          by (Some (a_struct x)) e none = (x, e, none)
          by (Some (a_variant x)) e none = absurd (cons_not_nil _ [] none)

      inits_fine : (is : List Init) (ws : List Ty) → inits_refused a scope is ws ≡ [] → inits_refused b (moved_scope m scope) is (map (moved_ty m) ws) ≡ []
      inits_fine [] [] none = refl
      inits_fine [] (w ∷ ws) none = refl
      inits_fine (i ∷ is) [] none = refl
      inits_fine (i ∷ is) (w ∷ ws) none =
          none_of_both _ _ (operand_moves m a b sees scope w i.value (no_left (operand_refused a scope w i.value) _ none)).fine
          (inits_fine is ws (no_right (operand_refused a scope w i.value) _ none))

      inits_same : (is : List Init) (ws : List Ty) → inits_refused a scope is ws ≡ [] → init_operands b (moved_scope m scope) is (map (moved_ty m) ws) ≡ init_operands a scope is ws
      inits_same [] [] none = refl
      inits_same [] (w ∷ ws) none = refl
      inits_same (i ∷ is) [] none = refl
      inits_same (i ∷ is) (w ∷ ws) none =
          ap₂ (λ x y. x ∷ y) (operand_moves m a b sees scope w i.value (no_left (operand_refused a scope w i.value) _ none)).core
          (inits_same is ws (no_right (operand_refused a scope w i.value) _ none))

      values_calm : (ds : List FieldDecl) (args : Option (List ℕ)) (is : List Init) (at : ℕ) → struct_refused a scope ds args is at ≡ [] → values_refused a scope ds args is ≡ []
      unfolding struct_refused
      values_calm ds args is at none = by (fields_agree ds is) none
        where
          by : (x : Bool) → (if x then values_refused a scope ds args is else refusal rule.WRONG_COUNT at ∷ []) ≡ [] → values_refused a scope ds args is ≡ []
          by true none = none
          by false none = absurd (cons_not_nil _ [] none)

      values_fine : (ds : List FieldDecl) (args : Option (List ℕ)) (is : List Init) → values_refused a scope ds args is ≡ [] → values_refused b (moved_scope m scope) (map (moved_field m) ds) args is ≡ []
      values_fine ds None is none = refl
      values_fine ds (Some args) is none = ap (inits_refused b (moved_scope m scope) is) (field_types_move ds args) ∙ inits_fine is (field_types ds args) none

      struct_fine : (ds : List FieldDecl) (args : Option (List ℕ)) (is : List Init) (at : ℕ) → struct_refused a scope ds args is at ≡ [] → struct_refused b (moved_scope m scope) (map (moved_field m) ds) args is at ≡ []
      unfolding struct_refused
      struct_fine ds args is at none =
          ap (λ (x : Bool). if x then values_refused b (moved_scope m scope) (map (moved_field m) ds) args is else refusal rule.WRONG_COUNT at ∷ []) (fields_agree_same ds is) ∙
          by (fields_agree ds is) none
        where
          by : (x : Bool) → (if x then values_refused a scope ds args is else refusal rule.WRONG_COUNT at ∷ []) ≡ [] →
              (if x then values_refused b (moved_scope m scope) (map (moved_field m) ds) args is else refusal rule.WRONG_COUNT at ∷ []) ≡ []
          by true none = values_fine ds args is none
          by false none = absurd (cons_not_nil _ [] none)

      drop_fine : (t at : ℕ) → refuse_if (not (may_drop_struct a t)) rule.WRONG_RELEASE at ≡ [] → refuse_if (not (may_drop_struct b (m.types t))) rule.WRONG_RELEASE at ≡ []
      unfolding may_drop_struct
      drop_fine t at none = quiet _ rule.WRONG_RELEASE at (ap not (sees.drops t (not_false _ (not_broken _ rule.WRONG_RELEASE at none))))

      start_fine : (adopted : Bool) (ty : Ty) (t : ℕ) (x : StructDecl) → slice_get a.types t ≡ Some (a_struct x) → (at : ℕ) → start_refused a adopted ty t at ≡ [] → start_refused b adopted (moved_ty m ty) (m.types t) at ≡ []
      unfolding start_refused adopted_refused
      start_fine true ty t x is at none =
          none_of_both _ _ (drop_fine t at (no_left (refuse_if (not (may_drop_struct a t)) rule.WRONG_RELEASE at) _ none))
          (ap (λ o. refuse_if (not (releases_first o)) rule.WRONG_NEW at) (sees.structs t x is) ∙
          (sym (ap (λ o. refuse_if (not (releases_first o)) rule.WRONG_NEW at) is) ∙ no_right (refuse_if (not (may_drop_struct a t)) rule.WRONG_RELEASE at) _ none))
      start_fine false ty t x is at none = ap (λ x. refuse_if (not x) rule.WRONG_NEW at) (takes_first_same ty) ∙ none

      made_fine : (adopted : Bool) (t : Target) (u : ℕ) (args : Option (List ℕ)) (is : List Init) (at : ℕ) → known_made_refused a scope adopted t u args is at ≡ [] →
          known_made_refused b (moved_scope m scope) adopted (moved_target m t) (m.types u) args is at ≡ []
      unfolding known_made_refused object_refused
      made_fine adopted t u args is at none =
          let x = struct_known u args is at (no_right (start_refused a adopted t.ty u at) _ none) in
          none_of_both _ _ (start_fine adopted t.ty u x.0 x.1 at (no_left (start_refused a adopted t.ty u at) _ none))
          (ap (λ o. if is_struct o then struct_refused b (moved_scope m scope) (fields_of b (m.types u)) args is at else refusal rule.WRONG_NEW at ∷ []) (sees.structs u x.0 x.1) ∙
          (ap (λ ds. struct_refused b (moved_scope m scope) ds args is at) (fields_move m a b sees u x.0 x.1) ∙ struct_fine (fields_of a u) args is at x.2))

      -- ---- `new`

      -- what isn't refused rests on
      record Made (t : Target) (r : Option Name) (n : Named) (is : List Init) (at : ℕ) : Type 0 where
        adopter : adopter_refused scope t r at ≡ []
        named : named_refused a scope n ≡ []
        known : Known m a b sees n.name
        target : target_refused (is_some_name r) t (Some known.type) (known_args a scope n) at ≡ []
        made : known_made_refused a scope (is_some_name r) t known.type (known_args a scope n) is n.name.at.from ≡ []

      made_of : (t : Target) (r : Option Name) (n : Named) (is : List Init) (at : ℕ) → new_refused a scope t r n is at ≡ [] → Made t r n is at
      unfolding new_refused made_refused
      made_of t r n is at none =
          let one = no_right (adopter_refused scope t r at) _ none in
          let two = no_right (target_refused (is_some_name r) t (type_named a.file n.name) (known_args a scope n) at) _ one in
          let names = no_left (named_refused a scope n) _ two in
          let k = named_of n names in
          record {
            adopter = no_left (adopter_refused scope t r at) _ none;
            named = names;
            known = k;
            target = sym (ap (λ o. target_refused (is_some_name r) t o (known_args a scope n) at) k.named) ∙ no_left (target_refused (is_some_name r) t (type_named a.file n.name) (known_args a scope n) at) _ one;
            made = sym (ap (λ o. made_refused a scope (is_some_name r) t o (known_args a scope n) is n.name.at.from) k.named) ∙ no_right (named_refused a scope n) _ two;
          }

      pub new_known : (t : Target) (r : Option Name) (n : Named) (is : List Init) (at : ℕ) → new_refused a scope t r n is at ≡ [] → Known m a b sees n.name
      new_known t r n is at none = (made_of t r n is at none).known

      pub new_fine : (t : Target) (r : Option Name) (n : Named) (is : List Init) (at : ℕ) → new_refused a scope t r n is at ≡ [] → new_refused b (moved_scope m scope) (moved_target m t) r n is at ≡ []
      unfolding new_refused made_refused
      new_fine t r n is at none =
          let h = made_of t r n is at none in
          let k = h.known in
          none_of_both _ _ (adopter_same t r at ∙ h.adopter)
          (none_of_both _ _
          (ap₂ (λ o args. target_refused (is_some_name r) (moved_target m t) o args at) k.named_there (args_same n k) ∙ (target_same (is_some_name r) t k.type (known_args a scope n) at ∙ h.target))
          (none_of_both _ _ (named_fine n h.named)
          (ap₂ (λ o args. made_refused b (moved_scope m scope) (is_some_name r) (moved_target m t) o args is n.name.at.from) k.named_there (args_same n k) ∙
          made_fine (is_some_name r) t k.type (known_args a scope n) is n.name.at.from h.made)))

      operands_same : (t : Target) (r : Option Name) (n : Named) (is : List Init) (at : ℕ) → new_refused a scope t r n is at ≡ [] → made_operands b (moved_scope m scope) n is ≡ made_operands a scope n is
      unfolding made_operands known_made_refused
      operands_same t r n is at none =
          let h = made_of t r n is at none in
          let k = h.known in
          let args = args_known n h.named in
          let x = struct_known k.type (known_args a scope n) is n.name.at.from (no_right (start_refused a (is_some_name r) t.ty k.type n.name.at.from) _ h.made) in
          let calm : inits_refused a scope is (field_types (fields_of a k.type) args.0) ≡ [] = sym (ap (λ o. values_refused a scope (fields_of a k.type) o is) args.1) ∙ values_calm (fields_of a k.type) (known_args a scope n) is n.name.at.from x.2 in
          ap₂ (λ o args. init_operands b (moved_scope m scope) is (field_types (fields_of b (number_of o)) (args_or_none args))) k.named_there (args_same n k ∙ args.1) ∙
          (ap (λ ds. init_operands b (moved_scope m scope) is (field_types ds args.0)) (fields_move m a b sees k.type x.0 x.1) ∙
          (ap (init_operands b (moved_scope m scope) is) (field_types_move (fields_of a k.type) args.0) ∙
          (inits_same is (field_types (fields_of a k.type) args.0) calm ∙
          sym (ap₂ (λ o args. init_operands a scope is (field_types (fields_of a (number_of o)) (args_or_none args))) k.named args.1))))

      forms_same : (ty : Ty) (x hidden : ℕ) (r : Option Name) (args : List Operand) → made_forms (moved_scope m scope) (moved_ty m ty) x hidden r args ≡ map (moved_form m) (made_forms scope ty x hidden r args)
      unfolding var_number
      forms_same ty x hidden (Some r) args = ap (λ o. simple (make hidden args) ∷ simple (adopt x hidden (number_of o)) ∷ []) (same_var m scope r.text)
      forms_same int x hidden None args = refl
      forms_same bool x hidden None args = refl
      forms_same (tracked k t y) x hidden None args = refl
      forms_same (owning S t y) x hidden None args = refl
      forms_same (guarded k t y) x hidden None args = refl
      forms_same (variant t y) x hidden None args = refl
      forms_same (owning_variant t y) x hidden None args = refl

      pub new_core : (t : Target) (x hidden : ℕ) (r : Option Name) (n : Named) (is : List Init) (at : ℕ) → new_refused a scope t r n is at ≡ [] →
          new_forms b (moved_scope m scope) (moved_target m t) x hidden r n is ≡ map (moved_form m) (new_forms a scope t x hidden r n is)
      unfolding new_forms
      new_core t x hidden r n is at none =
          ap (made_forms (moved_scope m scope) (moved_ty m t.ty) x hidden r) (operands_same t r n is at none) ∙ forms_same t.ty x hidden r (made_operands a scope n is)

      -- ---- the scope with what is hidden

      pub object_moves : (n : Named) → Known m a b sees n.name → moved_scope m (with_object a scope n) ≡ with_object b (moved_scope m scope) n
      object_moves n k =
          more_var_moves m (more_key scope [] (type_named a.file n.name)) [] (tracked (length scope.keys) (number_of (type_named a.file n.name)) (args_or_none (known_args a scope n))) ∙
          ap₂ (λ x y. more_var x [] y)
          (more_key_moves m scope [] (type_named a.file n.name) ∙ ap (more_key (moved_scope m scope) []) (ap (option_map m.types) k.named ∙ sym k.named_there))
          (ap₂ (λ (l : ℕ) (y : ℕ × Option (List ℕ)). tracked l y.0 (args_or_none y.1)) (sym (length-map scope.keys (moved_key_of)))
          (ap₂ (λ (x : ℕ) (y : Option (List ℕ)). (x, y)) (ap (λ o. m.types (number_of o)) k.named ∙ sym (ap number_of k.named_there)) (sym (args_same n k))))
        where
          moved_key_of : core.KeyDecl → core.KeyDecl
          moved_key_of d = record { name = d.name; key_type = option_map m.types d.key_type }

      -- ---- adoption

      adopt_object : (x : Option Ty) (ty : Ty) → ad.object_fits (option_map (moved_ty m) x) (moved_ty m ty) ≡ ad.object_fits x ty
      adopt_object (Some (tracked k t y)) (guarded l u z) = is_same_object_moves m sees.apart t y u z
      adopt_object None ty = refl
      adopt_object (Some (tracked k t y)) int = refl
      adopt_object (Some (tracked k t y)) bool = refl
      adopt_object (Some (tracked k t y)) (tracked l u z) = refl
      adopt_object (Some (tracked k t y)) (owning S u z) = refl
      adopt_object (Some (tracked k t y)) (variant u z) = refl
      adopt_object (Some (tracked k t y)) (owning_variant u z) = refl
      adopt_object (Some int) ty = refl
      adopt_object (Some bool) ty = refl
      adopt_object (Some (owning S t y)) ty = refl
      adopt_object (Some (guarded k t y)) ty = refl
      adopt_object (Some (variant t y)) ty = refl
      adopt_object (Some (owning_variant t y)) ty = refl

      guarded_same : (ty : Ty) → is_guarded (moved_ty m ty) ≡ is_guarded ty
      guarded_same int = refl
      guarded_same bool = refl
      guarded_same (tracked k t y) = refl
      guarded_same (owning S t y) = refl
      guarded_same (guarded k t y) = refl
      guarded_same (variant t y) = refl
      guarded_same (owning_variant t y) = refl

      recipient_same : (r : Option Ty) (ty : Ty) → recipient_fits (option_map (moved_ty m) r) (moved_ty m ty) ≡ recipient_fits r ty
      recipient_same None ty = refl
      recipient_same (Some r) ty = guards_same (Some r) ty

      adoption_same : (x r : Option Ty) (ty : Ty) → adopt_fits (option_map (moved_ty m) x) (option_map (moved_ty m) r) (moved_ty m ty) ≡ adopt_fits x r ty
      unfolding adopt_fits
      adoption_same x r ty = ap₂ (λ p q. p && q) (guarded_same ty) (ap₂ (λ p q. p && q) (recipient_same r ty) (adopt_object x ty))

      adopted_fine : (o : Option Ty) (x : Name) → ad.object_refused a o x ≡ [] → ad.object_refused b (option_map (moved_ty m) o) x ≡ []
      unfolding ad.object_refused may_drop_struct
      adopted_fine None x none = refl
      adopted_fine (Some (tracked k t y)) x none = quiet _ rule.WRONG_RELEASE x.at.from (ap not (sees.drops t (not_false _ (not_broken _ rule.WRONG_RELEASE x.at.from none))))
      adopted_fine (Some int) x none = none
      adopted_fine (Some bool) x none = none
      adopted_fine (Some (owning S t y)) x none = none
      adopted_fine (Some (guarded k t y)) x none = none
      adopted_fine (Some (variant t y)) x none = none
      adopted_fine (Some (owning_variant t y)) x none = none

      pub adopt_fine : (ty : Ty) (x r : Name) (at : ℕ) → adopt_refused a scope ty x r at ≡ [] → adopt_refused b (moved_scope m scope) (moved_ty m ty) x r at ≡ []
      unfolding adopt_refused
      adopt_fine ty x r at none =
          let fits = refuse_if (not (adopt_fits (var_ty scope x.text) (var_ty scope r.text) ty)) rule.WRONG_TYPE at in
          let one = no_right fits _ none in
          let two = no_right (unknown_name (var_named scope x.text) x) _ one in
          none_of_both _ _
          (ap₂ (λ p q. refuse_if (not (adopt_fits p q (moved_ty m ty))) rule.WRONG_TYPE at) (ty_moves m scope x.text) (ty_moves m scope r.text) ∙
          (ap (λ p. refuse_if (not p) rule.WRONG_TYPE at) (adoption_same (var_ty scope x.text) (var_ty scope r.text) ty) ∙ no_left fits _ none))
          (none_of_both _ _ (ap (λ o. unknown_name o x) (same_var m scope x.text) ∙ no_left (unknown_name (var_named scope x.text) x) _ one)
          (none_of_both _ _ (ap (λ o. ad.object_refused b o x) (ty_moves m scope x.text) ∙ adopted_fine (var_ty scope x.text) x (no_left (ad.object_refused a (var_ty scope x.text) x) _ two))
          (ap (λ o. unknown_name o r) (same_var m scope r.text) ∙ no_right (ad.object_refused a (var_ty scope x.text) x) _ two)))

      pub adopt_core : (y : ℕ) (x r : Name) → core_adopt (moved_scope m scope) y x r ≡ core_adopt scope y x r
      unfolding core_adopt var_number
      adopt_core y x r = ap₂ (λ p q. simple (adopt y (number_of p) (number_of q))) (same_var m scope x.text) (same_var m scope r.text)
