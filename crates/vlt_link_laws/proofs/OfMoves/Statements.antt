-- Statements without blocks.
use Rattle.std.proofs.Common.{◌≡◌, ℕ, Bool, true, false, true≢false, not, if◌then◌else◌, is_some, List, [], ◌∷◌, length, map, Option, Some, None, slice_get, option_map, refl, sym, ap, ap₂, ◌∙◌, subst}
use Rattle.std.proofs.lemmas.Option.{none-some}
use Rattle.std.proofs.lemmas.List.{length-map}
use Rattle.vlt_syntax.specs.Tree as s
use Rattle.vlt_syntax.specs.Tree.{Name, Stmt}
use Rattle.vlt_core.specs.Core as core
use Rattle.vlt_core.specs.Core.{Ty, int, bool, tracked, owning, guarded, variant, owning_variant, TypeDecl, an_abstract, a_struct, a_variant, StructDecl, FieldDecl, Entry, Form, simple}
use Rattle.vlt_core.specs.Lookups.{is_owning}
use Rattle.vlt_core.specs.Types.{is_struct}
use Rattle.vlt_core.specs.declared.rules.TheConstants as rule
use Rattle.vlt_link_laws.specs.CoreMoves.Moves.{Moves, moved_ty, moved_field, moved_var, moved_form}
use Rattle.vlt_link_laws.proofs.OfCoreMoves.Looks.{same_owner}
use Rattle.vlt_kinds_types.specs.Names.Refusals.{refusal, refuse_if}
use Rattle.vlt_kinds_types.specs.declared.shapes.Shape.{Shape}
use Rattle.vlt_kinds_types.specs.Files.{state_names, state_number}
use Rattle.vlt_kinds_types.specs.Types.{known_states}
use Rattle.vlt_kinds_types.specs.Kinds.{Kinds}
use Rattle.vlt_resolve_exprs.specs.Refused.{unknown_name}
use Rattle.vlt_resolve_exprs.specs.Types.{ty_under}
use Rattle.vlt_resolve_exprs.specs.Scopes.{Scope, var_ty, more_var}
use Rattle.vlt_resolve_exprs.specs.Exprs.{expr_place, fields_of, field_named, field_ty, field_refused, type_of, expr_refused, unfit, wanted_refused, core_expr, number_of, var_number}
use Rattle.vlt_resolve_exprs.specs.Operands.{operand_refused}
use Rattle.vlt_resolve_exprs.specs.Bindings.{too_many_vars, several_refused}
use Rattle.vlt_resolve_calls.specs.Builds.{build_refused, core_build}
use Rattle.vlt_resolve_calls.specs.Calls.{dropped, has_fresh, core_call}
use Rattle.vlt_resolve_rights.specs.Droppable.{may_drop_struct, may_drop}
use Rattle.vlt_elaboration.specs.Around.{Around}
use Rattle.vlt_elaboration.specs.Declarations.{Became}
use Rattle.vlt_elaboration.specs.Statements.{put_refused, core_put, is_releasable, release_refused, release_form, state_of, state_refused, become_refused, tracked_type, core_become, swapped_misfit, owner_refused, swapped_field_refused, base_refused, swap_refused, core_swap, owning_types, parts_of, opened_parts, unopened_refused, opened_refused, open_refused, opened_became, open_became, same_but_key, gives_back, fresh_misfit, fresh_refused, value_refused, value_refused_for, build_refused_for, built_refused, returned_refused, gives_value, differ, return_refused, hidden_operand, returned_value, returned_build, return_became, jump_refused, simple_refused, alone, simple_became}
use Rattle.vlt_iface.specs.Clash.{bound_names}
use Rattle.vlt_link_laws.specs.Moves.Walks.{moved_around}
use Rattle.vlt_link_laws.specs.Moves.Sees.{Sees, moved_scope, AreFree}
use Rattle.vlt_link_laws.proofs.OfMoves.Empty.{cons_not_nil, no_left, no_right, none_of_both, not_broken, quiet, not_false}
use Rattle.vlt_link_laws.proofs.OfMoves.Scoping.{same_var, ty_moves, more_var_moves}
use Rattle.vlt_link_laws.proofs.OfMoves.Types.{is_same_moves, is_same_object_moves, under_moves}
use Rattle.vlt_link_laws.proofs.OfMoves.Exprs.{fields_move, field_moves, field_number_same, field_numbered, touched, field_fine, field_typed, field_typed_there, unfit_moves, expr_moves, operand_core, operand_moves}
use Rattle.vlt_link_laws.proofs.OfMoves.Binding.{same_many_vars, several_fine, several_same, with_several_moves}
use Rattle.vlt_link_laws.proofs.OfMoves.Calls.{call_fine, call_core}
use Rattle.vlt_link_laws.proofs.OfMoves.Builds.{build_fine, build_core}
use Rattle.vlt_link_laws.proofs.OfMoves.Rights.{moved_became, build_stays, declare_fine, declare_core, assign_fine, assign_core}

module _ (m : Moves) where
  same_some : (o : Option Ty) → is_some (option_map (moved_ty m) o) ≡ is_some o
  same_some None = refl
  same_some (Some t) = refl

  same_release_form : (o : Option Ty) (v : ℕ) → release_form (option_map (moved_ty m) o) v ≡ moved_form m (release_form o v)
  unfolding release_form
  same_release_form None v = refl
  same_release_form (Some int) v = refl
  same_release_form (Some bool) v = refl
  same_release_form (Some (tracked k t x)) v = refl
  same_release_form (Some (owning S t x)) v = refl
  same_release_form (Some (guarded k t x)) v = refl
  same_release_form (Some (variant t x)) v = refl
  same_release_form (Some (owning_variant t x)) v = refl

  owning_types_move : (args : List ℕ) (ds : List FieldDecl) → owning_types args (map (moved_field m) ds) ≡ map (moved_ty m) (owning_types args ds)
  owning_types_move args [] = refl
  owning_types_move args (d ∷ ds) =
      ap₂ (λ (x : Bool) ts. if x then ty_under args (moved_ty m d.ty) ∷ ts else ts) (same_owner m d.ty) (owning_types_move args ds) ∙ by (is_owning d.ty)
    where
      by : (x : Bool) → (if x then ty_under args (moved_ty m d.ty) ∷ map (moved_ty m) (owning_types args ds) else map (moved_ty m) (owning_types args ds)) ≡ map (moved_ty m) (if x then ty_under args d.ty ∷ owning_types args ds else owning_types args ds)
      by true = ap (λ t. t ∷ map (moved_ty m) (owning_types args ds)) (under_moves m args d.ty)
      by false = refl

  same_gives_back : (t : Ty) (es : List Entry) → gives_back (moved_ty m t) es ≡ gives_back t es
  same_gives_back int es = refl
  same_gives_back bool es = refl
  same_gives_back (tracked k t x) es = refl
  same_gives_back (owning S t x) es = refl
  same_gives_back (guarded k t x) es = refl
  same_gives_back (variant t x) es = refl
  same_gives_back (owning_variant t x) es = refl

  module _ (a b : Kinds) (sees : Sees m a b) where
    but_key_same : (w t : Ty) → same_but_key (moved_ty m w) (moved_ty m t) ≡ same_but_key w t
    but_key_same (tracked k t x) (tracked l u y) = is_same_object_moves m sees.apart t x u y
    but_key_same w t = refl

    -- ---- an expression of a wanted type

    pub wanted_fine : (scope : Scope) (w : Ty) (e : s.Expr) → wanted_refused a scope (Some w) e ≡ [] → wanted_refused b (moved_scope m scope) (Some (moved_ty m w)) e ≡ []
    unfolding wanted_refused
    wanted_fine scope w e none =
        let x = expr_moves m a b sees scope e (no_left (expr_refused a scope e) _ none) in
        none_of_both _ _ x.fine (ap (λ t. unfit (Some (moved_ty m w)) t (expr_place e)) x.type ∙ unfit_moves m a b sees w (type_of a scope e) (expr_place e) (no_right (expr_refused a scope e) _ none))

    pub wanted_core : (scope : Scope) (w : Option Ty) (e : s.Expr) → wanted_refused a scope w e ≡ [] → core_expr b (moved_scope m scope) e ≡ core_expr a scope e
    unfolding wanted_refused
    wanted_core scope w e none = (expr_moves m a b sees scope e (no_left (expr_refused a scope e) _ none)).core

    -- ---- x.f = e

    put_fine : (scope : Scope) (x f : Name) (e : s.Expr) → put_refused a scope x f e ≡ [] → put_refused b (moved_scope m scope) x f e ≡ []
    unfolding put_refused
    put_fine scope x f e none =
        let front = no_left (field_refused a scope x f) _ none in
        let h = touched m a b sees scope x f front in
        none_of_both _ _ (field_fine m a b sees scope x f front)
        (ap (λ w. wanted_refused b (moved_scope m scope) w e) (field_typed_there m a b sees scope x f h) ∙
        wanted_fine scope (ty_under h.object.args h.decl.ty) e (sym (ap (λ w. wanted_refused a scope w e) (field_typed m a b sees scope x f h)) ∙ no_right (field_refused a scope x f) _ none))

    put_core : (scope : Scope) (x f : Name) (e : s.Expr) → put_refused a scope x f e ≡ [] → core_put b (moved_scope m scope) x f e ≡ moved_form m (core_put a scope x f e)
    unfolding put_refused core_put var_number
    put_core scope x f e none =
        let h = touched m a b sees scope x f (no_left (field_refused a scope x f) _ none) in
        ap simple (ap₂ (λ (i : ℕ × ℕ) y. core.put i.0 i.1 y)
        (ap₂ (λ (i : ℕ) (j : ℕ). (i, j)) (ap number_of (same_var m scope x.text)) (field_numbered m a b sees scope x f h))
        (wanted_core scope (field_ty a scope x f) e (no_right (field_refused a scope x f) _ none)))

    -- ---- release x

    releasable : (ty : Ty) → is_releasable a ty ≡ true → is_releasable b (moved_ty m ty) ≡ true
    unfolding may_drop_struct may_drop
    releasable (tracked k t x) e = sees.drops t e
    releasable int e = sees.drops_values int e
    releasable bool e = sees.drops_values bool e
    releasable (owning S t x) e = sees.drops_values (owning S t x) e
    releasable (guarded k t x) e = sees.drops_values (guarded k t x) e
    releasable (variant t x) e = sees.drops_values (variant t x) e
    releasable (owning_variant t x) e = sees.drops_values (owning_variant t x) e

    release_fine : (o : Option Ty) (x : Name) → release_refused a o x ≡ [] → release_refused b (option_map (moved_ty m) o) x ≡ []
    unfolding release_refused
    release_fine None x none = none
    release_fine (Some ty) x none = quiet _ rule.WRONG_RELEASE x.at.from (ap not (releasable ty (not_false _ (not_broken _ rule.WRONG_RELEASE x.at.from none))))

    -- ---- become x@s

    struct_for : (t r at : ℕ) (ok : _) → (if is_struct (slice_get a.types t) then ok else refusal r at ∷ []) ≡ [] → (x : StructDecl) × (slice_get a.types t ≡ Some (a_struct x)) × (ok ≡ [])
    struct_for t r at ok none = by (slice_get a.types t) refl none
      where
        by : (o : Option TypeDecl) → slice_get a.types t ≡ o → (if is_struct o then ok else refusal r at ∷ []) ≡ [] → (x : StructDecl) × (slice_get a.types t ≡ Some (a_struct x)) × (ok ≡ [])
        by None e none = absurd (cons_not_nil _ [] none)
        by (Some (an_abstract n i)) e none = absurd (cons_not_nil _ [] none)
        by (Some (a_struct x)) e none = (x, e, none)
        by (Some (a_variant x)) e none = absurd (cons_not_nil _ [] none)

    state_known : (t : ℕ) (n : Name) → is_some (state_of a t n) ≡ true → state_of b (m.types t) n ≡ state_of a t n
    unfolding state_of state_names
    state_known t n e = by (slice_get a.file.shapes t) refl e
      where
        by : (o : Option Shape) → slice_get a.file.shapes t ≡ o → is_some (state_number (known_states (state_names a.file o)) n) ≡ true → state_of b (m.types t) n ≡ state_of a t n
        by None at e = absurd (true≢false (sym e))
        by (Some x) at e =
            let is = sees.shapes t x at in
            ap (λ o. state_number (known_states (state_names b.file o)) n) is.there ∙ (ap (λ k. state_number (known_states k) n) is.states ∙ sym (ap (λ o. state_number (known_states (state_names a.file o)) n) at))

    state_there : (t : ℕ) (x n : Name) → state_refused a t x n ≡ [] → (d : StructDecl) × (slice_get a.types t ≡ Some (a_struct d)) × (is_some (state_of a t n) ≡ true)
    unfolding state_refused
    state_there t x n none =
        let h = struct_for t rule.WRONG_BECOME x.at.from (refuse_if (not (is_some (state_of a t n))) rule.NOT_A_STATE n.at.from) none in
        (h.0, h.1, not_false _ (not_broken _ rule.NOT_A_STATE n.at.from h.2))

    state_fine : (t : ℕ) (x n : Name) → state_refused a t x n ≡ [] → state_refused b (m.types t) x n ≡ []
    unfolding state_refused
    state_fine t x n none =
        let h = state_there t x n none in
        ap₂ (λ o (y : Option ℕ). if is_struct o then refuse_if (not (is_some y)) rule.NOT_A_STATE n.at.from else refusal rule.WRONG_BECOME x.at.from ∷ []) (sees.structs t h.0 h.1) (state_known t n h.2) ∙
        quiet _ rule.NOT_A_STATE n.at.from (ap not h.2)

    become_fine : (o : Option Ty) (x n : Name) → become_refused a o x n ≡ [] → become_refused b (option_map (moved_ty m) o) x n ≡ []
    unfolding become_refused
    become_fine None x n none = none
    become_fine (Some (tracked k t y)) x n none = state_fine t x n none
    become_fine (Some int) x n none = none
    become_fine (Some bool) x n none = none
    become_fine (Some (owning S t y)) x n none = none
    become_fine (Some (guarded k t y)) x n none = none
    become_fine (Some (variant t y)) x n none = none
    become_fine (Some (owning_variant t y)) x n none = none

    become_state : (o : Option Ty) (x n : Name) → become_refused a o x n ≡ [] → state_of b (tracked_type (option_map (moved_ty m) o)) n ≡ state_of a (tracked_type o) n
    unfolding become_refused
    become_state None x n none = absurd (cons_not_nil _ [] none)
    become_state (Some (tracked k t y)) x n none = state_known t n (state_there t x n none).2
    become_state (Some int) x n none = absurd (cons_not_nil _ [] none)
    become_state (Some bool) x n none = absurd (cons_not_nil _ [] none)
    become_state (Some (owning S t y)) x n none = absurd (cons_not_nil _ [] none)
    become_state (Some (guarded k t y)) x n none = absurd (cons_not_nil _ [] none)
    become_state (Some (variant t y)) x n none = absurd (cons_not_nil _ [] none)
    become_state (Some (owning_variant t y)) x n none = absurd (cons_not_nil _ [] none)

    become_core : (scope : Scope) (x n : Name) → become_refused a (var_ty scope x.text) x n ≡ [] → core_become b (moved_scope m scope) x n ≡ moved_form m (core_become a scope x n)
    unfolding core_become var_number
    become_core scope x n none =
        ap₂ (λ (v : Option ℕ) (i : Option ℕ). simple (core.become (number_of v) (number_of i))) (same_var m scope x.text)
        (ap (λ o. state_of b (tracked_type o) n) (ty_moves m scope x.text) ∙ become_state (var_ty scope x.text) x n none)

    -- ---- swap x.f, v

    swapped_same : (w : Ty) (t : Option Ty) (v : Name) → swapped_misfit (moved_ty m w) (option_map (moved_ty m) t) v ≡ swapped_misfit w t v
    swapped_same w None v = refl
    swapped_same w (Some t) v = ap (λ x. refuse_if (not x) rule.WRONG_TYPE v.at.from) (is_same_moves m sees.apart t w)

    owner_same : (args : List ℕ) (d : FieldDecl) (t : Option Ty) (x v : Name) → owner_refused args (moved_field m d) (option_map (moved_ty m) t) x v ≡ owner_refused args d t x v
    unfolding owner_refused
    owner_same args d t x v =
        ap₂ (λ (o : Bool) y. if o then y else refusal rule.WRONG_SWAP x.at.from ∷ []) (same_owner m d.ty)
        (ap (λ w. swapped_misfit w (option_map (moved_ty m) t) v) (under_moves m args d.ty) ∙ swapped_same (ty_under args d.ty) t v)

    -- what a swap that isn't refused rests on
    record Swapped (o : Option Ty) (t : Option Ty) (x f v : Name) : Type 0 where
      key : ℕ
      type : ℕ
      args : List ℕ
      is : o ≡ Some (tracked key type args)
      decl : FieldDecl
      named : field_named a type f ≡ Some decl
      calm : owner_refused args decl t x v ≡ []

    swapped : (o t : Option Ty) (x f v : Name) → base_refused a o t x f v ≡ [] → Swapped o t x f v
    unfolding base_refused
    swapped None t x f v none = absurd (cons_not_nil _ [] none)
    swapped (Some (tracked k u args)) t x f v none = by (field_named a u f) refl none
      where
        by : (d : Option FieldDecl) → field_named a u f ≡ d → swapped_field_refused args d t x f v ≡ [] → Swapped (Some (tracked k u args)) t x f v
        by None e none = absurd (cons_not_nil _ [] none)
        by (Some d) e none = record { key = k; type = u; args = args; is = refl; decl = d; named = e; calm = none }
    swapped (Some int) t x f v none = absurd (cons_not_nil _ [] none)
    swapped (Some bool) t x f v none = absurd (cons_not_nil _ [] none)
    swapped (Some (owning S u y)) t x f v none = absurd (cons_not_nil _ [] none)
    swapped (Some (guarded k u y)) t x f v none = absurd (cons_not_nil _ [] none)
    swapped (Some (variant u y)) t x f v none = absurd (cons_not_nil _ [] none)
    swapped (Some (owning_variant u y)) t x f v none = absurd (cons_not_nil _ [] none)

    base_fine : (o t : Option Ty) (x f v : Name) → base_refused a o t x f v ≡ [] → base_refused b (option_map (moved_ty m) o) (option_map (moved_ty m) t) x f v ≡ []
    unfolding base_refused
    base_fine o t x f v none =
        let h = swapped o t x f v none in
        ap (λ o. base_refused b (option_map (moved_ty m) o) (option_map (moved_ty m) t) x f v) h.is ∙
        (ap (λ d. swapped_field_refused h.args d (option_map (moved_ty m) t) x f v) (field_moves m a b sees h.type f h.decl h.named) ∙ (owner_same h.args h.decl t x v ∙ h.calm))

    swap_fine : (scope : Scope) (x f v : Name) → swap_refused a scope x f v ≡ [] → swap_refused b (moved_scope m scope) x f v ≡ []
    unfolding swap_refused
    swap_fine scope x f v none =
        let front = base_refused a (var_ty scope x.text) (var_ty scope v.text) x f v in
        none_of_both _ _
        (ap₂ (λ o t. base_refused b o t x f v) (ty_moves m scope x.text) (ty_moves m scope v.text) ∙ base_fine (var_ty scope x.text) (var_ty scope v.text) x f v (no_left front _ none))
        (ap (λ o. unknown_name o v) (same_var m scope v.text) ∙ no_right front _ none)

    swap_core : (scope : Scope) (x f v : Name) → swap_refused a scope x f v ≡ [] → core_swap b (moved_scope m scope) x f v ≡ moved_form m (core_swap a scope x f v)
    unfolding swap_refused core_swap var_number
    swap_core scope x f v none =
        let h = swapped (var_ty scope x.text) (var_ty scope v.text) x f v (no_left (base_refused a (var_ty scope x.text) (var_ty scope v.text) x f v) _ none) in
        ap₂ (λ (p : Option ℕ × Option ℕ) (i : ℕ). simple (core.swap (number_of p.0) i (number_of p.1)))
        (ap₂ (λ (p : Option ℕ) (q : Option ℕ). (p, q)) (same_var m scope x.text) (same_var m scope v.text))
        (field_number_same m a b sees scope x f (tracked h.key h.type h.args) _ h.decl h.is refl h.named)

    -- ---- open x into (v, w)

    parts_move : (t : ℕ) (args : List ℕ) (ws : List Ty) → parts_of a t args ≡ Some ws → parts_of b (m.types t) args ≡ Some (map (moved_ty m) ws)
    parts_move t args ws e = by (slice_get a.types t) refl e
      where
        by : (o : Option TypeDecl) → slice_get a.types t ≡ o → (if is_struct o then Some (owning_types args (fields_of a t)) else None) ≡ Some ws → parts_of b (m.types t) args ≡ Some (map (moved_ty m) ws)
        by None at e = absurd (none-some ws e)
        by (Some (an_abstract n i)) at e = absurd (none-some ws e)
        by (Some (a_variant x)) at e = absurd (none-some ws e)
        by (Some (a_struct x)) at e =
            ap (λ o. if is_struct o then Some (owning_types args (fields_of b (m.types t))) else None) (sees.structs t x at) ∙
            (ap (λ ds. Some (owning_types args ds)) (fields_move m a b sees t x at) ∙
            (ap Some (owning_types_move args (fields_of a t)) ∙ ap (option_map (map (moved_ty m))) e))

    opened_move : (o : Option Ty) (ws : List Ty) → opened_parts a o ≡ Some ws → opened_parts b (option_map (moved_ty m) o) ≡ Some (map (moved_ty m) ws)
    unfolding opened_parts
    opened_move None ws e = absurd (none-some ws e)
    opened_move (Some (tracked k t args)) ws e = parts_move t args ws e
    opened_move (Some int) ws e = absurd (none-some ws e)
    opened_move (Some bool) ws e = absurd (none-some ws e)
    opened_move (Some (owning S t y)) ws e = absurd (none-some ws e)
    opened_move (Some (guarded k t y)) ws e = absurd (none-some ws e)
    opened_move (Some (variant t y)) ws e = absurd (none-some ws e)
    opened_move (Some (owning_variant t y)) ws e = absurd (none-some ws e)

    never_unopened : (o : Option Ty) (x : Name) → unopened_refused o x ≡ [] → ⊥
    unfolding unopened_refused
    never_unopened None x e = cons_not_nil _ [] e
    never_unopened (Some t) x e = cons_not_nil _ [] e

    opened_as : (scope : Scope) (x : Name) (vs : List Name) (at : ℕ) → open_refused a scope x vs at ≡ [] → (ws : List Ty) × (opened_parts a (var_ty scope x.text) ≡ Some ws) × (several_refused a scope vs ws at ≡ [])
    unfolding open_refused
    opened_as scope x vs at none = by (opened_parts a (var_ty scope x.text)) refl none
      where
        by : (o : Option (List Ty)) → opened_parts a (var_ty scope x.text) ≡ o → opened_refused a scope o (var_ty scope x.text) x vs at ≡ [] →
            (ws : List Ty) × (opened_parts a (var_ty scope x.text) ≡ Some ws) × (several_refused a scope vs ws at ≡ [])
        by None e none = absurd (never_unopened (var_ty scope x.text) x none)
        by (Some ws) e none = (ws, e, none)

    open_fine : (scope : Scope) (x : Name) (vs : List Name) (at : ℕ) → AreFree a b vs → open_refused a scope x vs at ≡ [] → open_refused b (moved_scope m scope) x vs at ≡ []
    unfolding open_refused
    open_fine scope x vs at free none =
        let h = opened_as scope x vs at none in
        ap₂ (λ o ty. opened_refused b (moved_scope m scope) o ty x vs at) (ap (opened_parts b) (ty_moves m scope x.text) ∙ opened_move (var_ty scope x.text) h.0 h.1) (ty_moves m scope x.text) ∙
        several_fine m a b scope vs h.0 at free h.2

    open_core : (scope : Scope) (x : Name) (vs : List Name) (at : ℕ) → open_refused a scope x vs at ≡ [] → open_became b (moved_scope m scope) x vs ≡ moved_became m (open_became a scope x vs)
    unfolding open_became var_number
    open_core scope x vs at none =
        let h = opened_as scope x vs at none in
        ap (λ o. opened_became (moved_scope m scope) o x vs) (ap (opened_parts b) (ty_moves m scope x.text) ∙ opened_move (var_ty scope x.text) h.0 h.1) ∙
        (ap₂ (λ (fs : List Form) (sc : Scope). let r : Became = (fs, sc) in r)
        (ap₂ (λ (v : Option ℕ) (ns : List ℕ). simple (core.open_into (number_of v) ns) ∷ []) (same_var m scope x.text) (several_same m scope vs h.0))
        (sym (with_several_moves m scope vs h.0)) ∙
        sym (ap (λ o. moved_became m (opened_became scope o x vs)) h.1))

    -- ---- return

    fresh_same : (es : List Entry) (w : Ty) (o : Option Ty) (value at : ℕ) → fresh_misfit es (moved_ty m w) (option_map (moved_ty m) o) value at ≡ fresh_misfit es w o value at
    unfolding fresh_misfit
    fresh_same es w None value at = refl
    fresh_same es w (Some t) value at =
        ap₂ (λ (x : Bool) y. if x then refuse_if y rule.RETURNED_KEY at else refusal rule.WRONG_TYPE value ∷ []) (but_key_same w t) (same_gives_back t es)

    fresh_fine : (scope : Scope) (es : List Entry) (w : Ty) (e : s.Expr) (at : ℕ) → fresh_refused a scope es w e at ≡ [] → fresh_refused b (moved_scope m scope) es (moved_ty m w) e at ≡ []
    unfolding fresh_refused
    fresh_fine scope es w e at none =
        let x = expr_moves m a b sees scope e (no_left (expr_refused a scope e) _ none) in
        none_of_both _ _ x.fine (ap (λ o. fresh_misfit es (moved_ty m w) o (expr_place e) at) x.type ∙ (fresh_same es w (type_of a scope e) (expr_place e) at ∙ no_right (expr_refused a scope e) _ none))

    value_fine : (scope : Scope) (es : List Entry) (w : Ty) (e : s.Expr) (at : ℕ) → value_refused a scope es w e at ≡ [] → value_refused b (moved_scope m scope) es (moved_ty m w) e at ≡ []
    unfolding value_refused
    value_fine scope es w e at none = by (has_fresh es) none
      where
        by : (x : Bool) → (if x then fresh_refused a scope es w e at else operand_refused a scope w e) ≡ [] → (if x then fresh_refused b (moved_scope m scope) es (moved_ty m w) e at else operand_refused b (moved_scope m scope) (moved_ty m w) e) ≡ []
        by true none = fresh_fine scope es w e at none
        by false none = (operand_moves m a b sees scope w e none).fine

    value_calm : (scope : Scope) (es : List Entry) (w : Ty) (e : s.Expr) (at : ℕ) → value_refused a scope es w e at ≡ [] → expr_refused a scope e ≡ []
    unfolding value_refused fresh_refused operand_refused
    value_calm scope es w e at none = by (has_fresh es) none
      where
        by : (x : Bool) → (if x then fresh_refused a scope es w e at else operand_refused a scope w e) ≡ [] → expr_refused a scope e ≡ []
        by true none = no_left (expr_refused a scope e) _ none
        by false none = no_left (expr_refused a scope e) _ none

    returned_fine : (around : Around) (scope : Scope) (r : s.Returned) (at : ℕ) → returned_refused a around scope r at ≡ [] → returned_refused b (moved_around m around) (moved_scope m scope) r at ≡ []
    unfolding returned_refused built_refused
    returned_fine around scope s.nothing at none = refl
    returned_fine around scope (s.value e) at none = by around.result none
      where
        by : (o : Option Ty) → value_refused_for a scope around.clause o e at ≡ [] → value_refused_for b (moved_scope m scope) around.clause (option_map (moved_ty m) o) e at ≡ []
        by None none = refl
        by (Some w) none = value_fine scope around.clause w e at none
    returned_fine around scope (s.build y) at none =
        none_of_both _ _ (same_many_vars m scope at ∙ no_left (too_many_vars scope at) _ none) (by around.result (no_right (too_many_vars scope at) _ none))
      where
        by : (o : Option Ty) → build_refused_for a scope o y ≡ [] → build_refused_for b (moved_scope m scope) (option_map (moved_ty m) o) y ≡ []
        by None none = refl
        by (Some w) none = subst (λ sc. build_refused b sc (moved_ty m w) y ≡ []) (more_var_moves m scope [] w) (build_fine m a b sees (more_var scope [] w) w y none)

    pub return_fine : (around : Around) (scope : Scope) (r : s.Returned) (at : ℕ) → return_refused a around scope r at ≡ [] → return_refused b (moved_around m around) (moved_scope m scope) r at ≡ []
    unfolding return_refused
    return_fine around scope r at none =
        let front = refuse_if around.in_focus rule.WRONG_JUMP at in
        let one = no_right front _ none in
        let mid = refuse_if (differ (gives_value r) (is_some around.result)) rule.WRONG_RETURN at in
        none_of_both _ _ (no_left front _ none)
        (none_of_both _ _ (ap (λ x. refuse_if (differ (gives_value r) x) rule.WRONG_RETURN at) (same_some around.result) ∙ no_left mid _ one)
        (returned_fine around scope r at (no_right mid _ one)))

    same_hidden_operand : (ty : Ty) (v : ℕ) → hidden_operand (moved_ty m ty) v ≡ hidden_operand ty v
    same_hidden_operand ty v = ap (λ (x : Bool). if x then core.move v else core.pure (core.var v)) (same_owner m ty)

    pub return_core : (around : Around) (scope : Scope) (r : s.Returned) (at : ℕ) → return_refused a around scope r at ≡ [] → return_became b (moved_around m around) (moved_scope m scope) r ≡ moved_became m (return_became a around scope r)
    unfolding return_refused returned_refused built_refused return_became
    return_core around scope s.nothing at none = refl
    return_core around scope (s.value e) at none = ap (λ fs. let r : Became = (fs, moved_scope m scope) in r) (by around.result (no_right (refuse_if (differ true (is_some around.result)) rule.WRONG_RETURN at) _ (no_right (refuse_if around.in_focus rule.WRONG_JUMP at) _ none)))
      where
        by : (o : Option Ty) → value_refused_for a scope around.clause o e at ≡ [] → returned_value b (moved_scope m scope) (option_map (moved_ty m) o) e ≡ map (moved_form m) (returned_value a scope o e)
        by None none = refl
        by (Some w) none = ap (λ x. core.return (Some x) ∷ []) (operand_core m a b sees scope w e (value_calm scope around.clause w e at none))
    return_core around scope (s.build y) at none =
        by around.result (no_right (too_many_vars scope at) _ (no_right (refuse_if (differ true (is_some around.result)) rule.WRONG_RETURN at) _ (no_right (refuse_if around.in_focus rule.WRONG_JUMP at) _ none)))
      where
        by : (o : Option Ty) → build_refused_for a scope o y ≡ [] → returned_build b (moved_scope m scope) (option_map (moved_ty m) o) y ≡ moved_became m (returned_build a scope o y)
        by None none = refl
        by (Some w) none =
            let there = more_var_moves m scope [] w in
            ap (λ sc. let r : Became = (core_build b sc (moved_ty m w) (length (map (moved_var m) scope.vars)) y ∷ core.return (Some (hidden_operand (moved_ty m w) (length (map (moved_var m) scope.vars)))) ∷ [], sc) in r) (sym there) ∙
            (ap₂ (λ (n : ℕ) h. let r : Became = (core_build b (moved_scope m (more_var scope [] w)) (moved_ty m w) n y ∷ core.return (Some (h n)) ∷ [], moved_scope m (more_var scope [] w)) in r) (length-map scope.vars (moved_var m)) (hidden_same_fun w) ∙
            ap (λ f. let r : Became = (f ∷ core.return (Some (hidden_operand w (length scope.vars))) ∷ [], moved_scope m (more_var scope [] w)) in r)
            (build_core m a b sees (more_var scope [] w) w (length scope.vars) y none ∙ sym (build_stays m a b sees (more_var scope [] w) w (length scope.vars) y)))
          where
            hidden_same_fun : (w : Ty) → hidden_operand (moved_ty m w) ≡ hidden_operand w
            hidden_same_fun w = ap {B = ℕ → core.Operand} (λ (x : Bool) (v : ℕ). if x then core.move v else core.pure (core.var v)) (same_owner m w)

    -- ---- all of them

    -- an assignment is to a variable of a known type
    abbrev pub IsTyped : Scope → Stmt → Type 0
    IsTyped scope (s.assign x right at) = (ty : Ty) × (var_ty scope x.text ≡ Some ty)
    IsTyped scope x = Unit {0}

    pub simple_fine : (around : Around) (scope : Scope) (x : Stmt) → IsTyped scope x → AreFree a b (bound_names x) → simple_refused a around scope x ≡ [] → simple_refused b (moved_around m around) (moved_scope m scope) x ≡ []
    unfolding jump_refused
    simple_fine around scope (s.declare t x right at) typed free none = declare_fine m a b sees scope t x right at.from free none
    simple_fine around scope (s.assign x right at) typed free none = assign_fine m a b sees scope x right at.from typed.0 typed.1 none
    simple_fine around scope (s.put x f e at) typed free none = put_fine scope x f e none
    simple_fine around scope (s.call c at) typed free none = call_fine m a b sees scope (dropped at.from) c none
    simple_fine around scope (s.print e at) typed free none = wanted_fine scope int e none
    simple_fine around scope (s.break at) typed free none = none
    simple_fine around scope (s.continue at) typed free none = none
    simple_fine around scope (s.return r at) typed free none = return_fine around scope r at.from none
    simple_fine around scope (s.release x at) typed free none = ap (λ o. release_refused b o x) (ty_moves m scope x.text) ∙ release_fine (var_ty scope x.text) x none
    simple_fine around scope (s.become x n at) typed free none = ap (λ o. become_refused b o x n) (ty_moves m scope x.text) ∙ become_fine (var_ty scope x.text) x n none
    simple_fine around scope (s.swap x f v at) typed free none = swap_fine scope x f v none
    simple_fine around scope (s.open_into x vs at) typed free none = open_fine scope x vs at.from free none
    simple_fine around scope (s.block y) typed free none = refl
    simple_fine around scope (s.choose i) typed free none = refl
    simple_fine around scope (s.loop e y at) typed free none = refl
    simple_fine around scope (s.switch x arms at) typed free none = refl
    simple_fine around scope (s.focus y k z c at) typed free none = refl

    alone_same : (f g : Form) (scope : Scope) → f ≡ moved_form m g → alone f (moved_scope m scope) ≡ moved_became m (alone g scope)
    alone_same f g scope e = ap (λ x. let r : Became = (x ∷ [], moved_scope m scope) in r) e

    pub simple_core : (around : Around) (scope : Scope) (x : Stmt) → IsTyped scope x → AreFree a b (bound_names x) → simple_refused a around scope x ≡ [] →
        simple_became b (moved_around m around) (moved_scope m scope) x ≡ moved_became m (simple_became a around scope x)
    unfolding var_number
    simple_core around scope (s.declare t x right at) typed free none = declare_core m a b sees scope t x right at.from free none
    simple_core around scope (s.assign x right at) typed free none = assign_core m a b sees scope x right at.from typed.0 typed.1 none
    simple_core around scope (s.put x f e at) typed free none = alone_same _ (core_put a scope x f e) scope (put_core scope x f e none)
    simple_core around scope (s.call c at) typed free none = alone_same _ (core_call a scope (dropped at.from) None c) scope (call_core m a b sees scope (dropped at.from) None c none)
    simple_core around scope (s.print e at) typed free none = alone_same _ (simple (core.print (core_expr a scope e))) scope (ap (λ x. simple (core.print x)) (wanted_core scope (Some int) e none))
    simple_core around scope (s.break at) typed free none = refl
    simple_core around scope (s.continue at) typed free none = refl
    simple_core around scope (s.return r at) typed free none = return_core around scope r at.from none
    simple_core around scope (s.release x at) typed free none =
        alone_same _ (release_form (var_ty scope x.text) (var_number scope x)) scope
        (ap₂ (λ o (v : Option ℕ). release_form o (number_of v)) (ty_moves m scope x.text) (same_var m scope x.text) ∙ same_release_form (var_ty scope x.text) (var_number scope x))
    simple_core around scope (s.become x n at) typed free none = alone_same _ (core_become a scope x n) scope (become_core scope x n none)
    simple_core around scope (s.swap x f v at) typed free none = alone_same _ (core_swap a scope x f v) scope (swap_core scope x f v none)
    simple_core around scope (s.open_into x vs at) typed free none = open_core scope x vs at.from none
    simple_core around scope (s.block y) typed free none = refl
    simple_core around scope (s.choose i) typed free none = refl
    simple_core around scope (s.loop e y at) typed free none = refl
    simple_core around scope (s.switch x arms at) typed free none = refl
    simple_core around scope (s.focus y k z c at) typed free none = refl
