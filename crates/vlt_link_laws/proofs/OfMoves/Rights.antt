-- Right sides, declarations and assignments.
use Rattle.std.proofs.Common.{◌≡◌, ℕ, Bool, true, false, not, if◌then◌else◌, is_some, List, [], ◌∷◌, ◌++◌, length, map, Option, Some, None, option_map, refl, sym, ap, ap₂, ◌∙◌, subst}
use Rattle.std.proofs.lemmas.List.{length-map}
use Rattle.vlt_syntax.specs.Tree as s
use Rattle.vlt_syntax.specs.Tree.{Name, Right}
use Rattle.vlt_core.specs.Core.{Ty, int, bool, Form}
use Rattle.vlt_core.specs.declared.rules.TheConstants as rule
use Rattle.vlt_link_laws.specs.CoreMoves.Moves.{Moves, moved_ty, moved_var, moved_form}
use Rattle.vlt_kinds_types.specs.Names.Refusals.{refuse_if}
use Rattle.vlt_kinds_types.specs.Files.{type_named}
use Rattle.vlt_kinds_types.specs.Types.{ty_refused, ty_uses, named_refused, form_refused, ty_place}
use Rattle.vlt_kinds_types.specs.Kinds.{Kinds}
use Rattle.vlt_resolve_exprs.specs.Refused.{unknown_name}
use Rattle.vlt_resolve_exprs.specs.Scopes.{Scope, key_named, var_named, var_ty, with_key, with_var}
use Rattle.vlt_resolve_exprs.specs.Exprs.{number_of, var_number}
use Rattle.vlt_resolve_exprs.specs.Bindings.{new_key_refused, new_var_refused}
use Rattle.vlt_resolve_exprs.specs.Targets.{Target, core_value}
use Rattle.vlt_resolve_calls.specs.Builds.{Case, case_of_tick, case_form, core_build}
use Rattle.vlt_resolve_rights.specs.Adopts.{core_adopt}
use Rattle.vlt_resolve_calls.specs.Calls.{given}
use Rattle.vlt_resolve_rights.specs.News.{uses_refused, hides, hidden_refused, with_object, with_hidden}
use Rattle.vlt_elaboration.specs.Rights.{input_refused, target_right_refused, right_refused, target_right_forms, right_forms}
use Rattle.vlt_elaboration.specs.Declarations.{Became, is_known_key, binds_key, bound_key_refused, with_bound_key, type_refused, key_number, declared_ty, declared_target, hidden_right_refused, declared_refused, declared_became, hidden_became, keyed_refused, keyed_became, declare_refused, declare_became, plain_target, assigned_target, assign_refused, assign_became}
use Rattle.vlt_iface.specs.Clash.{key_bound}
use Rattle.vlt_link_laws.specs.Moves.Sees.{Sees, moved_scope, IsFree, AreFree}
use Rattle.vlt_link_laws.proofs.OfMoves.Empty.{no_left, no_right, none_of_both}
use Rattle.vlt_link_laws.proofs.OfMoves.Scoping.{same_var, same_key, ty_moves, with_key_moves, with_var_moves}
use Rattle.vlt_link_laws.proofs.OfMoves.Types.{is_same_moves}
use Rattle.vlt_link_laws.proofs.OfMoves.Binding.{new_var_fine, new_key_fine}
use Rattle.vlt_link_laws.proofs.OfMoves.Named.{Known, name_known, ty_fine, uses_move, core_moves}
use Rattle.vlt_link_laws.proofs.OfMoves.Calls.{moved_target, call_fine, call_core}
use Rattle.vlt_link_laws.proofs.OfMoves.Builds.{value_fine, value_core, build_fine, build_core}
use Rattle.vlt_link_laws.proofs.OfMoves.News.{hides_same, hidden_same, uses_same, new_known, new_fine, new_core, object_moves, adopt_fine, adopt_core}

pub free_left : (a b : Kinds) (xs ys : List Name) → AreFree a b (xs ++ ys) → AreFree a b xs
free_left a b [] ys f = tt
free_left a b (x ∷ xs) ys f = (f.0, free_left a b xs ys f.1)

pub free_right : (a b : Kinds) (xs ys : List Name) → AreFree a b (xs ++ ys) → AreFree a b ys
free_right a b [] ys f = f
free_right a b (x ∷ xs) ys f = free_right a b xs ys f.1

module _ (m : Moves) where
  abbrev pub moved_became : Became → Became
  moved_became x = (map (moved_form m) x.0, moved_scope m x.1)

  module _ (a b : Kinds) (sees : Sees m a b) where
    -- ---- right sides

    right_fine_at : (scope : Scope) (t : Target) (right : Right) → target_right_refused a scope t right ≡ [] → target_right_refused b (moved_scope m scope) (moved_target m t) right ≡ []
    unfolding input_refused
    right_fine_at scope t (s.value e) none = value_fine m a b sees scope t e none
    right_fine_at scope t (s.build y) none = build_fine m a b sees scope t.ty y none
    right_fine_at scope t (s.call c) none = call_fine m a b sees scope (given t) c none
    right_fine_at scope t (s.input at) none = ap (λ x. refuse_if (not x) rule.WRONG_TYPE at.from) (is_same_moves m sees.apart int t.ty) ∙ none
    right_fine_at scope t (s.more at) none = ap (λ x. refuse_if (not x) rule.WRONG_TYPE at.from) (is_same_moves m sees.apart bool t.ty) ∙ none
    right_fine_at scope t (s.make r n is at) none = new_fine m a b sees scope t r n is at.from none
    right_fine_at scope t (s.adopt x r at) none = adopt_fine m a b sees scope t.ty x r at.from none

    pub build_stays : (scope : Scope) (ty : Ty) (v : ℕ) (y : s.Build) → moved_form m (core_build a scope ty v y) ≡ core_build a scope ty v y
    unfolding core_build
    build_stays scope ty v y = by (case_of_tick a ty y.case)
      where
        by : (o : Option Case) → moved_form m (case_form a scope v o y) ≡ case_form a scope v o y
        by None = refl
        by (Some c) = refl

    right_core_at : (scope : Scope) (t : Target) (x hidden : ℕ) (right : Right) → target_right_refused a scope t right ≡ [] →
        target_right_forms b (moved_scope m scope) (moved_target m t) x hidden right ≡ map (moved_form m) (target_right_forms a scope t x hidden right)
    unfolding core_value core_adopt
    right_core_at scope t x hidden (s.value e) none = ap (λ f. f ∷ []) (value_core m a b sees scope t x e none)
    right_core_at scope t x hidden (s.build y) none = ap (λ f. f ∷ []) (build_core m a b sees scope t.ty x y none ∙ sym (build_stays scope t.ty x y))
    right_core_at scope t x hidden (s.call c) none = ap (λ f. f ∷ []) (call_core m a b sees scope (given t) (Some x) c none)
    right_core_at scope t x hidden (s.input at) none = refl
    right_core_at scope t x hidden (s.more at) none = refl
    right_core_at scope t x hidden (s.make r n is at) none = new_core m a b sees scope t x hidden r n is at.from none
    right_core_at scope t x hidden (s.adopt y r at) none = ap (λ f. f ∷ []) (adopt_core m a b sees scope x y r)

    pub right_fine : (scope : Scope) (t : Option Target) (right : Right) → right_refused a scope t right ≡ [] → right_refused b (moved_scope m scope) (option_map (moved_target m) t) right ≡ []
    unfolding right_refused
    right_fine scope None right none = refl
    right_fine scope (Some t) right none = right_fine_at scope t right none

    pub right_core : (scope : Scope) (t : Option Target) (x hidden : ℕ) (right : Right) → right_refused a scope t right ≡ [] →
        right_forms b (moved_scope m scope) (option_map (moved_target m) t) x hidden right ≡ map (moved_form m) (right_forms a scope t x hidden right)
    unfolding right_refused right_forms
    right_core scope None x hidden right none = refl
    right_core scope (Some t) x hidden right none = right_core_at scope t x hidden right none

    -- the scope with the hidden variable of a right side that isn't refused in it
    pub hidden_moves : (scope inner : Scope) (ty : Option Ty) (t : Target) (right : Right) → target_right_refused a inner t right ≡ [] →
        moved_scope m (with_hidden a scope right ty) ≡ with_hidden b (moved_scope m scope) right (option_map (moved_ty m) ty)
    unfolding with_hidden
    hidden_moves scope inner ty t (s.value e) none = refl
    hidden_moves scope inner ty t (s.build y) none = refl
    hidden_moves scope inner ty t (s.call c) none = refl
    hidden_moves scope inner ty t (s.input at) none = refl
    hidden_moves scope inner ty t (s.more at) none = refl
    hidden_moves scope inner ty t (s.adopt x r at) none = refl
    hidden_moves scope inner ty t (s.make r n is at) none =
        by (hides (s.make r n is at) ty) ∙ ap (λ (x : Bool). if x then with_object b (moved_scope m scope) n else moved_scope m scope) (sym (hides_same m (s.make r n is at) ty))
      where
        by : (x : Bool) → moved_scope m (if x then with_object a scope n else scope) ≡ (if x then with_object b (moved_scope m scope) n else moved_scope m scope)
        by true = object_moves m a b sees scope n (new_known m a b sees inner t r n is at.from none)
        by false = refl

    -- ---- declarations

    same_known_key : (scope : Scope) (k : Name) → is_known_key (moved_scope m scope) k ≡ is_known_key scope k
    same_known_key scope k = ap is_some (same_key m scope k.text)

    same_binds : (scope : Scope) (t : s.Ty) → binds_key (moved_scope m scope) t ≡ binds_key scope t
    same_binds scope (s.tracked k n at) = ap not (same_known_key scope k)
    same_binds scope (s.int at) = refl
    same_binds scope (s.bool at) = refl
    same_binds scope (s.owning ss n at) = refl
    same_binds scope (s.guarded k n) = refl
    same_binds scope (s.plain n) = refl

    bound_key_fine : (scope : Scope) (t : s.Ty) → AreFree a b (key_bound t) → bound_key_refused a scope t ≡ [] → bound_key_refused b (moved_scope m scope) t ≡ []
    unfolding bound_key_refused
    bound_key_fine scope (s.tracked k n at) free none =
        ap (λ (x : Bool). if x then [] else new_key_refused b (moved_scope m scope) k) (same_known_key scope k) ∙ by (is_known_key scope k) none
      where
        by : (x : Bool) → (if x then [] else new_key_refused a scope k) ≡ [] → (if x then [] else new_key_refused b (moved_scope m scope) k) ≡ []
        by true none = refl
        by false none = new_key_fine m a b scope k free.0 none
    bound_key_fine scope (s.int at) free none = refl
    bound_key_fine scope (s.bool at) free none = refl
    bound_key_fine scope (s.owning ss n at) free none = refl
    bound_key_fine scope (s.guarded k n) free none = refl
    bound_key_fine scope (s.plain n) free none = refl

    bound_key_moves : (scope : Scope) (t : s.Ty) → ty_refused a.file t ≡ [] → moved_scope m (with_bound_key a scope t) ≡ with_bound_key b (moved_scope m scope) t
    unfolding with_bound_key named_refused
    bound_key_moves scope (s.tracked k n at) none =
        by (is_known_key scope k) ∙ ap (λ (x : Bool). if x then moved_scope m scope else with_key (moved_scope m scope) k.text (type_named b.file n.name)) (sym (same_known_key scope k))
      where
        known : Known m a b sees n.name
        known = name_known m a b sees n (no_right (form_refused (s.tracked k n at) _ (ty_place (s.tracked k n at))) _ none)

        by : (x : Bool) → moved_scope m (if x then scope else with_key scope k.text (type_named a.file n.name)) ≡ (if x then moved_scope m scope else with_key (moved_scope m scope) k.text (type_named b.file n.name))
        by true = refl
        by false = with_key_moves m scope k.text (type_named a.file n.name) ∙ ap (with_key (moved_scope m scope) k.text) (ap (option_map m.types) known.named ∙ sym known.named_there)
    bound_key_moves scope (s.int at) none = refl
    bound_key_moves scope (s.bool at) none = refl
    bound_key_moves scope (s.owning ss n at) none = refl
    bound_key_moves scope (s.guarded k n) none = refl
    bound_key_moves scope (s.plain n) none = refl

    type_fine : (scope : Scope) (t : s.Ty) → type_refused a scope t ≡ [] → (ty_refused a.file t ≡ []) × (type_refused b (moved_scope m scope) t ≡ [])
    unfolding type_refused
    type_fine scope t none =
        let front = no_left (ty_refused a.file t) _ none in (
          front,
          none_of_both _ _ (ty_fine m a b sees t front)
              (ap (uses_refused (moved_scope m scope)) (uses_move m a b sees t front) ∙ (uses_same m a b sees scope (ty_uses a.file t) ∙ no_right (ty_refused a.file t) _ none)),
        )

    declared_moves : (scope : Scope) (t : s.Ty) → ty_refused a.file t ≡ [] → declared_ty b (moved_scope m scope) t ≡ moved_ty m (declared_ty a scope t)
    unfolding declared_ty key_named
    declared_moves scope t none = core_moves m a b sees (key_number scope) t none

    -- after the type, in the scope with the key
    record IsDeclared (scope : Scope) (t : Target) (x : Name) (right : Right) (at : ℕ) : Type 0 where
      fine : declared_refused b (moved_scope m scope) (moved_target m t) x right at ≡ []
      core : hidden_became b (moved_scope m scope) (moved_target m t) x right ≡ moved_became (hidden_became a scope t x right)

    declared : (scope : Scope) (t : Target) (x : Name) (right : Right) (at : ℕ) → IsFree a b x.text → declared_refused a scope t x right at ≡ [] → IsDeclared scope t x right at
    unfolding declared_refused hidden_right_refused hidden_became declared_became right_refused right_forms
    declared scope t x right at free none =
        let inner = with_hidden a scope right (Some t.ty) in
        let hid = hidden_refused scope (hides right (Some t.ty)) at in
        let back = no_right hid _ none in
        let calm = no_right (new_var_refused a inner x) _ back in
        let there = hidden_moves scope inner (Some t.ty) t right calm in
        record {
          fine = none_of_both _ _ (hidden_same m scope right (Some t.ty) at ∙ no_left hid _ none)
              (subst (λ sc. new_var_refused b sc x ++ target_right_refused b sc (moved_target m t) right ≡ []) there
              (none_of_both _ _ (new_var_fine m a b inner x free (no_left (new_var_refused a inner x) _ back)) (right_fine_at inner t right calm)));
          core =
              ap₂ (λ (sc : Scope) (n : ℕ). let r : Became = (target_right_forms b sc (moved_target m t) (length sc.vars) n right, with_var sc x.text (moved_ty m t.ty)) in r) (sym there) (length-map scope.vars (moved_var m)) ∙
              ap₂ (λ (fs : List Form) (sc : Scope). let r : Became = (fs, sc) in r)
              (ap (λ n. target_right_forms b (moved_scope m inner) (moved_target m t) n (length scope.vars) right) (length-map inner.vars (moved_var m)) ∙ right_core_at inner t (length inner.vars) (length scope.vars) right calm)
              (sym (with_var_moves m inner x.text t.ty));
        }

    pub declare_fine : (scope : Scope) (t : s.Ty) (x : Name) (right : Right) (at : ℕ) → AreFree a b (key_bound t ++ x ∷ []) → declare_refused a scope t x right at ≡ [] → declare_refused b (moved_scope m scope) t x right at ≡ []
    unfolding declare_refused keyed_refused
    declare_fine scope t x right at free none =
        let inner = with_bound_key a scope t in
        let back = no_right (bound_key_refused a scope t) _ none in
        let ty = type_fine inner t (no_left (type_refused a inner t) _ back) in
        let d = declared inner (declared_target a (binds_key scope t) inner t) x right at (free_right a b (key_bound t) (x ∷ []) free).0 (no_right (type_refused a inner t) _ back) in
        none_of_both _ _ (bound_key_fine scope t (free_left a b (key_bound t) (x ∷ []) free) (no_left (bound_key_refused a scope t) _ none))
        (subst (λ sc. type_refused b sc t ++ declared_refused b sc (declared_target b (binds_key (moved_scope m scope) t) sc t) x right at ≡ []) (bound_key_moves scope t ty.0)
        (none_of_both _ _ ty.1
        (ap₂ (λ (v : Bool) (y : Ty). declared_refused b (moved_scope m inner) (record { ty = y; binds = v }) x right at) (same_binds scope t) (declared_moves inner t ty.0) ∙ d.fine)))

    pub declare_core : (scope : Scope) (t : s.Ty) (x : Name) (right : Right) (at : ℕ) → AreFree a b (key_bound t ++ x ∷ []) → declare_refused a scope t x right at ≡ [] → declare_became b (moved_scope m scope) t x right ≡ moved_became (declare_became a scope t x right)
    unfolding declare_refused keyed_refused declare_became keyed_became
    declare_core scope t x right at free none =
        let inner = with_bound_key a scope t in
        let back = no_right (bound_key_refused a scope t) _ none in
        let ty = type_fine inner t (no_left (type_refused a inner t) _ back) in
        let d = declared inner (declared_target a (binds_key scope t) inner t) x right at (free_right a b (key_bound t) (x ∷ []) free).0 (no_right (type_refused a inner t) _ back) in
        ap₂ (λ (sc : Scope) (v : Bool). hidden_became b sc (declared_target b v sc t) x right) (sym (bound_key_moves scope t ty.0)) (same_binds scope t) ∙
        (ap (λ (y : Ty). hidden_became b (moved_scope m inner) (record { ty = y; binds = binds_key scope t }) x right) (declared_moves inner t ty.0) ∙ d.core)

    -- ---- assignments

    same_assigned : (ty : Option Ty) → assigned_target (option_map (moved_ty m) ty) ≡ option_map (moved_target m) (assigned_target ty)
    same_assigned None = refl
    same_assigned (Some ty) = refl

    assign_hidden : (scope inner : Scope) (ty : Ty) (right : Right) → right_refused a inner (Some (plain_target ty)) right ≡ [] →
        moved_scope m (with_hidden a scope right (Some ty)) ≡ with_hidden b (moved_scope m scope) right (Some (moved_ty m ty))
    unfolding right_refused
    assign_hidden scope inner ty right none = hidden_moves scope inner (Some ty) (plain_target ty) right none

    -- what isn't refused of an assignment to a variable of this type
    record Assigned (scope : Scope) (x : Name) (right : Right) (at : ℕ) (ty : Ty) : Type 0 where
      hidden : hidden_refused scope (hides right (Some ty)) at ≡ []
      calm : right_refused a (with_hidden a scope right (Some ty)) (Some (plain_target ty)) right ≡ []
      typed_there : var_ty (moved_scope m scope) x.text ≡ Some (moved_ty m ty)

    assigned : (scope : Scope) (x : Name) (right : Right) (at : ℕ) (ty : Ty) → var_ty scope x.text ≡ Some ty → assign_refused a scope x right at ≡ [] → Assigned scope x right at ty
    unfolding assign_refused
    assigned scope x right at ty typed none =
        let all = subst (λ o. hidden_refused scope (hides right o) at ++ right_refused a (with_hidden a scope right o) (assigned_target o) right ≡ []) typed (no_right (unknown_name (var_named scope x.text) x) _ none) in
        record {
          hidden = no_left (hidden_refused scope (hides right (Some ty)) at) _ all;
          calm = no_right (hidden_refused scope (hides right (Some ty)) at) _ all;
          typed_there = ty_moves m scope x.text ∙ ap (option_map (moved_ty m)) typed;
        }

    pub assign_fine : (scope : Scope) (x : Name) (right : Right) (at : ℕ) (ty : Ty) → var_ty scope x.text ≡ Some ty → assign_refused a scope x right at ≡ [] → assign_refused b (moved_scope m scope) x right at ≡ []
    unfolding assign_refused
    assign_fine scope x right at ty typed none =
        let h = assigned scope x right at ty typed none in
        let inner = with_hidden a scope right (Some ty) in
        none_of_both _ _ (ap (λ o. unknown_name o x) (same_var m scope x.text) ∙ no_left (unknown_name (var_named scope x.text) x) _ none)
        (ap (λ o. hidden_refused (moved_scope m scope) (hides right o) at ++ right_refused b (with_hidden b (moved_scope m scope) right o) (assigned_target o) right) h.typed_there ∙
        none_of_both _ _ (hidden_same m scope right (Some ty) at ∙ h.hidden)
        (subst (λ sc. right_refused b sc (Some (moved_target m (plain_target ty))) right ≡ []) (assign_hidden scope inner ty right h.calm) (right_fine inner (Some (plain_target ty)) right h.calm)))

    pub assign_core : (scope : Scope) (x : Name) (right : Right) (at : ℕ) (ty : Ty) → var_ty scope x.text ≡ Some ty → assign_refused a scope x right at ≡ [] → assign_became b (moved_scope m scope) x right ≡ moved_became (assign_became a scope x right)
    unfolding assign_became var_number
    assign_core scope x right at ty typed none =
        let h = assigned scope x right at ty typed none in
        let inner = with_hidden a scope right (Some ty) in
        let there = assign_hidden scope inner ty right h.calm in
        ap (λ o. let r : Became = (right_forms b (with_hidden b (moved_scope m scope) right o) (assigned_target o) (var_number (moved_scope m scope) x) (length (map (moved_var m) scope.vars)) right, with_hidden b (moved_scope m scope) right o) in r) h.typed_there ∙
        (ap (λ sc. let r : Became = (right_forms b sc (Some (moved_target m (plain_target ty))) (var_number (moved_scope m scope) x) (length (map (moved_var m) scope.vars)) right, sc) in r) (sym there) ∙
        (ap₂ (λ (v : ℕ) (n : ℕ). let r : Became = (right_forms b (moved_scope m inner) (Some (moved_target m (plain_target ty))) v n right, moved_scope m inner) in r) (ap number_of (same_var m scope x.text)) (length-map scope.vars (moved_var m)) ∙
        (ap (λ fs. let r : Became = (fs, moved_scope m inner) in r) (right_core inner (Some (plain_target ty)) (var_number scope x) (length scope.vars) right h.calm) ∙
        sym (ap (λ o. moved_became (right_forms a (with_hidden a scope right o) (assigned_target o) (var_number scope x) (length scope.vars) right, with_hidden a scope right o)) typed))))
