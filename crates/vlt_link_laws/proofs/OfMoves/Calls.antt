-- Calls.
use Rattle.std.proofs.Common.{◌≡◌, ℕ, ◌+◌, ◌==◌, Bool, true, false, not, ◌&&◌, ◌||◌, if◌then◌else◌, List, [], ◌∷◌, ◌++◌, length, map, Option, Some, None, slice_get, option_map, unwrap_or, refl, sym, ap, ap₂, ◌∙◌}
use Rattle.std.proofs.lemmas.Option.{none-some}
use Rattle.std.proofs.lemmas.List.{length-map}
use Rattle.vlt_syntax.specs.Tree as s
use Rattle.vlt_syntax.specs.Tree.{Name}
use Rattle.vlt_core.specs.Core.{States, Ty, int, bool, tracked, owning, guarded, variant, owning_variant, Entry, KeyDecl, VarDecl, Func, call}
use Rattle.vlt_core.specs.Lookups.{owns}
use Rattle.vlt_core.specs.Types.{args_of, keys_of_ty}
use Rattle.vlt_core.specs.declared.rules.TheConstants as rule
use Rattle.vlt_link_laws.specs.CoreMoves.Moves.{Moves, moved_ty, moved_key, moved_var, moved_form}
use Rattle.vlt_link_laws.proofs.OfCoreMoves.Looks.{same_owner}
use Rattle.vlt_kinds_types.specs.Names.Globals.{global_in}
use Rattle.vlt_kinds_types.specs.declared.names.globals.Entity.{Entity}
use Rattle.vlt_kinds_types.specs.declared.names.globals.Entity.TheVariants.{ASet, AType, AFunction}
use Rattle.vlt_kinds_types.specs.Names.Refusals.{refuse_if}
use Rattle.vlt_kinds_types.specs.Files.{then_with}
use Rattle.vlt_kinds_types.specs.Kinds.{Kinds, as_function, function_named, head_named}
use Rattle.vlt_resolve_exprs.specs.Types.{is_inside}
use Rattle.vlt_resolve_exprs.specs.Scopes.{Scope}
use Rattle.vlt_resolve_exprs.specs.Exprs.{expr_place, type_of, expr_refused, number_of}
use Rattle.vlt_resolve_exprs.specs.Operands.{core_operands}
use Rattle.vlt_resolve_exprs.specs.Targets.{Target}
use Rattle.vlt_resolve_calls.specs.Calls.{same_length, same_kind, same_shape, takes_kind, takes_shape, Pair, key_pairs, keys_handed, fitting_pairs, argument_pairs, call_pairs, caller_key, keys_fit, argument_misfit, argument_refused, arguments_refused, Use, dropped, given, has_fresh, dropped_refused, result_fits, is_same, target_fits, use_refused, count_refused, matching_refused, param_types, paired_refused, full_call_refused, head_refused, callee_refused, call_refused, own_key, fresh_key, keys_given, head_form, callee_form, core_call}
use Rattle.vlt_link_laws.specs.Moves.Sees.{Sees, IsHeadIn, moved_scope}
use Rattle.vlt_link_laws.proofs.OfMoves.Empty.{cons_not_nil, no_left, no_right, none_of_both}
use Rattle.vlt_link_laws.proofs.OfMoves.Exprs.{expr_moves, operand_core}

-- ---- keys of types stay

pub same_args_of : (m : Moves) (ty : Ty) → args_of (moved_ty m ty) ≡ args_of ty
same_args_of m int = refl
same_args_of m bool = refl
same_args_of m (tracked k t args) = refl
same_args_of m (owning s t args) = refl
same_args_of m (guarded k t args) = refl
same_args_of m (variant t args) = refl
same_args_of m (owning_variant t args) = refl

pub same_keys_of : (m : Moves) (ty : Ty) → keys_of_ty (moved_ty m ty) ≡ keys_of_ty ty
same_keys_of m int = refl
same_keys_of m bool = refl
same_keys_of m (tracked k t args) = refl
same_keys_of m (owning s t args) = refl
same_keys_of m (guarded k t args) = refl
same_keys_of m (variant t args) = refl
same_keys_of m (owning_variant t args) = refl

same_own_key : (m : Moves) (ty : Ty) → own_key (moved_ty m ty) ≡ own_key ty
same_own_key m int = refl
same_own_key m bool = refl
same_own_key m (tracked k t args) = refl
same_own_key m (owning s t args) = refl
same_own_key m (guarded k t args) = refl
same_own_key m (variant t args) = refl
same_own_key m (owning_variant t args) = refl

module _ (m : Moves) where
  abbrev pub moved_target : Target → Target
  moved_target t = record { ty = moved_ty m t.ty; binds = t.binds }

  abbrev pub moved_used : Use → Use
  moved_used (dropped at) = dropped at
  moved_used (given t) = given (moved_target t)

  same_fresh_key : (u : Use) → fresh_key (moved_used u) ≡ fresh_key u
  same_fresh_key (dropped at) = refl
  same_fresh_key (given t) = same_own_key m t.ty

  same_given : (pairs : List Pair) (fresh k : ℕ) (ds : List KeyDecl) → keys_given pairs fresh k (map (moved_key m) ds) ≡ keys_given pairs fresh k ds
  same_given pairs fresh k [] = refl
  same_given pairs fresh k (d ∷ ds) = ap (λ ks. unwrap_or (caller_key pairs k) fresh ∷ ks) (same_given pairs fresh (k + 1) ds)

  param_types_in : (ds : List VarDecl) → map (λ d. d.ty) (map (moved_var m) ds) ≡ map (moved_ty m) (map (λ d. d.ty) ds)
  param_types_in [] = refl
  param_types_in (d ∷ ds) = ap (λ ts. moved_ty m d.ty ∷ ts) (param_types_in ds)

  same_owns_result : (o : Option Ty) → owns (option_map (moved_ty m) o) ≡ owns o
  same_owns_result None = refl
  same_owns_result (Some ty) = same_owner m ty

  -- ---- shapes and pairs

  module _ (apart : (t u : ℕ) → (m.types t == m.types u) ≡ (t == u)) where
    same_kind_moves : (t : ℕ) (x : List ℕ) (u : ℕ) (y : List ℕ) → same_kind (m.types t) x (m.types u) y ≡ same_kind t x u y
    same_kind_moves t x u y = ap (λ e. e && same_length x y) (apart t u)

    pub shape_same : (w t : Ty) → same_shape (moved_ty m w) (moved_ty m t) ≡ same_shape w t
    unfolding same_shape
    shape_same int int = refl
    shape_same bool bool = refl
    shape_same (tracked k t x) (tracked l u y) = same_kind_moves t x u y
    shape_same (owning r t x) (owning s u y) = ap (λ e. (is_inside r s && is_inside s r) && e) (same_kind_moves t x u y)
    shape_same (guarded k t x) (guarded l u y) = same_kind_moves t x u y
    shape_same (variant t x) (variant u y) = same_kind_moves t x u y
    shape_same (owning_variant t x) (owning_variant u y) = same_kind_moves t x u y
    shape_same w t = refl

    kind_same : (S : States) (t : ℕ) (x : List ℕ) (got : Ty) → takes_kind S (m.types t) x (moved_ty m got) ≡ takes_kind S t x got
    unfolding takes_kind
    kind_same S t x (owning r u y) = ap (λ e. is_inside r S && e) (same_kind_moves t x u y)
    kind_same S t x (tracked k u y) = same_kind_moves t x u y
    kind_same S t x got = refl

    pub takes_same : (w t : Ty) → takes_shape (moved_ty m w) (moved_ty m t) ≡ takes_shape w t
    unfolding takes_shape
    takes_same (owning S t x) got = kind_same S t x got
    takes_same int got = shape_same int got
    takes_same bool got = shape_same bool got
    takes_same (tracked k t x) got = shape_same (tracked k t x) got
    takes_same (guarded k t x) got = shape_same (guarded k t x) got
    takes_same (variant t x) got = shape_same (variant t x) got
    takes_same (owning_variant t x) got = shape_same (owning_variant t x) got

    handed_same : (w t : Ty) → keys_handed (moved_ty m w) (moved_ty m t) ≡ keys_handed w t
    handed_same (owning S u x) got = same_args_of m got
    handed_same int got = same_keys_of m got
    handed_same bool got = same_keys_of m got
    handed_same (tracked k u x) got = same_keys_of m got
    handed_same (guarded k u x) got = same_keys_of m got
    handed_same (variant u x) got = same_keys_of m got
    handed_same (owning_variant u x) got = same_keys_of m got

    pairs_same : (w t : Ty) → fitting_pairs (moved_ty m w) (moved_ty m t) ≡ fitting_pairs w t
    unfolding fitting_pairs
    pairs_same w t =
        ap₂ (λ (x : Bool) ps. if x then ps else []) (takes_same w t) (ap₂ key_pairs (same_keys_of m w) (handed_same w t))

    argument_same : (w : Ty) (o : Option Ty) → argument_pairs (moved_ty m w) (option_map (moved_ty m) o) ≡ argument_pairs w o
    unfolding argument_pairs
    argument_same w None = refl
    argument_same w (Some t) = pairs_same w t

    misfit_same : (w : Ty) (o : Option Ty) (at : ℕ) → argument_misfit (moved_ty m w) (option_map (moved_ty m) o) at ≡ argument_misfit w o at
    unfolding argument_misfit
    misfit_same w None at = refl
    misfit_same w (Some t) at = ap (λ e. refuse_if (not e) rule.WRONG_TYPE at) (takes_same w t)

    result_same : (pairs : List Pair) (o : Option Ty) (ty : Ty) → result_fits pairs (option_map (moved_ty m) o) (moved_ty m ty) ≡ result_fits pairs o ty
    result_same pairs None ty = refl
    result_same pairs (Some r) ty =
        ap₂ (λ x y. x && y) (shape_same r ty) (ap (keys_fit pairs) (ap₂ key_pairs (same_keys_of m r) (same_keys_of m ty)))

  module _ (a b : Kinds) (sees : Sees m a b) where
    -- ---- the callee

    pub record Callee (n : Name) : Type 0 where
      pub number : ℕ
      pub named : function_named a n ≡ Some number
      pub named_there : function_named b n ≡ Some (m.functions number)
      pub head : Func
      pub is : head_named a n ≡ Some head
      pub known : IsHeadIn m b number head
      pub is_there : head_named b n ≡ Some known.head

    function_moves : (n : Name) (f : ℕ) → function_named a n ≡ Some f → function_named b n ≡ Some (m.functions f)
    function_moves n f e = by (global_in a.file.globals n.text) refl e
      where
        by : (o : Option Entity) → global_in a.file.globals n.text ≡ o → as_function o ≡ Some f → function_named b n ≡ Some (m.functions f)
        by None at e = absurd (none-some f e)
        by (Some (ASet i)) at e = absurd (none-some f e)
        by (Some (AType u)) at e = absurd (none-some f e)
        by (Some (AFunction g)) at e = ap as_function (sees.names n.text (AFunction g) at) ∙ ap (option_map m.functions) e

    callee : (n : Name) (h : Func) → head_named a n ≡ Some h → Callee n
    callee n h e = by (function_named a n) refl e
      where
        by : (o : Option ℕ) → function_named a n ≡ o → then_with o (slice_get a.heads) ≡ Some h → Callee n
        by None at e = absurd (none-some h e)
        by (Some f) at e =
            let known = sees.heads f h e in
            record {
              number = f;
              named = at;
              named_there = function_moves n f at;
              head = h;
              is = ap (λ o. then_with o (slice_get a.heads)) at ∙ e;
              known = known;
              is_there = ap (λ o. then_with o (slice_get b.heads)) (function_moves n f at) ∙ known.there;
            }

    module _ (scope : Scope) where
      -- ---- arguments

      args_fine : (ws : List Ty) (es : List s.Expr) → arguments_refused a scope ws es ≡ [] → arguments_refused b (moved_scope m scope) (map (moved_ty m) ws) es ≡ []
      unfolding argument_refused
      args_fine [] es none = refl
      args_fine (w ∷ ws) [] none = refl
      args_fine (w ∷ ws) (e ∷ es) none =
          let here = no_left (argument_refused a scope w e) _ none in
          let x = expr_moves m a b sees scope e (no_left (expr_refused a scope e) _ here) in
          none_of_both _ _
          (none_of_both _ _ x.fine (ap (λ o. argument_misfit (moved_ty m w) o (expr_place e)) x.type ∙ (misfit_same sees.apart w (type_of a scope e) (expr_place e) ∙ no_right (expr_refused a scope e) _ here)))
          (args_fine ws es (no_right (argument_refused a scope w e) _ none))

      args_paired : (ws : List Ty) (es : List s.Expr) → arguments_refused a scope ws es ≡ [] → call_pairs b (moved_scope m scope) es (map (moved_ty m) ws) ≡ call_pairs a scope es ws
      unfolding argument_refused
      args_paired [] [] none = refl
      args_paired [] (e ∷ es) none = refl
      args_paired (w ∷ ws) [] none = refl
      args_paired (w ∷ ws) (e ∷ es) none =
          let here = no_left (argument_refused a scope w e) _ none in
          let x = expr_moves m a b sees scope e (no_left (expr_refused a scope e) _ here) in
          ap₂ (λ x y. x ++ y) (ap (argument_pairs (moved_ty m w)) x.type ∙ argument_same sees.apart w (type_of a scope e)) (args_paired ws es (no_right (argument_refused a scope w e) _ none))

      args_core : (ws : List Ty) (es : List s.Expr) → arguments_refused a scope ws es ≡ [] → core_operands b (moved_scope m scope) es (map (moved_ty m) ws) ≡ core_operands a scope es ws
      unfolding argument_refused
      args_core [] [] none = refl
      args_core [] (e ∷ es) none = refl
      args_core (w ∷ ws) [] none = refl
      args_core (w ∷ ws) (e ∷ es) none =
          ap₂ (λ x xs. x ∷ xs) (operand_core m a b sees scope w e (no_left (expr_refused a scope e) _ (no_left (argument_refused a scope w e) _ none)))
          (args_core ws es (no_right (argument_refused a scope w e) _ none))

      -- ---- what a call gives

      module _ (f : ℕ) (g : Func) (k : IsHeadIn m b f g) where
        types_move : param_types k.head ≡ map (moved_ty m) (param_types g)
        types_move = ap (map (λ d. d.ty)) k.vars ∙ param_types_in g.vars

        fits_same : (pairs : List Pair) (t : Target) → target_fits k.head pairs (moved_target t) ≡ target_fits g pairs t
        unfolding target_fits
        fits_same pairs t =
            ap₂ (λ (es : List Entry) (o : Option Ty). is_same (has_fresh es) t.binds && result_fits pairs o (moved_ty m t.ty)) k.clause k.result ∙
            ap (λ x. is_same (has_fresh g.clause) t.binds && x) (result_same sees.apart pairs g.result t.ty)

        use_same : (pairs : List Pair) (u : Use) (name : ℕ) → use_refused k.head pairs (moved_used u) name ≡ use_refused g pairs u name
        unfolding use_refused dropped_refused
        use_same pairs (dropped at) name =
            ap₂ (λ (o : Option Ty) (es : List Entry). refuse_if (owns o || has_fresh es) rule.DROPPED_RESULT at) k.result k.clause ∙
            ap (λ x. refuse_if (x || has_fresh g.clause) rule.DROPPED_RESULT at) (same_owns_result g.result)
        use_same pairs (given t) name = ap (λ x. refuse_if (not x) rule.WRONG_TYPE name) (fits_same pairs t)

        full_fine : (u : Use) (c : s.Call) → full_call_refused a scope g u c ≡ [] → full_call_refused b (moved_scope m scope) k.head (moved_used u) c ≡ []
        unfolding full_call_refused paired_refused
        full_fine u c none =
            let name = c.function.at.from in
            let pairs = call_pairs a scope c.arguments (param_types g) in
            let front = no_left (matching_refused pairs g.clause name ++ use_refused g pairs u name) _ none in
            let args = no_right (matching_refused pairs g.clause name ++ use_refused g pairs u name) _ none in
            let same_pairs : call_pairs b (moved_scope m scope) c.arguments (param_types k.head) ≡ pairs = ap (call_pairs b (moved_scope m scope) c.arguments) types_move ∙ args_paired (param_types g) c.arguments args in
            none_of_both _ _
            (ap (λ ps. matching_refused ps k.head.clause name ++ use_refused k.head ps (moved_used u) name) same_pairs ∙
            (ap₂ (λ es x. matching_refused pairs es name ++ x) k.clause (use_same pairs u name) ∙ front))
            (ap (λ ws. arguments_refused b (moved_scope m scope) ws c.arguments) types_move ∙ args_fine (param_types g) c.arguments args)

        full_none : (u : Use) (c : s.Call) → head_refused a scope g u c ≡ [] → (full_call_refused a scope g u c ≡ []) × ((length (param_types g) == length c.arguments) ≡ true)
        unfolding head_refused count_refused
        full_none u c none = by (length (param_types g) == length c.arguments) refl none
          where
            wrong : (u : Use) → count_refused g u c.function.at.from ≡ [] → ⊥
            wrong (dropped at) e = cons_not_nil _ [] e
            wrong (given t) e = cons_not_nil _ [] (no_right (refuse_if (not (target_fits g [] t)) rule.WRONG_TYPE c.function.at.from) _ e)

            by : (x : Bool) → (length (param_types g) == length c.arguments) ≡ x → (if x then full_call_refused a scope g u c else count_refused g u c.function.at.from) ≡ [] →
                (full_call_refused a scope g u c ≡ []) × ((length (param_types g) == length c.arguments) ≡ true)
            by true is none = (none, is)
            by false is none = absurd (wrong u none)

        head_fine : (u : Use) (c : s.Call) → head_refused a scope g u c ≡ [] → head_refused b (moved_scope m scope) k.head (moved_used u) c ≡ []
        unfolding head_refused
        head_fine u c none =
            let both = full_none u c none in
            ap (λ x. if x == length c.arguments then full_call_refused b (moved_scope m scope) k.head (moved_used u) c else count_refused k.head (moved_used u) c.function.at.from)
            (ap length types_move ∙ length-map (param_types g) (moved_ty m)) ∙
            (ap (λ (x : Bool). if x then full_call_refused b (moved_scope m scope) k.head (moved_used u) c else count_refused k.head (moved_used u) c.function.at.from) both.1 ∙
            full_fine u c both.0)

        head_core : (u : Use) (target : Option ℕ) (c : s.Call) → head_refused a scope g u c ≡ [] →
            head_form b (moved_scope m scope) k.head (m.functions f) (moved_used u) target c ≡ moved_form m (head_form a scope g f u target c)
        unfolding head_form full_call_refused
        head_core u target c none =
            let args = no_right (paired_refused g (call_pairs a scope c.arguments (param_types g)) u c.function.at.from) _ (full_none u c none).0 in
            ap₂ (call (m.functions f) target)
            (ap₂ (λ ps ds. keys_given ps (fresh_key (moved_used u)) 0 ds) (ap (call_pairs b (moved_scope m scope) c.arguments) types_move ∙ args_paired (param_types g) c.arguments args) k.keys ∙
            (same_given (call_pairs a scope c.arguments (param_types g)) (fresh_key (moved_used u)) 0 g.keys ∙
            ap (λ x. keys_given (call_pairs a scope c.arguments (param_types g)) x 0 g.keys) (same_fresh_key u)))
            (ap (core_operands b (moved_scope m scope) c.arguments) types_move ∙ args_core (param_types g) c.arguments args)

      called : (u : Use) (c : s.Call) → call_refused a scope u c ≡ [] → Callee c.function
      unfolding call_refused
      called u c none = by (head_named a c.function) refl none
        where
          by : (o : Option Func) → head_named a c.function ≡ o → callee_refused a scope o u c ≡ [] → Callee c.function
          by None e none = absurd (cons_not_nil _ [] none)
          by (Some h) e none = callee c.function h e

      head_none : (u : Use) (c : s.Call) (k : Callee c.function) → call_refused a scope u c ≡ [] → head_refused a scope k.head u c ≡ []
      unfolding call_refused
      head_none u c k none = sym (ap (λ o. callee_refused a scope o u c) k.is) ∙ none

      pub call_fine : (u : Use) (c : s.Call) → call_refused a scope u c ≡ [] → call_refused b (moved_scope m scope) (moved_used u) c ≡ []
      unfolding call_refused
      call_fine u c none =
          let k = called u c none in
          ap (λ o. callee_refused b (moved_scope m scope) o (moved_used u) c) k.is_there ∙ head_fine k.number k.head k.known u c (head_none u c k none)

      pub call_core : (u : Use) (target : Option ℕ) (c : s.Call) → call_refused a scope u c ≡ [] →
          core_call b (moved_scope m scope) (moved_used u) target c ≡ moved_form m (core_call a scope u target c)
      unfolding core_call
      call_core u target c none =
          let k = called u c none in
          ap₂ (λ o f. callee_form b (moved_scope m scope) o (number_of f) (moved_used u) target c) k.is_there k.named_there ∙
          (head_core k.number k.head k.known u target c (head_none u c k none) ∙
          sym (ap₂ (λ o f. moved_form m (callee_form a scope o (number_of f) u target c)) k.is k.named))
