-- A function whose rows break no rule on names and types knows what its rows look at.
use Rattle.std.proofs.Common.{◌≡◌, ℕ, zero, suc, nat_lt, ◌==◌, Bool, true, false, true≢false, not, ◌&&◌, if◌then◌else◌, List, [], ◌∷◌, ◌++◌, length, Option, Some, None, slice_get, option_map, refl, sym, ap, ap₂, subst, ◌∙◌, eqb-true, ◌<◌, arith, ltb-true}
use Rattle.std.specs.List.{flat_map}
use Rattle.vlt_core.specs.Core as core
use Rattle.vlt_core.specs.Core.{Ty, int, bool, tracked, owning, guarded, variant, owning_variant, TypeDecl, an_abstract, a_struct, a_variant, VarDecl, KeyDecl, Expr, number, truth, var, field, unary, binary, Operand, pure, move, pack, Simple, Form, Block, Stmts, Arms, Func, Program}
use Rattle.vlt_core.specs.Lookups.{var_type, tracked_in, variant_in, variant_of, key_type_in, is_owning}
use Rattle.vlt_core.specs.Types.{decl_of, is_struct, is_variant, same_object, same_keys}
use Rattle.vlt_core.specs.KindedHeads.{Rules, unless, shape_broken, own_typings, reference_broken, type_broken, key_broken, listed_broken, new_keys, has}
use Rattle.vlt_core.specs.KindedScopes.{Ids, Around, at_block_start, left_behind, use_broken, own_key, binding_broken, target_broken}
use Rattle.vlt_core.specs.KindedOperands.{touch_broken, field_type, misfit, unless_owning, type_of_expr, expr_broken, value_broken, operand_broken, operands_broken, left_broken}
use Rattle.vlt_core.specs.KindedStatements.{tracked_broken, tracked_type, struct_broken, droppable_broken, is_guarded_type, is_tracked_type, wanted_of, guarded_object, objects_apart, simple_broken, made_broken, made_types, opened_broken, owning_field_types, swap_broken, keys_differ, guard_key}
use Rattle.vlt_core.specs.KindedCalls.{target_alone_broken, gives_other_keys, argument_type, argument_broken_by, arguments_broken, call_broken, call_target_broken, new_result_broken, returned_broken, return_broken}
use Rattle.vlt_core.specs.KindedBodies.{row_broken, form_rows, block_rows, stmts_rows, arms_rows, ids_following, ids_following_block, with_vars, with_focus, in_loop, in_focus, ends, body_rows, list_broken, focus_broken, first_ids}
use Rattle.vlt_core.specs.declared.rules.TheConstants as rule
use Rattle.vlt_core_laws.proofs.Unbroken.{filled_not_empty, some_not_none, some_same, left_empty, right_empty, unless_holds, each_left, each_right}
use Rattle.vlt_core_laws.specs.Unbroken.{EachEmpty}
use Rattle.vlt_core_laws.proofs.Headed.{each_at}
use Rattle.vlt_link_laws.specs.CoreMoves.Knows.{IsType, IsStruct, IsVariant, IsFunction, OfReference, OfVariant, KnowsObject, KnowsExpr, KnowsOperand, KnowsOperands, KnowsSimple, KnowsReturned, KnowsForm, KnowsBlock, KnowsStmts, KnowsArms, KnowsBody}
use Rattle.vlt_link_laws.proofs.OfCoreMoves.Drops.{struct_there, variant_there}

-- a reference to an object of a struct, where a variable's type is one
reference_from : (p : Program) (o : Option Ty) → ((k t : ℕ) (args : List ℕ) → o ≡ Some (tracked k t args) → IsStruct p t) → OfReference p (tracked_in o)
reference_from p None go = tt
reference_from p (Some int) go = tt
reference_from p (Some bool) go = tt
reference_from p (Some (tracked k t args)) go = go k t args refl
reference_from p (Some (owning s t args)) go = tt
reference_from p (Some (guarded k t args)) go = tt
reference_from p (Some (variant t args)) go = tt
reference_from p (Some (owning_variant t args)) go = tt

and_first : (x y : Bool) → (x && y) ≡ true → x ≡ true
and_first true y e = refl
and_first false y e = e

not_broken : (b : Bool) (r : ℕ) → unless b r ≡ [] → b ≡ true
not_broken b r e = unless_holds b r e

below : {A : Type 0} (xs : List A) (i : ℕ) → i < length xs → (x : A) × (slice_get xs i ≡ Some x)
below [] i l = absurd (omega (arith, l))
below (x ∷ xs) zero l = (x, refl)
below (x ∷ xs) (suc i) l = below xs i (omega (arith, l))

used : (f : Func) (ids : Ids) (v : ℕ) → use_broken f ids v ≡ [] → (ty : Ty) × (var_type f v ≡ Some ty)
used f ids v none = by (nat_lt v (length f.vars)) refl none
  where
    by : (x : Bool) → nat_lt v (length f.vars) ≡ x → (if x then unless (has ids.vars v) rule.NAME_TAKEN else rule.UNKNOWN_NAME ∷ []) ≡ [] → (ty : Ty) × (var_type f v ≡ Some ty)
    by true e none = let d = below f.vars v (ltb-true v (length f.vars) e) in (d.0.ty, ap (option_map (λ d. d.ty)) d.1)
    by false e none = absurd (filled_not_empty rule.UNKNOWN_NAME [] none)

guarded_as : (ty : Ty) → is_guarded_type ty ≡ true → (k : ℕ) × (t : ℕ) × (args : List ℕ) × (ty ≡ guarded k t args)
guarded_as (guarded k t args) e = (k, t, args, refl)
guarded_as int e = absurd (true≢false (sym e))
guarded_as bool e = absurd (true≢false (sym e))
guarded_as (tracked k t args) e = absurd (true≢false (sym e))
guarded_as (owning s t args) e = absurd (true≢false (sym e))
guarded_as (variant t args) e = absurd (true≢false (sym e))
guarded_as (owning_variant t args) e = absurd (true≢false (sym e))

module _ (p : Program) (f : Func) (types : flat_map (λ d. type_broken p f d.ty) f.vars ≡ []) where
  -- ---- the types of variables

  typed : (v : ℕ) (ty : Ty) → var_type f v ≡ Some ty → type_broken p f ty ≡ []
  typed v ty e = by (slice_get f.vars v) refl e
    where
      by : (o : Option VarDecl) → slice_get f.vars v ≡ o → option_map (λ d. d.ty) o ≡ Some ty → type_broken p f ty ≡ []
      by None at e = absurd (some_not_none ty (sym e))
      by (Some d) at e = subst (λ ty. type_broken p f ty ≡ []) (some_same d.ty ty e) (each_at (λ d. type_broken p f d.ty) f.vars v d types at)

  -- a reference's object is of a declared type
  tracked_declared : (k t : ℕ) (args : List ℕ) → type_broken p f (tracked k t args) ≡ [] → IsType p t
  tracked_declared k t args e = by (decl_of p t) refl
    where
      by : (o : Option TypeDecl) → decl_of p t ≡ o → IsType p t
      by None at =
          let h = rw at at e in
          absurd (filled_not_empty rule.NOT_A_TYPE [] (right_empty _ (rule.NOT_A_TYPE ∷ []) (left_empty _ (flat_map (reference_broken p f) (own_typings (tracked k t args))) h)))
      by (Some d) at = record { decl = d; is = at }

  guarded_struct : (k t : ℕ) (args : List ℕ) → type_broken p f (guarded k t args) ≡ [] → IsStruct p t
  guarded_struct k t args e = by (decl_of p t) refl
    where
      by : (o : Option TypeDecl) → decl_of p t ≡ o → IsStruct p t
      by None at =
          let h = rw at at e in
          absurd (filled_not_empty rule.NOT_A_TYPE [] (right_empty _ (rule.NOT_A_TYPE ∷ []) (left_empty _ (flat_map (reference_broken p f) (own_typings (guarded k t args))) h)))
      by (Some d) at =
          let h = rw at at e in
          struct_there p t (unless_holds (is_struct (decl_of p t)) rule.WRONG_PREFIX
          (right_empty _ (shape_broken p (guarded k t args)) (left_empty _ _ (right_empty _ _ (left_empty _ (flat_map (reference_broken p f) (own_typings (guarded k t args))) h)))))

  variant_declared : (t : ℕ) (args : List ℕ) → type_broken p f (variant t args) ≡ [] → IsVariant p t
  variant_declared t args e = by (decl_of p t) refl
    where
      by : (o : Option TypeDecl) → decl_of p t ≡ o → IsVariant p t
      by None at =
          let h = rw at at e in
          absurd (filled_not_empty rule.NOT_A_TYPE [] (right_empty _ (rule.NOT_A_TYPE ∷ []) (left_empty _ (flat_map (reference_broken p f) (own_typings (variant t args))) h)))
      by (Some d) at =
          let h = rw at at e in
          let shape = right_empty _ (shape_broken p (variant t args)) (left_empty _ _ (right_empty _ _ (left_empty _ (flat_map (reference_broken p f) (own_typings (variant t args))) h))) in
          variant_there p t (unless_holds (is_variant (decl_of p t)) rule.BARE_OBJECT (left_empty (unless (is_variant (decl_of p t)) rule.BARE_OBJECT) _ shape))

  owning_variant_declared : (t : ℕ) (args : List ℕ) → type_broken p f (owning_variant t args) ≡ [] → IsVariant p t
  owning_variant_declared t args e = by (decl_of p t) refl
    where
      by : (o : Option TypeDecl) → decl_of p t ≡ o → IsVariant p t
      by None at =
          let h = rw at at e in
          absurd (filled_not_empty rule.NOT_A_TYPE [] (right_empty _ (rule.NOT_A_TYPE ∷ []) (left_empty _ (flat_map (reference_broken p f) (own_typings (owning_variant t args))) h)))
      by (Some d) at =
          let h = rw at at e in
          let shape = right_empty _ (shape_broken p (owning_variant t args)) (left_empty _ _ (right_empty _ _ (left_empty _ (flat_map (reference_broken p f) (own_typings (owning_variant t args))) h))) in
          variant_there p t (and_first (is_variant (decl_of p t)) _ (unless_holds _ rule.WRONG_OWNERSHIP shape))

  of_variant : (v : ℕ) → OfVariant p (variant_of f v)
  of_variant v = by (var_type f v) refl
    where
      by : (o : Option Ty) → var_type f v ≡ o → OfVariant p (variant_in o)
      by None e = tt
      by (Some int) e = tt
      by (Some bool) e = tt
      by (Some (tracked k t args)) e = tt
      by (Some (owning s t args)) e = tt
      by (Some (guarded k t args)) e = tt
      by (Some (variant t args)) e = variant_declared t args (typed v (variant t args) e)
      by (Some (owning_variant t args)) e = owning_variant_declared t args (typed v (owning_variant t args) e)

  -- ---- references

  -- a field that may be touched is a struct's
  touched : (ids : Ids) (x i : ℕ) → touch_broken p f ids x i ≡ [] → KnowsObject p f x
  touched ids x i none = reference_from p (var_type f x) (λ k t args e. by k t args e (tracked_declared k t args (typed x (tracked k t args) e)).decl (tracked_declared k t args (typed x (tracked k t args) e)).is)
    where
      by : (k t : ℕ) (args : List ℕ) → var_type f x ≡ Some (tracked k t args) → (d : TypeDecl) → decl_of p t ≡ Some d → IsStruct p t
      by k t args e (a_struct d) at = record { decl = d; is = at }
      by k t args e (an_abstract n j) at =
          let h = rw e at (right_empty (use_broken f ids x) _ none) in
          let g = rw at at h in
          absurd (filled_not_empty rule.UNKNOWN_NAME [] g)
      by k t args e (a_variant d) at =
          let h = rw e at (right_empty (use_broken f ids x) _ none) in
          let g = rw at at h in
          absurd (filled_not_empty rule.UNKNOWN_NAME [] g)

  droppable : (x : ℕ) → droppable_broken p f x ≡ [] → KnowsObject p f x
  droppable x none = reference_from p (var_type f x) (λ k t args e. by k t args e (tracked_declared k t args (typed x (tracked k t args) e)))
    where
      by : (k t : ℕ) (args : List ℕ) → var_type f x ≡ Some (tracked k t args) → IsType p t → IsStruct p t
      by k t args e declared =
          let h = rw e at none in
          let g = rw declared.is at h in
          struct_there p t (ap is_struct declared.is ∙ and_first (is_struct (Some declared.decl)) _ (unless_holds _ rule.WRONG_RELEASE g))

  -- a struct is wanted of a reference's object
  of_struct : (r x : ℕ) (go : Program → (type : ℕ) → List ℕ → Rules) → struct_broken p f r x go ≡ [] → KnowsObject p f x
  of_struct r x go none = reference_from p (var_type f x) (λ k t args e. by k t args e (tracked_declared k t args (typed x (tracked k t args) e)).decl (tracked_declared k t args (typed x (tracked k t args) e)).is)
    where
      by : (k t : ℕ) (args : List ℕ) → var_type f x ≡ Some (tracked k t args) → (d : TypeDecl) → decl_of p t ≡ Some d → IsStruct p t
      by k t args e (a_struct d) at = record { decl = d; is = at }
      by k t args e (an_abstract n j) at = let h = rw e at none in let g = rw at at h in absurd (filled_not_empty r [] g)
      by k t args e (a_variant d) at = let h = rw e at none in let g = rw at at h in absurd (filled_not_empty r [] g)

  swapped : (x i v : ℕ) → swap_broken p f x i v ≡ [] → KnowsObject p f x
  swapped x i v none = reference_from p (var_type f x) (λ k t args e. by k t args e (tracked_declared k t args (typed x (tracked k t args) e)).decl (tracked_declared k t args (typed x (tracked k t args) e)).is)
    where
      by : (k t : ℕ) (args : List ℕ) → var_type f x ≡ Some (tracked k t args) → (d : TypeDecl) → decl_of p t ≡ Some d → IsStruct p t
      by k t args e (a_struct d) at = record { decl = d; is = at }
      by k t args e (an_abstract n j) at = let h = rw e at none in let g = rw at at h in absurd (filled_not_empty rule.WRONG_SWAP [] g)
      by k t args e (a_variant d) at = let h = rw e at none in let g = rw at at h in absurd (filled_not_empty rule.WRONG_SWAP [] g)

  -- ---- expressions and operands

  module _ (ids : Ids) where
    knows_expr : (e : Expr) → expr_broken p f ids e ≡ [] → KnowsExpr p f e
    knows_expr (number z) none = tt
    knows_expr (truth b) none = tt
    knows_expr (var v) none = tt
    knows_expr (field x i) none = touched ids x i (left_empty (touch_broken p f ids x i) _ none)
    knows_expr (unary op a) none = knows_expr a (left_empty (expr_broken p f ids a) _ none)
    knows_expr (binary op a b) none =
        let front = left_empty (expr_broken p f ids a ++ expr_broken p f ids b) _ (left_empty (expr_broken p f ids a ++ expr_broken p f ids b ++ left_broken _ _) _ none) in
        (knows_expr a (left_empty (expr_broken p f ids a) _ front), knows_expr b (right_empty (expr_broken p f ids a) _ front))

    knows_operand : (w : Option Ty) (o : Operand) → operand_broken p f ids w o ≡ [] → KnowsOperand p f o
    knows_operand w (pure e) none = knows_expr e (left_empty (expr_broken p f ids e) _ none)
    knows_operand w (move v) none = tt
    knows_operand w (pack x s) none = tt

    knows_operands : (ws : List Ty) (os : List Operand) → operands_broken p f ids ws os ≡ [] → KnowsOperands p f os
    knows_operands ws [] none = tt
    knows_operands [] (o ∷ os) none = (knows_operand None o (left_empty (operand_broken p f ids None o) _ none), knows_operands [] os (right_empty (operand_broken p f ids None o) _ none))
    knows_operands (w ∷ ws) (o ∷ os) none = (knows_operand (Some w) o (left_empty (operand_broken p f ids (Some w) o) _ none), knows_operands ws os (right_empty (operand_broken p f ids (Some w) o) _ none))

    -- ---- statements without blocks

    knows_simple : (s : Simple) → simple_broken p f ids s ≡ [] → KnowsSimple p f s
    knows_simple (core.set v e) none = knows_expr e (left_empty (expr_broken p f ids e) _ (left_empty _ (target_broken f ids v) none))
    knows_simple (core.input v more) none = tt
    knows_simple (core.print e) none = knows_expr e (left_empty (expr_broken p f ids e) _ none)
    knows_simple (core.put x i e) none =
        let front = left_empty (expr_broken p f ids e ++ touch_broken p f ids x i) _ (left_empty _ (misfit (unless_owning (field_type p f x i)) (type_of_expr p f e)) none) in
        (knows_expr e (left_empty (expr_broken p f ids e) _ front), touched ids x i (right_empty (expr_broken p f ids e) _ front))
    knows_simple (core.make x args) none =
        knows_operands (made_types p (var_type f x)) args (right_empty (made_broken p (length args) (var_type f x)) _ (left_empty _ (binding_broken f ids (own_key f x) x) none))
    knows_simple (core.become x state) none = tt
    knows_simple (core.release x) none = droppable x (right_empty (tracked_broken f ids rule.WRONG_RELEASE x) _ none)
    knows_simple (core.drop v) none = tt
    knows_simple (core.own v value) none =
        knows_operand _ value (right_empty (wanted_of (var_type f v) is_owning) _ (left_empty _ (target_broken f ids v) none))
    knows_simple (core.unpack x v) none = tt
    knows_simple (core.build v c args) none =
        (knows_operands _ args (right_empty _ (operands_broken p f ids _ args) (left_empty _ (target_broken f ids v) none)), of_variant v)
    knows_simple (core.swap x i v) none = swapped x i v (right_empty (tracked_broken f ids rule.WRONG_SWAP x ++ use_broken f ids v) _ none)
    knows_simple (core.open_into x vs) none =
        of_struct rule.WRONG_RELEASE x (λ p t args. unless (length (owning_field_types p t args) == length vs) rule.WRONG_COUNT) (right_empty (tracked_broken f ids rule.WRONG_RELEASE x) _ (left_empty _ (opened_broken p f ids _ vs) none))
    knows_simple (core.adopt y x r) none =
        droppable x (right_empty (tracked_broken f ids rule.WRONG_TYPE x ++ tracked_broken f ids rule.WRONG_TYPE r) _
        (left_empty _ (wanted_of (var_type f y) is_guarded_type) (left_empty _ (objects_apart (guarded_object (var_type f y)) (tracked_type (var_type f x)))
        (left_empty _ (keys_differ (guard_key (var_type f y)) (own_key f r)) (left_empty _ (target_broken f ids y) none)))))

    -- ---- calls and returns

    argument : (w : Option Ty) (o : Operand) → argument_broken_by p f ids w o ≡ [] → KnowsOperand p f o
    argument w o none = by (gives_other_keys w (argument_type p f o)) none
      where
        by : (x : Bool) → (if x then rule.TWO_CALLER_KEYS ∷ operand_broken p f ids None o else operand_broken p f ids w o) ≡ [] → KnowsOperand p f o
        by true none = absurd (filled_not_empty rule.TWO_CALLER_KEYS (operand_broken p f ids None o) none)
        by false none = knows_operand w o none

    arguments : (ws : List (Option Ty)) (os : List Operand) → arguments_broken p f ids ws os ≡ [] → KnowsOperands p f os
    arguments ws [] none = tt
    arguments [] (o ∷ os) none = (argument None o (left_empty (argument_broken_by p f ids None o) _ none), arguments [] os (right_empty (argument_broken_by p f ids None o) _ none))
    arguments (w ∷ ws) (o ∷ os) none = (argument w o (left_empty (argument_broken_by p f ids w o) _ none), arguments ws os (right_empty (argument_broken_by p f ids w o) _ none))

    knows_call : (g : ℕ) (target : Option ℕ) (keys : List ℕ) (args : List Operand) → call_broken p f ids (slice_get p.fns g) target keys args ≡ [] → KnowsOperands p f args × IsFunction p g
    knows_call g target keys args none = by (slice_get p.fns g) refl none
      where
        by : (o : Option Func) → slice_get p.fns g ≡ o → call_broken p f ids o target keys args ≡ [] → KnowsOperands p f args × IsFunction p g
        by None at none = absurd (filled_not_empty rule.UNKNOWN_NAME (operands_broken p f ids [] args) (right_empty _ (rule.UNKNOWN_NAME ∷ operands_broken p f ids [] args) (left_empty _ (target_alone_broken f ids target) none)))
        by (Some h) at none =
            (arguments _ args (right_empty _ (arguments_broken p f ids _ args) (left_empty _ _ (left_empty _ (call_target_broken f ids h keys target) none))), record { func = h; is = at })

    knows_new : (t : ℕ) (args : List ℕ) (o : Operand) → new_result_broken p f ids t args o ≡ [] → KnowsOperand p f o
    knows_new t args (pure (var x)) none = tt
    knows_new t args (pure (number z)) none = tt
    knows_new t args (pure (truth b)) none = tt
    knows_new t args (pure (field x i)) none = absurd (filled_not_empty rule.WRONG_TYPE _ none)
    knows_new t args (pure (unary op e)) none = absurd (filled_not_empty rule.WRONG_TYPE _ none)
    knows_new t args (pure (binary op d e)) none = absurd (filled_not_empty rule.WRONG_TYPE _ none)
    knows_new t args (move v) none = tt
    knows_new t args (pack x s) none = tt

    knows_returned : (ty : Ty) (o : Operand) → returned_broken p f ids ty o ≡ [] → KnowsOperand p f o
    knows_returned (tracked k t args) o none = by (has (new_keys f) k) none
      where
        by : (x : Bool) → (if x then new_result_broken p f ids t args o else operand_broken p f ids (Some (tracked k t args)) o) ≡ [] → KnowsOperand p f o
        by true none = knows_new t args o none
        by false none = knows_operand (Some (tracked k t args)) o none
    knows_returned int o none = knows_operand (Some int) o none
    knows_returned bool o none = knows_operand (Some bool) o none
    knows_returned (owning s t args) o none = knows_operand (Some (owning s t args)) o none
    knows_returned (guarded k t args) o none = knows_operand (Some (guarded k t args)) o none
    knows_returned (variant t args) o none = knows_operand (Some (variant t args)) o none
    knows_returned (owning_variant t args) o none = knows_operand (Some (owning_variant t args)) o none

    knows_return : (result : Option Ty) (value : Option Operand) → return_broken p f ids result value ≡ [] → KnowsReturned p f value
    knows_return None None none = tt
    knows_return (Some ty) None none = tt
    knows_return None (Some o) none = absurd (filled_not_empty rule.WRONG_RETURN _ none)
    knows_return (Some ty) (Some o) none = knows_returned ty o none

    -- ---- foci: both references are to objects of one type, and a guard's is a struct's

    focused : (y z : ℕ) → focus_broken p f ids y z ≡ [] → KnowsObject p f z
    focused y z none =
        let apart = left_empty (use_broken f ids y ++ wanted_of (var_type f y) is_guarded_type ++ wanted_of (var_type f z) is_tracked_type ++ objects_apart (guarded_object (var_type f y)) (tracked_type (var_type f z))) _ none in
        let front = left_empty (use_broken f ids y ++ wanted_of (var_type f y) is_guarded_type) _ (left_empty (use_broken f ids y ++ wanted_of (var_type f y) is_guarded_type ++ wanted_of (var_type f z) is_tracked_type) _ apart) in
        let ty = used f ids y (left_empty (use_broken f ids y) _ front) in
        let guard_h = rw ty.1 at (right_empty (use_broken f ids y) _ front) in
        let guard = guarded_as ty.0 (unless_holds (is_guarded_type ty.0) rule.WRONG_TYPE guard_h) in
        let typed_y : var_type f y ≡ Some (guarded guard.0 guard.1 guard.2) = ty.1 ∙ ap Some guard.3 in
        let struct = guarded_struct guard.0 guard.1 guard.2 (typed y (guarded guard.0 guard.1 guard.2) typed_y) in
        let objects = right_empty (use_broken f ids y ++ wanted_of (var_type f y) is_guarded_type ++ wanted_of (var_type f z) is_tracked_type) (objects_apart (guarded_object (var_type f y)) (tracked_type (var_type f z))) apart in
        reference_from p (var_type f z) (λ k t args e.
        let h = ap₂ (λ o q. objects_apart (guarded_object o) (tracked_type q)) (sym typed_y) (sym e) ∙ objects in
        let same = and_first (guard.1 == t) (same_keys guard.2 args) (unless_holds (same_object guard.1 guard.2 t args) rule.WRONG_TYPE h) in
        subst (IsStruct p) (eqb-true guard.1 t same) struct)

  -- ---- all statements

  mutual
    knows_form : (around : Around) (ids : Ids) (s : Form) → row_broken p f around ids s ≡ [] → EachEmpty (form_rows p f around ids s) → KnowsForm p f s
    knows_form around ids (core.simple s) none rows = knows_simple ids s none
    knows_form around ids (core.call g target keys args) none rows = knows_call ids g target keys args none
    knows_form around ids (core.choose e a b) none rows = (
      knows_expr ids e (left_empty (expr_broken p f ids e) _ (left_empty (value_broken p f ids (Some bool) e) _ (left_empty (value_broken p f ids (Some bool) e ++ list_broken p f [] ids a) _ none))),
      knows_block around ids a (each_left (block_rows p f around ids a) _ rows),
      knows_block around (ids_following_block p f a ids) b (each_right (block_rows p f around ids a) _ rows),
    )
    knows_form around ids (core.loop e b) none rows =
        (knows_expr ids e (left_empty (expr_broken p f ids e) _ (left_empty (value_broken p f ids (Some bool) e) _ none)), knows_block (in_loop around) ids b rows)
    knows_form around ids (core.switch v arms end) none rows = (of_variant v, knows_arms around ids arms rows)
    knows_form around ids (core.focus y z b) none rows = (focused ids y z (left_empty (focus_broken p f ids y z) _ none), knows_block in_focus (with_focus f z ids) b rows)
    knows_form around ids (core.scope b) none rows = knows_block around ids b rows
    knows_form around ids (core.return value) none rows = knows_return ids f.result value (right_empty (unless around.returns rule.WRONG_JUMP) _ none)
    knows_form around ids (core.jump continues) none rows = tt

    knows_block : (around : Around) (ids : Ids) (b : Block) → EachEmpty (block_rows p f around ids b) → KnowsBlock p f b
    knows_block around ids (core.block ss bound end) rows = knows_stmts around (at_block_start ids) false ss rows

    knows_stmts : (around : Around) (ids : Ids) (ended : Bool) (ss : Stmts) → EachEmpty (stmts_rows p f around ids ended ss) → KnowsStmts p f ss
    knows_stmts around ids ended core.done rows = tt
    knows_stmts around ids ended (core.next at s rest) rows = (
      knows_form around ids s (right_empty (unless (not ended) rule.AFTER_END) _ rows.0) (each_left (form_rows p f around ids s) _ rows.1),
      knows_stmts around (ids_following p f s ids) (ends s) rest (each_right (form_rows p f around ids s) _ rows.1),
    )

    knows_arms : (around : Around) (ids : Ids) (arms : Arms) → EachEmpty (arms_rows p f around ids arms) → KnowsArms p f arms
    knows_arms around ids core.no_arms rows = tt
    knows_arms around ids (core.arm c vs b rest) rows = (
      knows_block around (with_vars f vs ids) b (each_left (block_rows p f around (with_vars f vs ids) b) _ rows),
      knows_arms around (left_behind ids (ids_following_block p f b (with_vars f vs ids))) rest (each_right (block_rows p f around (with_vars f vs ids) b) _ rows),
    )

  -- ---- keys

  keys_at : (n : ℕ) (ds : List KeyDecl) (k t : ℕ) → listed_broken p f n ds ≡ [] → key_type_in (slice_get ds k) ≡ Some t → IsType p t
  keys_at n [] k t none e = absurd (some_not_none t (sym e))
  keys_at n (d ∷ ds) zero t none e = by (decl_of p t) refl
    where
      by : (o : Option TypeDecl) → decl_of p t ≡ o → IsType p t
      by None at =
          let front : key_broken p f n d ≡ [] = left_empty (key_broken p f n d) _ none in
          let typed_key : d.key_type ≡ Some t = e in
          let h = rw typed_key at front in
          let g = rw at at h in
          absurd (filled_not_empty rule.NOT_A_TYPE _ g)
      by (Some d) at = record { decl = d; is = at }
  keys_at n (d ∷ ds) (suc k) t none e = keys_at (suc n) ds k t (right_empty (key_broken p f n d) _ none) e

  -- a function whose rows are empty knows what its rows look at
  pub knows_body : listed_broken p f 0 f.keys ≡ [] → f.external ≡ false → EachEmpty (body_rows p f) → KnowsBody p f
  knows_body keys body rows = record {
    keys = λ k t e. keys_at 0 f.keys k t keys e;
    body = knows_stmts (record { jumps = false; returns = true }) (first_ids p f) false f.body (subst (λ x. EachEmpty (if x then [] else stmts_rows p f (record { jumps = false; returns = true }) (first_ids p f) false f.body)) body rows);
  }
