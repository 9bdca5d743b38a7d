-- The code of operands.
use Rattle.std.proofs.Common.{◌≡◌, ℕ, ◌&&◌, Bool, true, false, if◌then◌else◌, ℤ, List, [], ◌∷◌, ◌++◌, map, Option, Some, None, slice_get, Ok, Err, refl, sym, ap, ◌∙◌, subst, ◌+◌}
use Rattle.std.proofs.lemmas.Bool.{false≢true}
use Rattle.std.proofs.lemmas.Option.{same_Some}
use Rattle.c_lower_worlds.specs.Operators.Operators.{Does}
use Rattle.vlt_ops.specs.declared.TrapKind.{TrapKind}
use Rattle.vlt_ops.specs.declared.Op.TheVariants as op
use Rattle.vlt_ops.specs.declared.Op.{Op}
use Rattle.c_lower_worlds.proofs.FrameChanges.{stands_unset}
use Rattle.vlt_ops.specs.Operator.{bool_number, row_of}
use Rattle.vlt_core.specs.Core as core
use Rattle.vlt_core.specs.Core.{Ty, pure, move, pack, Func, Program}
use Rattle.vlt_core.specs.Lookups.{var_type, is_owning, reference_of, guarded_of, permitted_in}
use Rattle.vlt_core.specs.Types.{same_ty, decl_of, with_keys}
use Rattle.vlt_core.specs.KindedHeads.{unless, when_some, states_broken}
use Rattle.vlt_core.specs.KindedScopes.{Ids, use_broken}
use Rattle.vlt_core.specs.KindedOperands.{expr_broken, type_of_expr, misfit, operand_broken, move_broken, pack_broken, fits_owning, is_owning_some, given_by, field_type, field_type_in, field_decl}
use Rattle.vlt_core.specs.declared.rules.TheConstants as rule
use Rattle.vlt_meaning.specs.World as source
use Rattle.vlt_meaning.specs.World.{one, loose, Object}
use Rattle.vlt_meaning.specs.Found.{Found, or_fault, ◌>>=◌}
use Rattle.vlt_meaning.specs.Objects.{with_owner, with_changed_object, in_states}
use Rattle.vlt_meaning.specs.Values as values
use Rattle.vlt_meaning.specs.Values.{number_of, object_of}
use Rattle.vlt_meaning.specs.Step as step
use Rattle.vlt_meaning.specs.Operands.{with_operand}
use Rattle.c_syntax.specs.View.{stmts_made}
use Rattle.c_syntax.specs.C.{Stmt}
use Rattle.c_meaning.specs.World as cw
use Rattle.c_meaning.specs.Run as crun
use Rattle.c_lower.specs.Slots.{Numbers, slot_vars, slot_sorts, vars_at, sorts_of, first_temps, object_type, sorts_of_field}
use Rattle.c_lower.specs.Expressions.{Atom, Code, expr_code, operand_code, variable}
use Rattle.c_lower.specs.Statements.{is_variant}
use Rattle.c_lower_worlds.specs.Operators.Codes.{AreUpTo}
use Rattle.c_lower_worlds.specs.Operators.Expressions.{Follows}
use Rattle.vlt_core.specs.Proper.{has_arities, is_proper, has_literals}
use Rattle.c_lower_worlds.proofs.OfOperators.Codes.{alike_self, more_more, alike_more}
use Rattle.c_lower_worlds.specs.Worlds.{Registers, c_world, blocks_of, slot_values}
use Rattle.c_lower_worlds.specs.Shapes.{types_of, HasShape}
use Rattle.c_lower_worlds.specs.Frames.{StandsFor}
use Rattle.c_lower_worlds.specs.SameStatements.{Begins}
use Rattle.c_lower_worlds.specs.Naming.Functions.{IsFunction}
use Rattle.c_lower_worlds.specs.Operands.{HaveAtoms, AreVariables, IsHanded, OperandsAreRight}
use Rattle.c_lower_worlds.specs.Same.{Same}
use Rattle.c_lower_worlds.proofs.OfNaming.FoundObjects.{IsFree, OnlyFaults, then_ok, or_faults, or_fault_ok, after_ok, after_faults, object_of_ok, object_of_faults, then_faults}
use Rattle.c_lower_worlds.proofs.BlockChanges.{held_alike}
use Rattle.c_lower_worlds.proofs.ValueCode.{Comes, slots_have, var_comes, field_comes, number_comes, one_atom, unless_is, var_has}
use Rattle.c_lower_worlds.proofs.SameLayouts.{same_laid, fits_laid, keys_laid}
use Rattle.c_lower_worlds.proofs.NumberCode.{numbers_are_right, touched, then_is}
use Rattle.c_lower_worlds.proofs.StatementLists.{both_run, then_goes, then_stops}
use Rattle.c_lower_worlds.proofs.VariableSlots.{starts}
use Rattle.c_lower_worlds.proofs.ExpressionFailures.{EndsPlainly, value_plainly, alike_begins}
use Rattle.c_lower_worlds.proofs.SameSteps.{found_same, earlier}
use Rattle.c_lower_worlds.proofs.OfNaming.RuleFacts.{both_empty, tracked_is, none_of_both}
use Rattle.vlt_core_laws.proofs.Unbroken.{unless_holds}
use Rattle.vlt_core_laws.proofs.Ids.{and_left, and_right}
use Rattle.c_lower_worlds.proofs.ExpressionValues.{valued, Valued}
use Rattle.c_lower_worlds.proofs.VariableValues.{typed, alike_spares, owner_shaped, owner_types, slot_below, reference_to}

module _ (p : Program) (R : crun.Setup) (cm : crun.Meaning) where
  -- ---- a value of an owning variable

  move_then : (f : Func) (v : ℕ) (ids : Ids) (ty : Ty) (u t : Numbers) (k : ℕ) (s : source.Frame) (w : source.World) (frame : crun.Frame)
      (g : Registers) (i : ℕ) (go : source.Value → source.Frame → source.World → step.Step) (rest : List Stmt) →
      operand_broken p f ids (Some ty) (move v) ≡ [] → AreUpTo (first_temps p f) u → AreUpTo u t → Begins p f k s w frame g →
      ((a : source.Value) (s2 : source.Frame) (w2 : source.World) (to : crun.Frame) (j : ℕ) → IsHanded p f t k (operand_code p f t (move v)) ty frame g w a s2 w2 to →
      Same p f u k to (go a s2 w2) (crun.does_stmts R cm j (stmts_made rest) to (c_world p g w2))) →
      Same p f u k frame (with_operand p f (move v) s w go) (crun.does_stmts R cm i (stmts_made rest) frame (c_world p g w))
  unfolding with_operand
  move_then f v ids ty u t k s w frame g i go rest broken up more h on =
      found_same p f u k frame (or_fault source.no_value (s.vars v)) w _ _ (or_faults source.no_value (s.vars v)) (λ a e.
      let at = or_fault_ok source.no_value (s.vars v) a e in
      let q = typed p (types_of w.objects) f s frame v a h.stands at in
      let fits = unless_holds (is_owning q.ty && fits_owning ty q.ty) rule.WRONG_TYPE
      (subst (λ o. move_broken (Some ty) o ≡ []) q.declared (both_empty (use_broken f ids v) (move_broken (Some ty) (var_type f v)) broken).right) in
      let laid = fits_laid p ty q.ty (and_right (is_owning q.ty) (fits_owning ty q.ty) fits) in
      let here = var_has p f v q.ty s w frame g k a h at q.declared in
      on a (step.with_var v None s) w frame i (record {
        same_types = refl;
        begins = record { stands = stands_unset p (types_of w.objects) f s frame v h.stands; shaped = h.shaped; registers = h.registers; fed = h.fed; fuel_left = h.fuel_left };
        alike = alike_self t frame;
        shape = laid.shape (types_of w.objects) a q.shape;
        have = λ x bs d. subst (λ vs. HaveAtoms (map variable (slot_vars p f v)) vs x bs) (laid.values a) (slots_have p f v t (slot_values p q.ty a) frame x bs (more_more up more) d here);
        variables = λ many. record { from = starts p f v; are = ap (λ o. map variable (vars_at (starts p f v) (sorts_of p o))) q.declared ∙ ap (λ ss. map variable (vars_at (starts p f v) ss)) laid.sorts };
      }))

  -- ---- an object of a reference

  pack_then : (f : Func) (x : ℕ) (states : core.States) (ids : Ids) (ty : Ty) (u t : Numbers) (k : ℕ) (s : source.Frame) (w : source.World) (frame : crun.Frame)
      (g : Registers) (i : ℕ) (go : source.Value → source.Frame → source.World → step.Step) (rest : List Stmt) →
      operand_broken p f ids (Some ty) (pack x states) ≡ [] → AreUpTo (first_temps p f) u → AreUpTo u t → Begins p f k s w frame g →
      ((a : source.Value) (s2 : source.Frame) (w2 : source.World) (to : crun.Frame) (j : ℕ) → IsHanded p f t k (operand_code p f t (pack x states)) ty frame g w a s2 w2 to →
      Same p f u k to (go a s2 w2) (crun.does_stmts R cm j (stmts_made rest) to (c_world p g w2))) →
      Same p f u k frame (with_operand p f (pack x states) s w go) (crun.does_stmts R cm i (stmts_made rest) frame (c_world p g w))
  unfolding with_operand
  pack_then f x states ids ty u t k s w frame g i go rest broken up more h on =
      found_same p f u k frame (object_of f (λ r. states) x s w.objects) w _ _ (object_of_faults f (λ r. states) x s w.objects) (λ m e.
      let a = then_ok (or_fault source.missing (reference_of f x)) (λ r. values.tracked_object r x s w.objects >>= in_states states) m e in
      let is_r = or_fault_ok source.missing (reference_of f x) a.found a.first in
      let held = object_of_ok f (λ r. states) x a.found s w.objects m is_r e in
      let tr = tracked_is (var_type f x) a.found is_r in
      let own : Ty = core.owning states a.found.type tr.args in
      let fits = unless_holds (fits_owning ty own && is_owning ty) rule.WRONG_TYPE
      (both_empty (when_some (decl_of p a.found.type) (λ d. states_broken p a.found.type states)) _
      (subst (λ o. pack_broken p (Some ty) o states ≡ []) tr.is (both_empty (use_broken f ids x) (pack_broken p (Some ty) (var_type f x) states) broken).right)).right in
      let laid = fits_laid p ty own (and_left (fits_owning ty own) (is_owning ty) fits) in
      let q = typed p (types_of w.objects) f s frame x (one (source.reference m.number)) h.stands held.refers.var in
      let of = reference_to p (types_of w.objects) (core.tracked a.found.key a.found.type tr.args) m.number a.found.type
      (subst (λ ty. HasShape p (types_of w.objects) ty (one (source.reference m.number))) (ty_same q.ty _ (sym q.declared ∙ tr.is)) q.shape) refl in
      let os = with_changed_object m.number (with_owner loose) w.objects in
      let w2 : source.World = step.with_objects w os in
      let types = owner_types w.objects m.number loose in
      let same : blocks_of p os ≡ blocks_of p w.objects = held_alike p w.objects m.number loose
      (λ o d. subst (λ (o : Object). IsFree o.owner) (same_Some m.object o (sym held.refers.at ∙ d)) held.free) (record { above = refl; out = refl; live = refl }) in
      let value : source.Value = one (source.owned m.number) in
      let shape : HasShape p (types_of w.objects) own value = record { part = source.owned m.number; is = refl; shape = record { object = m.number; is = refl; of = of } } in
      let here = var_has p f x (core.tracked a.found.key a.found.type tr.args) s w frame g k (one (source.reference m.number)) h held.refers.var tr.is in
      subst (λ v. Same p f u k frame (go value s w2) (crun.does_stmts R cm i (stmts_made rest) frame v)) (ap (λ bs. record (c_world p g w) { blocks = bs }) same)
      (on value s w2 frame i (record {
        same_types = types;
        begins = record {
          stands = subst (λ ts. StandsFor p ts f s frame) (sym types) h.stands;
          shaped = owner_shaped p w.objects m.number loose h.shaped;
          registers = h.registers;
          fed = h.fed;
          fuel_left = h.fuel_left;
        };
        alike = alike_self t frame;
        shape = subst (λ ts. HasShape p ts ty value) (sym types) (laid.shape (types_of w.objects) value shape);
        have = λ y bs d. subst (λ vs. HaveAtoms (map variable (slot_vars p f x)) vs y bs) (laid.values value) (slots_have p f x t (cw.reference (Some m.number) ∷ []) frame y bs (more_more up more) d here);
        variables = λ many. absurd (false≢true (laid.variant ∙ many));
      })))
    where
      ty_same : (a b : Ty) → (let o : Option Ty = Some a in o ≡ Some b) → a ≡ b
      ty_same a b e = cc

  -- ---- an expression

  -- the slots of an expression's value, or the end
  number_value : (types : List ℕ) (b : Bool) (a : source.Value) → HasShape p types (if b then core.int else core.bool) a → (z : ℤ) × (a ≡ one (source.number z))
  number_value types true a h = (h.shape.number, h.is ∙ ap (λ x. one x) h.shape.is)
  number_value types false a h = (h.shape.number, h.is ∙ ap (λ x. one x) h.shape.is)

  self_fits : (b : Bool) → unless (same_ty (if b then core.int else core.bool) (if b then core.int else core.bool)) rule.WRONG_TYPE ≡ []
  self_fits true = refl
  self_fits false = refl

  module _ (f : Func) (ids : Ids) (s : source.Frame) (w : source.World) (frame : crun.Frame) (g : Registers) (k : ℕ) (is : IsFunction p f) (h : Begins p f k s w frame g) where
    -- of an operator
    operator_comes : (o : Op) (e : core.Expr) (t : Numbers) (x : Atom) → type_of_expr p f e ≡ Some (given_by o) → (expr_code p f t e).atoms ≡ x ∷ [] → is_proper e ≡ true → expr_broken p f ids e ≡ [] →
        AreUpTo (first_temps p f) t → (a : source.Value) → values.value_of p f e s w.objects ≡ Ok a → (v : Valued p (types_of w.objects) (type_of_expr p f e) a) →
        Comes (expr_code p f t e) t frame (c_world p g w) (slot_values p v.ty a)
    operator_comes o e t x type single proper broken up a is_a v =
        let shape = subst (λ ty. HasShape p (types_of w.objects) ty a) (some_same v.ty (given_by o) (sym v.known ∙ type)) v.shape in
        let z = number_value (types_of w.objects) (row_of o).gives_int a shape in
        let number : number_of p f e s w.objects ≡ Ok z.0 = then_is (values.value_of p f e s w.objects) values.number_in a z.0 is_a (ap values.number_in z.1) in
        let follows = numbers_are_right p f e ids (given_by o) t k s w frame g is proper
        (none_of_both (expr_broken p f ids e) (misfit (Some (given_by o)) (type_of_expr p f e)) broken (ap (misfit (Some (given_by o))) type ∙ self_fits (row_of o).gives_int)) up h in
        subst (λ vs. Comes (expr_code p f t e) t frame (c_world p g w) vs) (sym (ap (slot_values p v.ty) z.1))
        (number_comes (expr_code p f t e) t frame (c_world p g w) z.0 x single (subst (λ r. Follows r (expr_code p f t e) t frame (c_world p g w)) number follows))
      where
        some_same : (a b : Ty) → (let o : Option Ty = Some a in o ≡ Some b) → a ≡ b
        some_same a b e = cc

    never_many : (b : Bool) → is_variant (Some (if b then core.int else core.bool)) ≡ true → ⊥
    never_many true e = false≢true e
    never_many false e = false≢true e

    -- the code, and what the atoms of a variant are
    record Coded (e : core.Expr) (t : Numbers) (ty : Ty) (a : source.Value) : Type 0 where
      comes : Comes (expr_code p f t e) t frame (c_world p g w) (slot_values p ty a)
      variables : is_variant (Some ty) ≡ true → AreVariables p ty (expr_code p f t e).atoms

    same_types : (a b : Ty) → (let o : Option Ty = Some a in o ≡ Some b) → a ≡ b
    same_types a b e = cc

    operator_coded : (o : Op) (e : core.Expr) (t : Numbers) (x : Atom) → type_of_expr p f e ≡ Some (given_by o) → (expr_code p f t e).atoms ≡ x ∷ [] → is_proper e ≡ true → expr_broken p f ids e ≡ [] →
        AreUpTo (first_temps p f) t → (a : source.Value) → values.value_of p f e s w.objects ≡ Ok a → (v : Valued p (types_of w.objects) (type_of_expr p f e) a) → Coded e t v.ty a
    operator_coded o e t x type single proper broken up a is_a v = record {
      comes = operator_comes o e t x type single proper broken up a is_a v;
      variables = λ many. absurd (never_many (row_of o).gives_int (subst (λ ty. is_variant (Some ty) ≡ true) (same_types v.ty (given_by o) (sym v.known ∙ type)) many));
    }

    coded : (e : core.Expr) (t : Numbers) (a : source.Value) → is_proper e ≡ true → expr_broken p f ids e ≡ [] → AreUpTo (first_temps p f) t → values.value_of p f e s w.objects ≡ Ok a →
        (v : Valued p (types_of w.objects) (type_of_expr p f e) a) → Coded e t v.ty a
    coded (core.number z) t a proper broken up e v = operator_coded op.Add (core.number z) t _ refl refl proper broken up a e v
    coded (core.truth b) t a proper broken up e v = operator_coded op.Not (core.truth b) t _ refl refl proper broken up a e v
    coded (core.unary o b) t a proper broken up e v = operator_coded o (core.unary o b) t _ refl refl proper broken up a e v
    coded (core.binary o b c) t a proper broken up e v =
        let x = one_atom o (expr_code p f t b) (λ t. expr_code p f t c) in operator_coded o (core.binary o b c) t x.0 refl x.1 proper broken up a e v
    coded (core.var x) t a proper broken up e v =
        let declared = unless_is (var_type f x) v.ty v.known in
        record {
          comes = var_comes p f x v.ty t s w frame g k a up h (or_fault_ok source.no_value (s.vars x) a e) declared;
          variables = λ many. record { from = starts p f x; are = ap (λ o. map variable (vars_at (starts p f x) (sorts_of p o))) declared };
        }
    coded (core.field x i) t a proper broken up e v =
        let b = then_ok (values.touchable p f x i s w.objects) (λ m. or_fault source.missing (slice_get m.object.cells i)) a e in
        let refers = after_ok (reference_of f x) (guarded_of f x) x (λ r. permitted_in p r.type i) s w.objects b.found b.first in
        let touch = touched p f s w frame g k h x i b.found a refers (or_fault_ok source.missing (slice_get b.found.object.cells i) a b.second) in
        let q = typed p (types_of w.objects) f s frame x (one (source.reference b.found.number)) h.stands refers.var in
        let type_is : field_type p f x i ≡ Some (with_keys touch.object.0 touch.decl.ty) =
        ap (λ o. field_type_in o (field_decl p o i)) touch.object.1 ∙ ap (field_type_in (Some (object_type f x, touch.object.0))) touch.at in
        let ty_is : v.ty ≡ with_keys touch.object.0 touch.decl.ty = same_types v.ty _ (sym (unless_is (field_type p f x i) v.ty v.known) ∙ type_is) in
        let laid = keys_laid p touch.object.0 touch.decl.ty in
        let c = field_comes p f x i t s w frame g k h b.found a up touch (slot_below p f x q.ty q.declared) in
        record {
          comes = subst (λ vs. Comes (expr_code p f t (core.field x i)) t frame (c_world p g w) vs) (laid.values a ∙ ap (λ ty. slot_values p ty a) (sym ty_is)) c;
          variables = λ many. record { from = t; are = ap (λ ss. map variable (vars_at t ss)) (ap (λ d. sorts_of_field p d) touch.at ∙ laid.sorts ∙ ap (slot_sorts p) (sym ty_is)) };
        }

    -- ---- where it traps

    no_trap : {A : Type 0} (m : Found A) (kind : TrapKind) → OnlyFaults m → m ≡ Err (source.trap kind) → ⊥
    no_trap {A} m kind h e = false≢true (subst OnlyFaults e h)

    ok_no_trap : (a : source.Value) (kind : TrapKind) → (let r : Found source.Value = Ok a in r ≡ Err (source.trap kind)) → ⊥
    ok_no_trap a kind e = cc

    operator_traps : (o : Op) (e : core.Expr) (t : Numbers) (kind : TrapKind) → type_of_expr p f e ≡ Some (given_by o) → is_proper e ≡ true → expr_broken p f ids e ≡ [] →
        AreUpTo (first_temps p f) t → values.value_of p f e s w.objects ≡ Err (source.trap kind) → Does (expr_code p f t e).stmts frame (c_world p g w) (crun.stops (cw.trap kind) (c_world p g w))
    operator_traps o e t kind type proper broken up is_e =
        subst (λ r. Follows r (expr_code p f t e) t frame (c_world p g w)) (ap (λ r. r >>= values.number_in) is_e)
        (numbers_are_right p f e ids (given_by o) t k s w frame g is proper
        (none_of_both (expr_broken p f ids e) (misfit (Some (given_by o)) (type_of_expr p f e)) broken (ap (misfit (Some (given_by o))) type ∙ self_fits (row_of o).gives_int)) up h)

    traps : (e : core.Expr) (t : Numbers) (kind : TrapKind) → is_proper e ≡ true → expr_broken p f ids e ≡ [] → AreUpTo (first_temps p f) t → values.value_of p f e s w.objects ≡ Err (source.trap kind) →
        Does (expr_code p f t e).stmts frame (c_world p g w) (crun.stops (cw.trap kind) (c_world p g w))
    traps (core.number z) t kind proper broken up e = absurd (ok_no_trap (one (source.number z)) kind e)
    traps (core.truth b) t kind proper broken up e = absurd (ok_no_trap (one (source.number (bool_number b))) kind e)
    traps (core.var v) t kind proper broken up e = absurd (no_trap (or_fault source.no_value (s.vars v)) kind (or_faults source.no_value (s.vars v)) e)
    traps (core.field x i) t kind proper broken up e =
        absurd (no_trap (values.value_of p f (core.field x i) s w.objects) kind
        (then_faults (values.touchable p f x i s w.objects) (λ m. or_fault source.missing (slice_get m.object.cells i))
        (after_faults (reference_of f x) (guarded_of f x) x (λ r. permitted_in p r.type i) s w.objects) (λ m. or_faults source.missing (slice_get m.object.cells i))) e)
    traps (core.unary o b) t kind proper broken up e = operator_traps o (core.unary o b) t kind refl proper broken up e
    traps (core.binary o b c) t kind proper broken up e = operator_traps o (core.binary o b c) t kind refl proper broken up e

  pure_then : (f : Func) (e : core.Expr) (ids : Ids) (ty : Ty) (u t : Numbers) (k : ℕ) (s : source.Frame) (w : source.World) (frame : crun.Frame)
      (g : Registers) (i : ℕ) (go : source.Value → source.Frame → source.World → step.Step) (rest : List Stmt) →
      IsFunction p f → is_proper e ≡ true → operand_broken p f ids (Some ty) (pure e) ≡ [] → AreUpTo (first_temps p f) u → AreUpTo u t → Begins p f k s w frame g →
      ((a : source.Value) (s2 : source.Frame) (w2 : source.World) (to : crun.Frame) (j : ℕ) → IsHanded p f t k (operand_code p f t (pure e)) ty frame g w a s2 w2 to →
      Same p f u k to (go a s2 w2) (crun.does_stmts R cm j (stmts_made rest) to (c_world p g w2))) →
      Same p f u k frame (with_operand p f (pure e) s w go) (crun.does_stmts R cm i (stmts_made ((expr_code p f t e).stmts ++ rest)) frame (c_world p g w))
  unfolding with_operand step.with_found
  pure_then f e ids ty u t k s w frame g i go rest is proper broken up more h on =
      by (values.value_of p f e s w.objects) refl (value_plainly p f e s w.objects)
    where
      up_t : AreUpTo (first_temps p f) t
      up_t = more_more up more

      whole : expr_broken p f ids e ≡ []
      whole = (both_empty (expr_broken p f ids e) (if is_owning_some (Some ty) then rule.WRONG_TYPE ∷ [] else misfit (Some ty) (type_of_expr p f e)) broken).left

      fits : misfit (Some ty) (type_of_expr p f e) ≡ []
      fits = unowned (is_owning ty) (both_empty (expr_broken p f ids e) (if is_owning ty then rule.WRONG_TYPE ∷ [] else misfit (Some ty) (type_of_expr p f e)) broken).right
        where
          never : (r : ℕ) → r ∷ [] ≡ [] → ⊥
          never r e = cc

          unowned : (b : Bool) → (if b then rule.WRONG_TYPE ∷ [] else misfit (Some ty) (type_of_expr p f e)) ≡ [] → misfit (Some ty) (type_of_expr p f e) ≡ []
          unowned true e = absurd (never rule.WRONG_TYPE e)
          unowned false e = e

      code : Code
      code = expr_code p f t e

      rest_runs : ℕ → crun.Frame → cw.World → crun.Step
      rest_runs j = crun.does_stmts R cm j (stmts_made rest)

      j : ℕ
      j = i + crun.count_in (stmts_made code.stmts)

      by : (r : Found source.Value) → values.value_of p f e s w.objects ≡ r → EndsPlainly r →
          Same p f u k frame (step.with_found r w (λ a. go a s w)) (crun.does_stmts R cm i (stmts_made (code.stmts ++ rest)) frame (c_world p g w))
      by (Ok a) q plain =
          let v = valued p f ids s w frame g k h e a (and_right (has_arities e) (has_literals e) proper) whole q in
          let c = coded f ids s w frame g k is h e t a proper whole up_t q v in
          let laid = same_laid p ty v.ty (unless_holds (same_ty ty v.ty) rule.WRONG_TYPE (subst (λ o. misfit (Some ty) o ≡ []) v.known fits)) in
          subst (Same p f u k frame (go a s w))
          (sym (both_run R cm code.stmts rest i frame (c_world p g w) ∙ ap (λ st. crun.then_do st (rest_runs j)) (c.comes.does R cm i) ∙ then_goes c.comes.to (c_world p g w) (rest_runs j)))
          (earlier p f u k frame c.comes.to _ _ (alike_spares (first_temps p f) u frame c.comes.to (alike_more more (alike_self u frame) c.comes.alike))
          (on a s w c.comes.to j (record {
            same_types = refl;
            begins = alike_begins p f t k s w frame c.comes.to g up_t c.comes.alike h;
            alike = c.comes.alike;
            shape = laid.shape (types_of w.objects) a v.shape;
            have = λ y bs d. subst (λ vs. HaveAtoms code.atoms vs y bs) (laid.values a) (c.comes.have y bs d);
            variables = λ many. let vars = c.variables (laid.variant ∙ many) in record { from = vars.from; are = vars.are ∙ ap (λ ss. map variable (vars_at vars.from ss)) laid.sorts };
          })))
      by (Err (source.trap kind)) q plain = record {
        world = c_world p g w;
        is = both_run R cm code.stmts rest i frame (c_world p g w) ∙ ap (λ st. crun.then_do st (rest_runs j)) (traps f ids s w frame g k is h e t kind proper whole up_t q R cm i)
            ∙ then_stops (cw.trap kind) (c_world p g w) (rest_runs j);
        events = refl;
        fuel = refl;
      }
      by (Err (source.fault a b)) q plain = tt
      by (Err source.done) q plain = absurd plain
      by (Err source.fuel_end) q plain = absurd plain
      by (Err source.heap_end) q plain = absurd plain
      by (Err source.depth_end) q plain = absurd plain
      by (Err source.input_end) q plain = absurd plain
      by (Err source.answers_end) q plain = absurd plain
      by (Err (source.bad_answer b)) q plain = absurd plain

  pub operands_are_right : OperandsAreRight p R cm
  operands_are_right f (pure e) ids ty u t k s w frame g i go rest is proper broken up more h on = pure_then f e ids ty u t k s w frame g i go rest is proper broken up more h on
  operands_are_right f (move v) ids ty u t k s w frame g i go rest is proper broken up more h on = move_then f v ids ty u t k s w frame g i go rest broken up more h on
  operands_are_right f (pack x states) ids ty u t k s w frame g i go rest is proper broken up more h on = pack_then f x states ids ty u t k s w frame g i go rest broken up more h on
