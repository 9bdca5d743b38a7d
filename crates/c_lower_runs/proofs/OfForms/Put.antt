-- Put: a field of a variable's object gets a value.
use Rattle.std.proofs.Common.{◌≡◌, ◌<◌, ℕ, zero, suc, nat_lt, Bool, true, false, if◌then◌else◌, List, [], ◌∷◌, ◌++◌, length, Option, Some, None, slice_get, slice_set, refl, sym, ap, ◌∙◌, subst, arith, option_map}
use Rattle.std.proofs.lemmas.Bool.{false≢true}
use Rattle.std.proofs.lemmas.Bool.Decides.{nat_tests}
use Rattle.std.proofs.lemmas.Option.{slice_get-map, same_Some, none-some}
use Rattle.vlt_core.specs.Core as core
use Rattle.vlt_core.specs.Core.{Ty, Func, Program, pure}
use Rattle.vlt_core.specs.Lookups.{var_type, fields_of, reference_of, guarded_of, permitted_in, is_owning}
use Rattle.vlt_core.specs.Types.{with_keys}
use Rattle.vlt_core.specs.KindedScopes.{use_broken}
use Rattle.vlt_core.specs.KindedOperands.{expr_broken, operand_broken, misfit, type_of_expr, touch_broken, not_owning_broken, field_type, field_type_in, field_decl, object_in, unless_owning}
use Rattle.vlt_core.specs.declared.rules.TheConstants as rule
use Rattle.vlt_meaning.specs.World as source
use Rattle.vlt_meaning.specs.World.{one, reference, Object}
use Rattle.vlt_meaning.specs.Found.{Named}
use Rattle.vlt_meaning.specs.Objects.{with_cell}
use Rattle.vlt_meaning.specs.Values.{touchable}
use Rattle.vlt_meaning.specs.Step as step
use Rattle.vlt_meaning.specs.Operands.{with_operand}
use Rattle.vlt_meaning.specs.Run as run
use Rattle.c_syntax.specs.View.{stmts_made}
use Rattle.c_meaning.specs.Values.{p_variable}
use Rattle.c_meaning.specs.Run as crun
use Rattle.c_lower.specs.Slots.{Numbers, slot_of, first_slot, vars_at, sorts_of, first_temps, object_type, object_type_of, touched_cells}
use Rattle.c_lower.specs.Expressions.{expr_code}
use Rattle.c_lower.specs.Statements.{puts}
use Rattle.c_lower_worlds.proofs.OfOperators.Codes.{up_self, alike_self}
use Rattle.c_lower_worlds.specs.Worlds.{Registers, c_world}
use Rattle.c_lower_worlds.specs.Shapes.{types_of, HasShape, HaveCellShapes}
use Rattle.c_lower_worlds.specs.Operands.{HaveAtoms, OperandsAreRight}
use Rattle.c_lower_worlds.specs.SameStatements.{Begins, IsSameForm}
use Rattle.c_lower_worlds.specs.Naming.Functions.{IsFunction}
use Rattle.c_lower_worlds.specs.Naming.Types.{TypesFit}
use Rattle.c_lower_worlds.proofs.FieldWriting.{field_written, cell_shaped}
use Rattle.c_lower_worlds.proofs.LaterShapes.{shape_keys, values_keys}
use Rattle.c_lower_worlds.proofs.VariableSlots.{starts}
use Rattle.c_lower_worlds.proofs.SameSteps.{found_same, where_same, spares_self}
use Rattle.c_lower_worlds.proofs.OfNaming.DeclaredVariables.{Declared, used_declared}
use Rattle.c_lower_worlds.proofs.Targets.{arrives}
use Rattle.c_lower_worlds.proofs.OfNaming.FoundObjects.{Refers, after_ok, after_faults}
use Rattle.c_lower_worlds.proofs.OfNaming.RuleFacts.{both_empty, none_of_both}
use Rattle.vlt_core_laws.proofs.Unbroken.{unless_holds}
use Rattle.c_lower_worlds.proofs.VariableValues.{slot_holds, typed, reference_to, types_kept}
use Rattle.c_lower_worlds.proofs.OfNaming.TouchedFields.{referred, IsTouched, touch_field}
use Rattle.c_lower_worlds.proofs.CellWriting.{split_at}

cell_there : (xs : List source.Value) (i : ℕ) → nat_lt i (length xs) ≡ true → (a : source.Value) × (slice_get xs i ≡ Some a)
cell_there xs i e = by xs i (grind (arith, nat_tests))
  where
    by : (xs : List source.Value) (i : ℕ) → i < length xs → (a : source.Value) × (slice_get xs i ≡ Some a)
    by [] i l = absurd (omega arith)
    by (x ∷ xs) zero l = (x, refl)
    by (x ∷ xs) (suc i) l = by xs i (omega arith)

-- the declared type of the object that a reference goes to
type_referred : (f : Func) (x : ℕ) (ty : Ty) (type : ℕ) → var_type f x ≡ Some ty → referred ty ≡ Some type → object_type f x ≡ type
type_referred f x ty type is refers = ap object_type_of is ∙ by ty refers
  where
    by : (ty : Ty) → referred ty ≡ Some type → object_type_of (Some ty) ≡ type
    by (core.tracked k t args) e = same_Some t type e
    by (core.guarded k t args) e = same_Some t type e
    by core.int e = absurd (none-some type e)
    by core.bool e = absurd (none-some type e)
    by (core.owning states t args) e = absurd (none-some type e)
    by (core.variant t args) e = absurd (none-some type e)
    by (core.owning_variant t args) e = absurd (none-some type e)

-- the slot of a reference
pub slot_refers : (ty : Ty) (type : ℕ) (p : Program) (f : Func) (x : ℕ) → var_type f x ≡ Some ty → referred ty ≡ Some type → slot_of p f x ≡ p_variable (slot_of p f x).number
slot_refers ty type p f x is refers = subst (λ o. first_slot (vars_at (starts p f x) (sorts_of p o)) ≡ p_variable (first_slot (vars_at (starts p f x) (sorts_of p o))).number) (sym is) (by ty refers (starts p f x))
  where
    never : (t : ℕ) → (let o : Option ℕ = None in o ≡ Some t) → ⊥
    never t e = cc

    by : (ty : Ty) → referred ty ≡ Some type → (t : Numbers) → first_slot (vars_at t (sorts_of p (Some ty))) ≡ p_variable (first_slot (vars_at t (sorts_of p (Some ty)))).number
    by (core.tracked k t args) e u = refl
    by (core.guarded k t args) e u = refl
    by core.int e u = absurd (never type e)
    by core.bool e u = absurd (never type e)
    by (core.owning states t args) e u = absurd (never type e)
    by (core.variant t args) e u = absurd (never type e)
    by (core.owning_variant t args) e u = absurd (never type e)

-- the object of a reference is of the type
pub object_type_is : (p : Program) (f : Func) (s : source.Frame) (w : source.World) (F : crun.Frame) (g : Registers) (k : ℕ) (x : ℕ) (ty : Ty) (type : ℕ) (m : Named) → Begins p f k s w F g → var_type f x ≡ Some ty → referred ty ≡ Some type →
    Refers x s w.objects m → m.object.type ≡ type
object_type_is p f s w F g k x ty type m h is refers r =
    let t = typed p (types_of w.objects) f s F x (one (reference m.number)) h.stands r.var in
    let of = reference_to p (types_of w.objects) ty m.number type (subst (λ ty. HasShape p (types_of w.objects) ty (one (reference m.number))) (same_Some t.ty ty (sym t.declared ∙ is)) t.shape) refers in
    same_Some m.object.type type (sym (ap (option_map (λ (o : Object). o.type)) r.at) ∙ sym (slice_get-map (λ (o : Object). o.type) w.objects m.number) ∙ of)

module _ (p : Program) (types_fit : TypesFit p) (heap depth : ℕ) (R : crun.Setup) (cm : crun.Meaning) (operands : OperandsAreRight p R cm) (m : run.Meaning) (n : ℕ) where
  abbrev setup : run.Setup
  setup = record { program = p; heap = heap; depth = depth }

  pub put_same : (f : Func) (x i : ℕ) (e : core.Expr) → IsFunction p f → IsSameForm p setup R m cm n f (core.simple (core.put x i e))
  unfolding with_operand
  put_same f x i e is around ids t k s w frame g j kinds up le h =
      operands f (pure e) ids want t t k s w frame g j
      (λ a s w. step.with_found (touchable p f x i s w.objects) w (λ n. step.where_so (nat_lt i (length n.object.cells)) source.missing (Some n.number) w (λ w. step.goes s (step.with_changed w n.number (with_cell i a)))))
      (puts (touched_cells p f x i) (expr_code p f t e).atoms) is kinds.proper broken up (up_self t) h
      (λ a s2 w2 to l y.
      found_same p f t k to (touchable p f x i s2 w2.objects) w2 _ _ (after_faults (reference_of f x) (guarded_of f x) x (λ r. permitted_in p r.type i) s2 w2.objects) (λ o eo.
      where_same p f t k to (nat_lt i (length o.object.cells)) source.missing (Some o.number) w2 _ _ (λ there.
      let r = after_ok (reference_of f x) (guarded_of f x) x (λ r. permitted_in p r.type i) s2 w2.objects o eo in
      let type_is = object_type_is p f s2 w2 to g k x touched.ty touched.type o y.begins touched.is touched.refers r in
      let old = cell_there o.object.cells i there in
      let os = w2.objects in
      let shapes : HaveCellShapes p (types_of os) (fields_of p touched.type) o.object.cells = subst (λ t. HaveCellShapes p (types_of os) (fields_of p t) o.object.cells) type_is (y.begins.shaped.each o.number o.object r.at) in
      let sp = split_at p (types_of os) (fields_of p touched.type) o.object.cells i touched.decl old.0 shapes touched.at old.1 in
      let shape = shape_keys p (types_of os) touched.args touched.decl.ty a y.shape in
      let var = ap to.vars (sym (slot_refers touched.ty touched.type p f x touched.is touched.refers)) ∙ slot_holds p (types_of os) f s2 to x (reference o.number) y.begins.stands r.var in
      let w3 : source.World = step.with_changed w2 o.number (with_cell i a) in
      let written = field_written p R cm os o.number o.object touched.type i touched.decl old.0 a (types_of os) (slot_of p f x).number (expr_code p f t e).atoms to (c_world p g w2)
      (record { at = r.at; live = r.live }) type_is touched.at sp shape var (λ bs. subst (λ vs. HaveAtoms (expr_code p f t e).atoms vs to bs) (values_keys p touched.args touched.decl.ty a) (y.have to bs (alike_self _ to))) in
      arrives p f t k s2 s2 w2 w3 to to g _ y.begins y.begins.stands (spares_self (first_temps p f) t to) (types_kept os o.number (with_cell i a) (λ o. refl))
      (λ h. cell_shaped p os o.number i a h (λ z at. let same = same_Some o.object z (sym r.at ∙ at) in
      subst (λ (z : Object). HaveCellShapes p (types_of os) (fields_of p z.type) (slice_set z.cells i a)) same (subst (λ t. HaveCellShapes p (types_of os) (fields_of p t) (slice_set o.object.cells i a)) (sym type_is) (sp.shapes a shape)))) refl (λ q. q)
      (subst (λ t. crun.does_stmts R cm l (stmts_made (puts (Rattle.c_lower.specs.Slots.field_cells p t i (slot_of p f x).number) (expr_code p f t0 e).atoms)) to (c_world p g w2) ≡ crun.goes to (c_world p g w3)) (sym (type_referred f x touched.ty touched.type touched.is touched.refers)) (written l)))))
    where
      t0 : Numbers
      t0 = t

      first : Rattle.c_lower_worlds.proofs.OfNaming.RuleFacts.BothEmpty (expr_broken p f ids e ++ touch_broken p f ids x i ++ not_owning_broken rule.WRONG_SWAP (field_type p f x i)) (misfit (unless_owning (field_type p f x i)) (type_of_expr p f e))
      first = both_empty (expr_broken p f ids e ++ touch_broken p f ids x i ++ not_owning_broken rule.WRONG_SWAP (field_type p f x i)) (misfit (unless_owning (field_type p f x i)) (type_of_expr p f e)) kinds.row

      second : Rattle.c_lower_worlds.proofs.OfNaming.RuleFacts.BothEmpty (expr_broken p f ids e ++ touch_broken p f ids x i) (not_owning_broken rule.WRONG_SWAP (field_type p f x i))
      second = both_empty (expr_broken p f ids e ++ touch_broken p f ids x i) (not_owning_broken rule.WRONG_SWAP (field_type p f x i)) first.left

      third : Rattle.c_lower_worlds.proofs.OfNaming.RuleFacts.BothEmpty (expr_broken p f ids e) (touch_broken p f ids x i)
      third = both_empty (expr_broken p f ids e) (touch_broken p f ids x i) second.left

      declared : Declared f x
      declared = used_declared f ids x (both_empty (use_broken f ids x) _ third.right).left

      touched : IsTouched p f x i
      touched = touch_field p f ids x i declared.ty declared.is (types_fit.objects f is x declared.ty declared.is) third.right

      want : Ty
      want = with_keys touched.args touched.decl.ty

      field_is : field_type p f x i ≡ Some want
      field_is = ap (λ o. field_type_in (object_in o) (field_decl p (object_in o) i)) touched.is ∙ ap (λ o. field_type_in o (field_decl p o i)) touched.object ∙ ap (field_type_in (Some (touched.type, touched.args))) touched.at

      plain : is_owning want ≡ false
      plain = is_false (is_owning want) (unless_holds (Rattle.std.specs.Prelude.not (is_owning want)) rule.WRONG_SWAP (subst (λ o. not_owning_broken rule.WRONG_SWAP o ≡ []) field_is second.right))
        where
          is_false : (b : Bool) → Rattle.std.specs.Prelude.not b ≡ true → b ≡ false
          is_false true e = absurd (false≢true e)
          is_false false e = refl

      fits : misfit (Some want) (type_of_expr p f e) ≡ []
      fits = subst (λ o. misfit o (type_of_expr p f e) ≡ []) (ap unless_owning field_is ∙ ap (λ b. if b then None else Some want) plain) first.right

      broken : operand_broken p f ids (Some want) (pure e) ≡ []
      broken = none_of_both (expr_broken p f ids e) (if is_owning want then rule.WRONG_TYPE ∷ [] else misfit (Some want) (type_of_expr p f e)) third.left
          (ap (λ b. if b then rule.WRONG_TYPE ∷ [] else misfit (Some want) (type_of_expr p f e)) plain ∙ fits)
