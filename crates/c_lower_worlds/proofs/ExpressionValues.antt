-- Values of expressions: their types, their code, and operands.
use Rattle.std.proofs.Common.{◌≡◌, ℕ, not, Bool, true, false, if◌then◌else◌, ℤ, pos, List, [], Option, Some, None, slice_get, Result, Ok, Err, refl, sym, ap, ◌∙◌, subst}
use Rattle.std.proofs.lemmas.Bool.{false≢true}
use Rattle.std.specs.Prelude.{int_le, pos}
use Rattle.c_lower.specs.Slots.{object_type}
use Rattle.vlt_ops.specs.declared.Op.{Op}
use Rattle.vlt_ops.specs.declared.Op.TheVariants as op
use Rattle.vlt_ops.specs.declared.TrapKind.{TrapKind}
use Rattle.vlt_ops.specs.Operator.{applied, is_in_range, is_true, bool_number, row_of}
use Rattle.vlt_core.specs.Core as core
use Rattle.vlt_core.specs.Core.{Ty, Func, Program}
use Rattle.vlt_core.specs.Lookups.{is_owning, reference_of, guarded_of, permitted_in}
use Rattle.vlt_core.specs.Types.{same_ty, with_keys}
use Rattle.vlt_core.specs.KindedScopes.{Ids, use_broken}
use Rattle.vlt_core.specs.KindedOperands.{expr_broken, type_of_expr, given_by, misfit, left_broken, right_wanted, not_owning_broken, touch_broken, field_type, field_type_in, field_decl, unless_owning}
use Rattle.vlt_core.specs.declared.rules.TheConstants as rule
use Rattle.vlt_meaning.specs.World as source
use Rattle.vlt_meaning.specs.World.{one}
use Rattle.vlt_meaning.specs.Found.{Found, ◌>>=◌, or_fault}
use Rattle.vlt_meaning.specs.Values as values
use Rattle.c_meaning.specs.Run as crun
use Rattle.c_lower_worlds.specs.Worlds.{Registers}
use Rattle.c_lower_worlds.specs.Shapes.{types_of, HasShape}
use Rattle.c_lower_worlds.specs.SameStatements.{Begins}
use Rattle.vlt_core.specs.Proper.{has_literals}
use Rattle.c_lower_worlds.proofs.SameLayouts.{same_laid, keys_laid}
use Rattle.c_lower_worlds.proofs.NumberCode.{in_range, then_is, touched}
use Rattle.c_lower_worlds.proofs.OfNaming.FoundObjects.{then_ok, ok_same, err_ok, or_fault_ok, after_ok}
use Rattle.c_lower_worlds.proofs.OfNaming.RuleFacts.{both_empty}
use Rattle.vlt_core_laws.proofs.Unbroken.{unless_holds}
use Rattle.vlt_core_laws.proofs.Ids.{and_right}
use Rattle.c_lower_worlds.proofs.VariableValues.{typed}

-- the value has the shape of the expression's type, which is known then
pub record Valued (p : Program) (types : List ℕ) (type : Option Ty) (a : source.Value) : Type 0 where
  pub ty : Ty
  pub known : type ≡ Some ty
  pub shape : HasShape p types ty a

number_shape : (p : Program) (types : List ℕ) (b : Bool) (z : ℤ) → is_in_range z ≡ true → HasShape p types (if b then core.int else core.bool) (one (source.number z))
number_shape p types true z r = record { part = source.number z; is = refl; shape = record { number = z; is = refl; range = r } }
number_shape p types false z r = record { part = source.number z; is = refl; shape = record { number = z; is = refl; range = r } }

-- of an operator that gives a number
numbered : (p : Program) (types : List ℕ) (o : Op) (a : source.Value) (z : ℤ) → a ≡ one (source.number z) → is_in_range z ≡ true → Valued p types (Some (given_by o)) a
numbered p types o a z e r = record { ty = given_by o; known = refl; shape = subst (HasShape p types (given_by o)) (sym e) (number_shape p types (row_of o).gives_int z r) }

trap_number : (r : Result ℤ TrapKind) (a : source.Value) → values.or_trap r ≡ Ok a → (z : ℤ) × (a ≡ one (source.number z))
trap_number (Ok z) a e = (z, sym (ok_same (one (source.number z)) a e))
trap_number (Err k) a e = absurd (err_ok (source.trap k) a e)

not_owning : (r : ℕ) (ty : Ty) → not_owning_broken r (Some ty) ≡ [] → is_owning ty ≡ false
not_owning r ty e = by (is_owning ty) (unless_holds (not (is_owning ty)) r e)
  where
    by : (b : Bool) → not b ≡ true → b ≡ false
    by true e = absurd (false≢true e)
    by false e = refl

module _ (p : Program) (f : Func) (ids : Ids) (s : source.Frame) (w : source.World) (frame : crun.Frame) (g : Registers) (k : ℕ) (h : Begins p f k s w frame g) where
  -- both operands of a number's operator
  of_both : (o : Op) (x : ℤ) (b : Found source.Value) (a : source.Value) → (b >>= (λ v. values.number_in v >>= (λ y. values.or_trap (applied o x y)))) ≡ Ok a → (z : ℤ) × (a ≡ one (source.number z))
  of_both o x b a e =
      let c = then_ok b (λ v. values.number_in v >>= (λ y. values.or_trap (applied o x y))) a e in
      let d = then_ok (values.number_in c.found) (λ y. values.or_trap (applied o x y)) a c.second in
      trap_number (applied o x d.found) a d.second

  pub valued : (e : core.Expr) (a : source.Value) → has_literals e ≡ true → expr_broken p f ids e ≡ [] → values.value_of p f e s w.objects ≡ Ok a → Valued p (types_of w.objects) (type_of_expr p f e) a
  valued (core.number z) a l broken e =
      record { ty = core.int; known = refl; shape = subst (HasShape p (types_of w.objects) core.int) (ok_same (one (source.number z)) a e) (number_shape p (types_of w.objects) true z (and_right (int_le (pos 0) z) (is_in_range z) l)) }
  valued (core.truth b) a l broken e =
      record { ty = core.bool; known = refl; shape = subst (HasShape p (types_of w.objects) core.bool) (ok_same (one (source.number (bool_number b))) a e) (number_shape p (types_of w.objects) false (bool_number b) (in_range p f s w frame g k h (core.truth b) refl (bool_number b) refl)) }
  valued (core.var v) a l broken e =
      let t = typed p (types_of w.objects) f s frame v a h.stands (or_fault_ok source.no_value (s.vars v) a e) in
      let plain = not_owning rule.WRONG_TYPE t.ty (subst (λ o. not_owning_broken rule.WRONG_TYPE o ≡ []) t.declared (both_empty (use_broken f ids v) _ broken).right) in
      record { ty = t.ty; known = ap unless_owning t.declared ∙ ap (λ b. if b then None else Some t.ty) plain; shape = t.shape }
  valued (core.field x i) a l broken e =
      let b = then_ok (values.touchable p f x i s w.objects) (λ m. or_fault source.missing (slice_get m.object.cells i)) a e in
      let t = touched p f s w frame g k h x i b.found a (after_ok (reference_of f x) (guarded_of f x) x (λ r. permitted_in p r.type i) s w.objects b.found b.first)
      (or_fault_ok source.missing (slice_get b.found.object.cells i) a b.second) in
      let type_is : field_type p f x i ≡ Some (with_keys t.object.0 t.decl.ty) =
      ap (λ o. field_type_in o (field_decl p o i)) t.object.1 ∙ ap (field_type_in (Some (object_type f x, t.object.0))) t.at in
      let plain = not_owning rule.WRONG_SWAP (with_keys t.object.0 t.decl.ty) (subst (λ o. not_owning_broken rule.WRONG_SWAP o ≡ []) type_is (both_empty (touch_broken p f ids x i) _ broken).right) in
      record {
        ty = with_keys t.object.0 t.decl.ty;
        known = ap unless_owning type_is ∙ ap (λ b. if b then None else Some (with_keys t.object.0 t.decl.ty)) plain;
        shape = (keys_laid p t.object.0 t.decl.ty).shape (types_of w.objects) a t.shape;
      }
  valued (core.unary o b) a l broken e =
      let x = then_ok (values.value_of p f b s w.objects) (λ v. values.number_in v >>= (λ z. values.or_trap (applied o z (pos 0)))) a e in
      let y = then_ok (values.number_in x.found) (λ z. values.or_trap (applied o z (pos 0))) a x.second in
      let z = trap_number (applied o y.found (pos 0)) a y.second in
      numbered p (types_of w.objects) o a z.0 z.1
      (in_range p f s w frame g k h (core.unary o b) l z.0 (then_is (values.value_of p f (core.unary o b) s w.objects) values.number_in a z.0 e (ap values.number_in z.1)))
  valued (core.binary o b c) a l broken e =
      let x = then_ok (values.value_of p f b s w.objects) (λ v. values.number_in v >>= (λ z. values.value_of_both o z (values.value_of p f c s w.objects))) a e in
      let y = then_ok (values.number_in x.found) (λ z. values.value_of_both o z (values.value_of p f c s w.objects)) a x.second in
      let bc = both_empty _ (misfit (right_wanted (row_of o).takes (type_of_expr p f b)) (type_of_expr p f c)) broken in
      let cl = both_empty _ (left_broken (row_of o).takes (type_of_expr p f b)) bc.left in
      let ec = both_empty (expr_broken p f ids b) (expr_broken p f ids c) cl.left in
      by_op o y.found y.second bc.right (λ q. valued c a (and_right (has_literals b) (has_literals c) l) ec.right q)
      (λ z q. in_range p f s w frame g k h (core.binary o b c) l z (then_is (values.value_of p f (core.binary o b c) s w.objects) values.number_in a z e (ap values.number_in q)))
    where
      Later : Type 0
      Later = values.value_of p f c s w.objects ≡ Ok a → Valued p (types_of w.objects) (type_of_expr p f c) a

      Range : Type 0
      Range = (z : ℤ) → a ≡ one (source.number z) → is_in_range z ≡ true

      from_right : misfit (Some core.bool) (type_of_expr p f c) ≡ [] → Valued p (types_of w.objects) (type_of_expr p f c) a → Valued p (types_of w.objects) (Some core.bool) a
      from_right m v = record {
        ty = core.bool;
        known = refl;
        shape = (same_laid p core.bool v.ty (unless_holds (same_ty core.bool v.ty) rule.WRONG_TYPE (subst (λ o. misfit (Some core.bool) o ≡ []) v.known m))).shape (types_of w.objects) a v.shape;
      }

      strict : (o : Op) (x : ℤ) → (values.value_of p f c s w.objects >>= (λ v. values.number_in v >>= (λ y. values.or_trap (applied o x y)))) ≡ Ok a → Range → Valued p (types_of w.objects) (Some (given_by o)) a
      strict o x e r = let z = of_both o x (values.value_of p f c s w.objects) a e in numbered p (types_of w.objects) o a z.0 z.1 (r z.0 z.1)

      by_op : (o : Op) (x : ℤ) → values.value_of_both o x (values.value_of p f c s w.objects) ≡ Ok a → misfit (right_wanted (row_of o).takes (type_of_expr p f b)) (type_of_expr p f c) ≡ [] → Later → Range →
          Valued p (types_of w.objects) (Some (given_by o)) a
      by_op op.And x e m later r = by (is_true x) e
        where
          by : (t : Bool) → (if t then values.value_of p f c s w.objects else values.is_number x) ≡ Ok a → Valued p (types_of w.objects) (Some core.bool) a
          by true e = from_right m (later e)
          by false e = numbered p (types_of w.objects) op.And a x (sym (ok_same (one (source.number x)) a e)) (r x (sym (ok_same (one (source.number x)) a e)))
      by_op op.Or x e m later r = by (is_true x) e
        where
          by : (t : Bool) → (if t then values.is_number x else values.value_of p f c s w.objects) ≡ Ok a → Valued p (types_of w.objects) (Some core.bool) a
          by false e = from_right m (later e)
          by true e = numbered p (types_of w.objects) op.Or a x (sym (ok_same (one (source.number x)) a e)) (r x (sym (ok_same (one (source.number x)) a e)))
      by_op op.Multiply x e m later r = strict op.Multiply x e r
      by_op op.Divide x e m later r = strict op.Divide x e r
      by_op op.Remainder x e m later r = strict op.Remainder x e r
      by_op op.Add x e m later r = strict op.Add x e r
      by_op op.Subtract x e m later r = strict op.Subtract x e r
      by_op op.Less x e m later r = strict op.Less x e r
      by_op op.LessOrEqual x e m later r = strict op.LessOrEqual x e r
      by_op op.Greater x e m later r = strict op.Greater x e r
      by_op op.GreaterOrEqual x e m later r = strict op.GreaterOrEqual x e r
      by_op op.Equal x e m later r = strict op.Equal x e r
      by_op op.NotEqual x e m later r = strict op.NotEqual x e r
      by_op op.BitAnd x e m later r = strict op.BitAnd x e r
      by_op op.BitXor x e m later r = strict op.BitXor x e r
      by_op op.BitOr x e m later r = strict op.BitOr x e r
      by_op op.Negate x e m later r = strict op.Negate x e r
      by_op op.Not x e m later r = strict op.Not x e r
