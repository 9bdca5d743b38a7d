-- The code of expressions that have a number, in the frames and worlds of a run.
use Rattle.std.specs.Int.{w64, int_bit_and, int_bit_xor, int_bit_or}
use Rattle.std.proofs.Common.{◌≡◌, ℕ, ◌&&◌, Bool, true, false, if◌then◌else◌, ℤ, pos, List, [], ◌∷◌, take, Option, Some, None, slice_get, Result, Ok, Err, refl, sym, ap, ◌∙◌, subst, not, ◌||◌, int_div, int_rem, int_lt, int_le, neg_ℤ, ◌+ℤ◌, ◌-ℤ◌, ◌*ℤ◌}
use Rattle.std.proofs.lemmas.Option.{none-some, slice_get-map}
use Rattle.std.specs.Option.{option_map}
use Rattle.std.specs.Prelude.{int_le}
use Rattle.vlt_core.specs.KindedOperands.{object_in}
use Rattle.vlt_ops.specs.declared.Op.{Op}
use Rattle.vlt_ops.specs.declared.Op.TheVariants as op
use Rattle.vlt_ops.specs.declared.TrapKind.{TrapKind}
use Rattle.vlt_ops.specs.declared.TrapKind.TheVariants.{Overflow, ZeroDivisor}
use Rattle.vlt_ops.specs.Operator.{applied, is_in_range, is_true, bool_number, in_range_or_trap, equals, division_value}
use Rattle.vlt_core.specs.Core as core
use Rattle.vlt_core.specs.Core.{Ty, VarDecl, FieldDecl, Func, Program}
use Rattle.vlt_core.specs.Lookups.{var_type, fields_of, reference_of, guarded_of, permitted_in}
use Rattle.vlt_meaning.specs.World as source
use Rattle.vlt_meaning.specs.World.{one, reference, Object}
use Rattle.vlt_meaning.specs.Found.{Found, ◌>>=◌, or_fault, Named}
use Rattle.vlt_meaning.specs.Values as values
use Rattle.c_syntax.specs.declared.program.CVar.{CVar}
use Rattle.c_meaning.specs.World as cw
use Rattle.c_meaning.specs.Values.{p_variable}
use Rattle.c_meaning.specs.Run as crun
use Rattle.c_lower.specs.Slots.{Numbers, of_number, vars_at, first_slot, slot_of, slot_sorts, sorts_of, sorts_at, sorts_of_field, field_sorts, past_all, first_numbers, cells_at, object_type, object_type_of, first_temps}
use Rattle.c_lower_worlds.specs.Operators.Expressions.{LeavesStand, IsInRange, AreOperandsInRange}
use Rattle.vlt_core.specs.Proper.{has_arities, has_literals}
use Rattle.c_lower_worlds.specs.Operators.Slots.{NumbersStand, FieldsStand}
use Rattle.c_lower_worlds.proofs.OfOperators.Codes.{alike_self}
use Rattle.c_lower_worlds.proofs.OfOperators.Expressions.{expressions_are_right}
use Rattle.c_lower_worlds.proofs.OfOperators.Slots.{leaves_stand}
use Rattle.c_lower_worlds.specs.Worlds.{Registers, c_world, blocks_of, slot_values}
use Rattle.c_lower_worlds.specs.Shapes.{types_of, HasShape}
use Rattle.c_lower_worlds.specs.SameStatements.{Begins}
use Rattle.c_lower_worlds.specs.Parts.{NumbersAreRight}
use Rattle.c_lower_worlds.proofs.BlockChanges.{block_there}
use Rattle.c_lower_worlds.proofs.FieldCells.{HaveCells, of_field}
use Rattle.c_lower_worlds.proofs.VariableSlots.{starts}
use Rattle.c_lower_worlds.proofs.OfNaming.FoundObjects.{then_ok, ok_same, err_ok, or_fault_ok, after_ok, Refers}
use Rattle.vlt_core_laws.proofs.Ids.{and_left, and_right}
use Rattle.c_lower_worlds.proofs.VariableValues.{slot_holds, typed, part_same, object_same}
use Rattle.c_lower_worlds.proofs.WordRanges.{word_results}

-- ---- numbers

pub number_is : (a : source.Value) (z : ℤ) → values.number_in a ≡ Ok z → a ≡ one (source.number z)
number_is (one (source.number y)) z e = ap (λ z. one (source.number z)) (ok_same y z e)
number_is (one (reference n)) z e = absurd (err_ok (source.fault source.missing None) z e)
number_is (one (source.owned n)) z e = absurd (err_ok (source.fault source.missing None) z e)
number_is (source.of_case k parts keys) z e = absurd (err_ok (source.fault source.missing None) z e)

number_same : (y z : ℤ) → source.number y ≡ source.number z → y ≡ z
number_same y z e = cc

pub never_case : (a : source.Part) (k : ℕ) (parts : List source.Part) (keys : List ℕ) → one a ≡ source.of_case k parts keys → ⊥
never_case a k parts keys e = cc

never_reference : (z : ℤ) (n : ℕ) → source.number z ≡ reference n → ⊥
never_reference z n e = cc

never_owned : (z : ℤ) (n : ℕ) → source.number z ≡ source.owned n → ⊥
never_owned z n e = cc

other_number : (n : ℕ) (z : ℤ) → reference n ≡ source.number z → ⊥
other_number n z e = cc

other_owned : (n m : ℕ) → reference n ≡ source.owned m → ⊥
other_owned n m e = cc

-- a number stands in one slot of numbers, and is of 64 bits
pub record OfNumber (p : Program) (ty : Ty) (z : ℤ) : Type 0 where
  pub sorts : slot_sorts p ty ≡ of_number ∷ []
  pub range : is_in_range z ≡ true

pub of_number_is : (p : Program) (types : List ℕ) (ty : Ty) (z : ℤ) → HasShape p types ty (one (source.number z)) → OfNumber p ty z
of_number_is p types core.int z h = record { sorts = refl; range = ap is_in_range (number_same z h.shape.number (part_same (source.number z) h.part h.is ∙ h.shape.is)) ∙ h.shape.range }
of_number_is p types core.bool z h = record { sorts = refl; range = ap is_in_range (number_same z h.shape.number (part_same (source.number z) h.part h.is ∙ h.shape.is)) ∙ h.shape.range }
of_number_is p types (core.tracked k t args) z h = absurd (never_reference z h.shape.object (part_same (source.number z) h.part h.is ∙ h.shape.is))
of_number_is p types (core.guarded k t args) z h = absurd (never_reference z h.shape.object (part_same (source.number z) h.part h.is ∙ h.shape.is))
of_number_is p types (core.owning states t args) z h = absurd (never_owned z h.shape.object (part_same (source.number z) h.part h.is ∙ h.shape.is))
of_number_is p types (core.variant t args) z h = absurd (never_case (source.number z) h.case h.parts h.keys h.is)
of_number_is p types (core.owning_variant t args) z h = absurd (never_case (source.number z) h.case h.parts h.keys h.is)

-- a reference goes to an object of the declared type
record OfReference (p : Program) (types : List ℕ) (ty : Ty) (n : ℕ) : Type 0 where
  of : slice_get types n ≡ Some (object_type_of (Some ty))
  reference : (t : Numbers) → (first_slot (vars_at t (slot_sorts p ty))).reference ≡ true
  object : (args : List ℕ) × (object_in (Some ty) ≡ Some (object_type_of (Some ty), args))

of_reference_is : (p : Program) (types : List ℕ) (ty : Ty) (n : ℕ) → HasShape p types ty (one (reference n)) → OfReference p types ty n
of_reference_is p types (core.tracked k t args) n h =
    record { of = ap (slice_get types) (object_same n h.shape.object (part_same (reference n) h.part h.is ∙ h.shape.is)) ∙ h.shape.of; reference = λ t. refl; object = (args, refl) }
of_reference_is p types (core.guarded k t args) n h =
    record { of = ap (slice_get types) (object_same n h.shape.object (part_same (reference n) h.part h.is ∙ h.shape.is)) ∙ h.shape.of; reference = λ t. refl; object = (args, refl) }
of_reference_is p types core.int n h = absurd (other_number n h.shape.number (part_same (reference n) h.part h.is ∙ h.shape.is))
of_reference_is p types core.bool n h = absurd (other_number n h.shape.number (part_same (reference n) h.part h.is ∙ h.shape.is))
of_reference_is p types (core.owning states t args) n h = absurd (other_owned n h.shape.object (part_same (reference n) h.part h.is ∙ h.shape.is))
of_reference_is p types (core.variant t args) n h = absurd (never_case (reference n) h.case h.parts h.keys h.is)
of_reference_is p types (core.owning_variant t args) n h = absurd (never_case (reference n) h.case h.parts h.keys h.is)

declared_is : (f : Func) (v : ℕ) (ty : Ty) → var_type f v ≡ Some ty → (d : VarDecl) × (slice_get f.vars v ≡ Some d)
declared_is f v ty e = by (slice_get f.vars v) refl e
  where
    by : (o : Option VarDecl) → slice_get f.vars v ≡ o → option_map (λ d. d.ty) o ≡ Some ty → (d : VarDecl) × (slice_get f.vars v ≡ Some d)
    by None q e = absurd (none-some ty e)
    by (Some d) q e = (d, q)

module _ (p : Program) (f : Func) (s : source.Frame) (w : source.World) (frame : crun.Frame) (g : Registers) (k : ℕ) (h : Begins p f k s w frame g) where
  numbers_stand : NumbersStand p f s frame
  numbers_stand = record {
    declared = λ v z e. let t = typed p (types_of w.objects) f s frame v (one (source.number z)) h.stands e in declared_is f v t.ty t.declared;
    slots = λ v z e. slot_holds p (types_of w.objects) f s frame v (source.number z) h.stands e;
  }

  -- a field that is read, in C
  pub record Touched (x i : ℕ) (m : Named) (a : source.Value) : Type 0 where
    pub decl : FieldDecl
    pub at : slice_get (fields_of p (object_type f x)) i ≡ Some decl
    pub shape : HasShape p (types_of w.objects) decl.ty a
    pub cells : HaveCells (cells_at (slot_of p f x).number (past_all first_numbers (field_sorts p (take i (fields_of p (object_type f x))))) (slot_sorts p decl.ty)) (slot_values p decl.ty a)
        frame.vars (blocks_of p w.objects)
    pub declared : (d : VarDecl) × (slice_get f.vars x ≡ Some d)
    pub refers : (slot_of p f x).reference ≡ true
    pub object : (args : List ℕ) × (object_in (var_type f x) ≡ Some (object_type f x, args))

  as_reference : (v : CVar) → v.reference ≡ true → v ≡ p_variable v.number
  as_reference v e = ap (λ r. record { reference = r; number = v.number }) e

  pub touched : (x i : ℕ) (m : Named) (a : source.Value) → Refers x s w.objects m → slice_get m.object.cells i ≡ Some a → Touched x i m a
  touched x i m a r at =
      let t = typed p (types_of w.objects) f s frame x (one (reference m.number)) h.stands r.var in
      let o = of_reference_is p (types_of w.objects) t.ty m.number t.shape in
      let type_is : m.object.type ≡ object_type f x =
      some_nat m.object.type (object_type f x) (sym (ap (option_map (λ (o : Object). o.type)) r.at) ∙ sym (slice_get-map (λ (o : Object). o.type) w.objects m.number) ∙ o.of ∙ ap (λ ty. Some (object_type_of ty)) (sym t.declared)) in
      let is_reference : (slot_of p f x).reference ≡ true = subst (λ ty. (first_slot (vars_at (starts p f x) (sorts_of p ty))).reference ≡ true) (sym t.declared) (o.reference (starts p f x)) in
      let block = block_there p w.objects m.number m.object (record { at = r.at; live = r.live }) in
      let f1 = of_field p (types_of w.objects) (slot_of p f x).number i (fields_of p m.object.type) m.object.cells a frame.vars (blocks_of p w.objects)
      (h.shaped.each m.number m.object r.at)
      (record {
        number = m.number;
        refers = ap frame.vars (sym (as_reference (slot_of p f x) is_reference)) ∙ slot_holds p (types_of w.objects) f s frame x (reference m.number) h.stands r.var;
        block = _;
        live = block;
        numbers = refl;
        references = refl;
      }) at in
      record {
        decl = f1.0;
        at = ap (λ t. slice_get (fields_of p t) i) (sym type_is) ∙ f1.1;
        shape = f1.2;
        cells = subst (λ t. HaveCells (cells_at (slot_of p f x).number (past_all first_numbers (field_sorts p (take i (fields_of p t)))) (slot_sorts p f1.0.ty)) (slot_values p f1.0.ty a) frame.vars (blocks_of p w.objects)) type_is f1.3;
        declared = declared_is f x t.ty t.declared;
        refers = is_reference;
        object = subst (λ o. (args : List ℕ) × (object_in o ≡ Some (object_type_of o, args))) (sym t.declared) o.object;
      }
    where
      some_nat : (a b : ℕ) → (let o : Option ℕ = Some a in o ≡ Some b) → a ≡ b
      some_nat a b e = cc

  fields_stand : FieldsStand p f s w.objects frame (c_world p g w)
  fields_stand x i z e =
      let a = then_ok (values.value_of p f (core.field x i) s w.objects) values.number_in z e in
      let b = then_ok (values.touchable p f x i s w.objects) (λ m. or_fault source.missing (slice_get m.object.cells i)) a.found a.first in
      let is_z = number_is a.found z a.second in
      let t = touched x i b.found (one (source.number z)) (after_ok (reference_of f x) (guarded_of f x) x (λ r. permitted_in p r.type i) s w.objects b.found b.first)
      (or_fault_ok source.missing (slice_get b.found.object.cells i) a.found b.second ∙ ap (λ a. Some a) is_z) in
      let o = of_number_is p (types_of w.objects) t.decl.ty z t.shape in
      let sorts : sorts_at p (object_type f x) i ≡ of_number ∷ [] = ap (λ d. sorts_of_field p d) t.at ∙ o.sorts in
      let start = past_all first_numbers (field_sorts p (take i (fields_of p (object_type f x)))) in
      record {
        index = start.n;
        cells = ap (cells_at (slot_of p f x).number start) sorts;
        sorts = sorts;
        declared = t.declared;
        refers = t.refers;
        value = (subst (λ ss. HaveCells (cells_at (slot_of p f x).number start ss) (cw.number z ∷ []) frame.vars (blocks_of p w.objects)) o.sorts t.cells).0;
      }

  leaves : LeavesStand p f s w.objects (first_temps p f) frame (c_world p g w)
  leaves = leaves_stand p f s w.objects frame (c_world p g w) numbers_stand fields_stand

result_same : (y z : ℤ) → (let r : Result ℤ TrapKind = Ok y in r ≡ Ok z) → y ≡ z
result_same y z e = cc

never_ok : (k : TrapKind) (z : ℤ) → (let r : Result ℤ TrapKind = Err k in r ≡ Ok z) → ⊥
never_ok k z e = cc

trap_range : (y z : ℤ) → in_range_or_trap y ≡ Ok z → is_in_range z ≡ true
trap_range y z e = by (is_in_range y) refl e
  where
    by : (b : Bool) → is_in_range y ≡ b → (if b then Ok y else Err Overflow) ≡ Ok z → is_in_range z ≡ true
    by true q e = ap is_in_range (sym (result_same y z e)) ∙ q
    by false q e = absurd (never_ok Overflow z e)

bool_range : (b : Bool) (z : ℤ) → (let r : Result ℤ TrapKind = Ok (bool_number b) in r ≡ Ok z) → is_in_range z ≡ true
bool_range true z e = ap is_in_range (sym (result_same (pos 1) z e))
bool_range false z e = ap is_in_range (sym (result_same (pos 0) z e))

word_range : (y z : ℤ) → is_in_range y ≡ true → (let r : Result ℤ TrapKind = Ok y in r ≡ Ok z) → is_in_range z ≡ true
word_range y z h e = ap is_in_range (sym (result_same y z e)) ∙ h

divided_range : (x y value z : ℤ) → (is_in_range (int_div x y) ≡ true → is_in_range value ≡ true) → division_value x y value ≡ Ok z → is_in_range z ≡ true
divided_range x y value z h e = by (equals y (pos 0)) e
  where
    inner : (b : Bool) → is_in_range (int_div x y) ≡ b → (if b then Ok value else Err Overflow) ≡ Ok z → is_in_range z ≡ true
    inner true q e = ap is_in_range (sym (result_same value z e)) ∙ h q
    inner false q e = absurd (never_ok Overflow z e)

    by : (b : Bool) → (if b then Err ZeroDivisor else if is_in_range (int_div x y) then Ok value else Err Overflow) ≡ Ok z → is_in_range z ≡ true
    by true e = absurd (never_ok ZeroDivisor z e)
    by false e = inner (is_in_range (int_div x y)) refl e

applied_range : (o : Op) (x y z : ℤ) → is_in_range x ≡ true → is_in_range y ≡ true → applied o x y ≡ Ok z → is_in_range z ≡ true
applied_range op.Negate x y z a b e = trap_range (neg_ℤ x) z e
applied_range op.Not x y z a b e = bool_range (not (is_true x)) z e
applied_range op.Multiply x y z a b e = trap_range (x *ℤ y) z e
applied_range op.Divide x y z a b e = divided_range x y (int_div x y) z (λ h. h) e
applied_range op.Remainder x y z a b e = divided_range x y (int_rem x y) z (λ h. word_results.remainder x y a b) e
applied_range op.Add x y z a b e = trap_range (x +ℤ y) z e
applied_range op.Subtract x y z a b e = trap_range (x -ℤ y) z e
applied_range op.Less x y z a b e = bool_range (int_lt x y) z e
applied_range op.LessOrEqual x y z a b e = bool_range (int_le x y) z e
applied_range op.Greater x y z a b e = bool_range (int_lt y x) z e
applied_range op.GreaterOrEqual x y z a b e = bool_range (int_le y x) z e
applied_range op.Equal x y z a b e = bool_range (equals x y) z e
applied_range op.NotEqual x y z a b e = bool_range (not (equals x y)) z e
applied_range op.BitAnd x y z a b e = word_range (int_bit_and w64 x y) z (word_results.bit_and x y a b) e
applied_range op.BitXor x y z a b e = word_range (int_bit_xor w64 x y) z (word_results.bit_xor x y a b) e
applied_range op.BitOr x y z a b e = word_range (int_bit_or w64 x y) z (word_results.bit_or x y a b) e
applied_range op.And x y z a b e = bool_range (is_true x && is_true y) z e
applied_range op.Or x y z a b e = bool_range (is_true x || is_true y) z e

pub then_is : {A B : Type 0} (m : Found A) (go : A → Found B) (a : A) (b : B) → m ≡ Ok a → go a ≡ Ok b → (m >>= go) ≡ Ok b
then_is m go a b e q = ap (λ m. m >>= go) e ∙ q

-- a step that gives the operator's result
trap_is : (r : Result ℤ TrapKind) (v : source.Value) (z : ℤ) → values.or_trap r ≡ Ok v → values.number_in v ≡ Ok z → r ≡ Ok z
trap_is (Ok y) v z e q = ap (λ y. Ok y) (ok_same y z (ap values.number_in (ok_same (one (source.number y)) v e) ∙ q))
trap_is (Err k) v z e q = absurd (err_ok (source.trap k) v e)

-- both sides of an operator
strict_range : (o : Op) (x : ℤ) (b : Found source.Value) (v : source.Value) (z : ℤ) → is_in_range x ≡ true →
    ((y : ℤ) → (b >>= values.number_in) ≡ Ok y → is_in_range y ≡ true) → (b >>= (λ v. values.number_in v >>= (λ y. values.or_trap (applied o x y)))) ≡ Ok v → values.number_in v ≡ Ok z → is_in_range z ≡ true
strict_range o x b v z hx hb e q =
    let c = then_ok b (λ v. values.number_in v >>= (λ y. values.or_trap (applied o x y))) v e in
    let d = then_ok (values.number_in c.found) (λ y. values.or_trap (applied o x y)) v c.second in
    applied_range o x d.found z hx (hb d.found (then_is b values.number_in c.found d.found c.first d.first)) (trap_is (applied o x d.found) v z d.second q)

both_range : (o : Op) (x : ℤ) (b : Found source.Value) (v : source.Value) (z : ℤ) → is_in_range x ≡ true →
    ((y : ℤ) → (b >>= values.number_in) ≡ Ok y → is_in_range y ≡ true) → values.value_of_both o x b ≡ Ok v → values.number_in v ≡ Ok z → is_in_range z ≡ true
both_range op.And x b v z hx hb e q = by (is_true x) e
  where
    by : (t : Bool) → (if t then b else values.is_number x) ≡ Ok v → is_in_range z ≡ true
    by true e = hb z (then_is b values.number_in v z e q)
    by false e = ap is_in_range (sym (ok_same x z (ap values.number_in (ok_same (one (source.number x)) v e) ∙ q))) ∙ hx
both_range op.Or x b v z hx hb e q = by (is_true x) e
  where
    by : (t : Bool) → (if t then values.is_number x else b) ≡ Ok v → is_in_range z ≡ true
    by false e = hb z (then_is b values.number_in v z e q)
    by true e = ap is_in_range (sym (ok_same x z (ap values.number_in (ok_same (one (source.number x)) v e) ∙ q))) ∙ hx
both_range op.Multiply x b v z hx hb e q = strict_range op.Multiply x b v z hx hb e q
both_range op.Divide x b v z hx hb e q = strict_range op.Divide x b v z hx hb e q
both_range op.Remainder x b v z hx hb e q = strict_range op.Remainder x b v z hx hb e q
both_range op.Add x b v z hx hb e q = strict_range op.Add x b v z hx hb e q
both_range op.Subtract x b v z hx hb e q = strict_range op.Subtract x b v z hx hb e q
both_range op.Less x b v z hx hb e q = strict_range op.Less x b v z hx hb e q
both_range op.LessOrEqual x b v z hx hb e q = strict_range op.LessOrEqual x b v z hx hb e q
both_range op.Greater x b v z hx hb e q = strict_range op.Greater x b v z hx hb e q
both_range op.GreaterOrEqual x b v z hx hb e q = strict_range op.GreaterOrEqual x b v z hx hb e q
both_range op.Equal x b v z hx hb e q = strict_range op.Equal x b v z hx hb e q
both_range op.NotEqual x b v z hx hb e q = strict_range op.NotEqual x b v z hx hb e q
both_range op.BitAnd x b v z hx hb e q = strict_range op.BitAnd x b v z hx hb e q
both_range op.BitXor x b v z hx hb e q = strict_range op.BitXor x b v z hx hb e q
both_range op.BitOr x b v z hx hb e q = strict_range op.BitOr x b v z hx hb e q
both_range op.Negate x b v z hx hb e q = strict_range op.Negate x b v z hx hb e q
both_range op.Not x b v z hx hb e q = strict_range op.Not x b v z hx hb e q

module _ (p : Program) (f : Func) (s : source.Frame) (w : source.World) (frame : crun.Frame) (g : Registers) (k : ℕ) (h : Begins p f k s w frame g) where
  pub in_range : (e : core.Expr) → has_literals e ≡ true → IsInRange p f s w.objects e
  in_range (core.number y) l z e = ap is_in_range (sym (ok_same y z e)) ∙ and_right (int_le (pos 0) y) (is_in_range y) l
  in_range (core.truth b) l z e = bool_range b z (ap (λ z. Ok z) (ok_same (bool_number b) z e))
  in_range (core.var v) l z e =
      let a = then_ok (values.value_of p f (core.var v) s w.objects) values.number_in z e in
      let t = typed p (types_of w.objects) f s frame v (one (source.number z)) h.stands (or_fault_ok source.no_value (s.vars v) a.found a.first ∙ ap (λ a. Some a) (number_is a.found z a.second)) in
      (of_number_is p (types_of w.objects) t.ty z t.shape).range
  in_range (core.field x i) l z e =
      let a = then_ok (values.value_of p f (core.field x i) s w.objects) values.number_in z e in
      let b = then_ok (values.touchable p f x i s w.objects) (λ m. or_fault source.missing (slice_get m.object.cells i)) a.found a.first in
      let t = touched p f s w frame g k h x i b.found (one (source.number z)) (after_ok (reference_of f x) (guarded_of f x) x (λ r. permitted_in p r.type i) s w.objects b.found b.first)
      (or_fault_ok source.missing (slice_get b.found.object.cells i) a.found b.second ∙ ap (λ a. Some a) (number_is a.found z a.second)) in
      (of_number_is p (types_of w.objects) t.decl.ty z t.shape).range
  in_range (core.unary o a) l z e =
      let v = then_ok (values.value_of p f (core.unary o a) s w.objects) values.number_in z e in
      let x = then_ok (values.value_of p f a s w.objects) (λ v. values.number_in v >>= (λ z. values.or_trap (applied o z (pos 0)))) v.found v.first in
      let y = then_ok (values.number_in x.found) (λ z. values.or_trap (applied o z (pos 0))) v.found x.second in
      applied_range o y.found (pos 0) z (in_range a l y.found (then_is (values.value_of p f a s w.objects) values.number_in x.found y.found x.first y.first)) refl
      (trap_is (applied o y.found (pos 0)) v.found z y.second v.second)
  in_range (core.binary o a b) l z e =
      let v = then_ok (values.value_of p f (core.binary o a b) s w.objects) values.number_in z e in
      let x = then_ok (values.value_of p f a s w.objects) (λ v. values.number_in v >>= (λ z. values.value_of_both o z (values.value_of p f b s w.objects))) v.found v.first in
      let y = then_ok (values.number_in x.found) (λ z. values.value_of_both o z (values.value_of p f b s w.objects)) v.found x.second in
      both_range o y.found (values.value_of p f b s w.objects) v.found z
      (in_range a (and_left (has_literals a) (has_literals b) l) y.found (then_is (values.value_of p f a s w.objects) values.number_in x.found y.found x.first y.first))
      (λ q d. in_range b (and_right (has_literals a) (has_literals b) l) q d) y.second v.second

  operands_range : (e : core.Expr) → has_literals e ≡ true → AreOperandsInRange p f s w.objects e
  operands_range (core.number z) l = tt
  operands_range (core.truth b) l = tt
  operands_range (core.var v) l = tt
  operands_range (core.field x i) l = tt
  operands_range (core.unary o a) l = (in_range a l, operands_range a l)
  operands_range (core.binary o a b) l = (
    (in_range a (and_left (has_literals a) (has_literals b) l), operands_range a (and_left (has_literals a) (has_literals b) l)),
    (in_range b (and_right (has_literals a) (has_literals b) l), operands_range b (and_right (has_literals a) (has_literals b) l)),
  )

pub numbers_are_right : (p : Program) → NumbersAreRight p
numbers_are_right p f e ids ty t k s w frame g is proper broken up h =
    expressions_are_right p f s w.objects (first_temps p f) frame (c_world p g w) (leaves p f s w frame g k h) e (and_left (has_arities e) (has_literals e) proper)
    (operands_range p f s w frame g k h e (and_right (has_arities e) (has_literals e) proper)) t frame up (alike_self (first_temps p f) frame)
