-- Returns: a variant's slots after the first go into the registers.
use Rattle.std.proofs.lemmas.Bool.{eq-eqb}
use Rattle.std.proofs.Common.{◌≡◌, ◌≤◌, ℕ, zero, suc, ◌==◌, ◌&&◌, Bool, true, false, if◌then◌else◌, List, [], ◌∷◌, ◌++◌, map, length, Option, Some, None, slice_get, Result, Ok, Err, refl, sym, ap, ◌∙◌, subst, pos}
use Rattle.c_lower_worlds.specs.Naming.KindedParts.{is_proper_operand}
use Rattle.c_lower_worlds.proofs.OfNaming.RuleFacts.{both_empty}
use Rattle.vlt_core_laws.proofs.Unbroken.{unless_holds}
use Rattle.vlt_core_laws.proofs.Ids.{and_left}
use Rattle.vlt_core.specs.declared.rules.TheConstants as rule
use Rattle.vlt_core.specs.KindedHeads.{Rules, unless, has, new_keys}
use Rattle.vlt_core.specs.KindedCalls.{new_result_broken, return_broken}
use Rattle.vlt_core.specs.Types.{same_keys}
use Rattle.c_lower_worlds.proofs.OfOperators.Codes.{alike_self, up_self}
use Rattle.c_lower_worlds.specs.Operators.Codes.{AreUpTo}
use Rattle.vlt_core.specs.KindedOperands.{operand_broken}
use Rattle.c_meaning.specs.Blocks.{Blocks}
use Rattle.vlt_core.specs.Core as core
use Rattle.vlt_core.specs.Core.{Ty, Entry, Operand, pure, move, pack, Func, Program}
use Rattle.vlt_core.specs.Lookups.{is_new, after_set, Reference, reference_of, var_type}
use Rattle.vlt_core.specs.KindedScopes.{Ids, use_broken}
use Rattle.vlt_meaning.specs.World as source
use Rattle.vlt_meaning.specs.Found.{◌>>=◌, or_fault, Named}
use Rattle.vlt_meaning.specs.Objects.{in_states}
use Rattle.vlt_meaning.specs.Values.{held_object, object_of, tracked_object}
use Rattle.vlt_meaning.specs.Calls as calls
use Rattle.vlt_meaning.specs.Calls.{returned_object, returned_objects, new_object, entries_after, holds_only, is_emptied}
use Rattle.vlt_meaning.specs.Run as run
use Rattle.c_syntax.specs.View.{stmts_made}
use Rattle.c_syntax.specs.C as syntax
use Rattle.c_syntax.specs.declared.program.CVar.{CVar}
use Rattle.c_meaning.specs.World as cw
use Rattle.c_meaning.specs.Values as cvalues
use Rattle.c_meaning.specs.Run as crun
use Rattle.c_lower.specs.Slots.{Numbers, first_temps, vars_at, slot_sorts}
use Rattle.c_lower.specs.Expressions.{Atom, variable, atom_expr, first_atom, operand_code}
use Rattle.c_lower.specs.Statements.{return_stmts, rest_puts, after_first, is_variant, return_code}
use Rattle.c_lower_worlds.specs.Worlds.{c_part, Registers, AreRegisters, c_world, slot_values, numbers_in, references_in}
use Rattle.c_lower_worlds.specs.Given.{IsFed}
use Rattle.c_lower_worlds.specs.Shapes.{types_of, HasShape, AreShaped}
use Rattle.c_lower_worlds.specs.Frames.{HaveValues}
use Rattle.c_lower_worlds.specs.Same.{Same, Gives, IsGiven, InRegisters, first_value, HangsOnNothing, HangOnNothing, BeginWith}
use Rattle.c_lower_worlds.specs.SameStatements.{Begins, IsSameForm}
use Rattle.c_lower_worlds.specs.Naming.Functions.{IsFunction}
use Rattle.c_lower_worlds.specs.Operands.{HaveAtoms, AreVariables, OperandsAreRight, RegistersSuffice}
use Rattle.c_lower_worlds.proofs.OfNaming.FoundObjects.{OnlyFaults, then_ok, ok_same, err_ok, or_fault_ok, held_ok, held_free, held_faults, object_of_ok, object_of_faults, in_states_ok, then_faults, if_so_faults, IsFree}
use Rattle.c_lower_worlds.proofs.SameSteps.{found_same, where_same}
use Rattle.c_lower_worlds.proofs.StatementLists.{Runs, runs_then}
use Rattle.c_lower_worlds.proofs.VariantSlots.{shape_sorts}
use Rattle.c_lower_runs.proofs.OfForms.VariantRegisters.{rest_put, slots_fit, Put, FitKinds}

-- ---- the objects of the clause's keys

returned_faults : (p : Program) (f : Func) (value : Option Operand) (es : List Entry) (s : source.Frame) (os : List source.Object) → OnlyFaults (returned_objects p f value es s os)
returned_faults p f value [] s os = tt
returned_faults p f value (e ∷ es) s os =
    then_faults (returned_object p f value e s os) (λ n. returned_objects p f value es s os >>= (λ ns. Ok (n.number ∷ ns))) (one (is_new e))
    (λ n. then_faults (returned_objects p f value es s os) (λ ns. Ok (n.number ∷ ns)) (returned_faults p f value es s os) (λ ns. tt))
  where
    new : (value : Option Operand) → OnlyFaults (new_object p f value e s os)
    new None = refl
    new (Some (pure (core.var x))) = object_of_faults f (λ r. after_set p f e) x s os
    new (Some (pure (core.number z))) = refl
    new (Some (pure (core.truth b))) = refl
    new (Some (pure (core.field x i))) = refl
    new (Some (pure (core.unary o a))) = refl
    new (Some (pure (core.binary o a b))) = refl
    new (Some (move v)) = refl
    new (Some (pack x states)) = refl

    one : (b : Bool) → OnlyFaults (if b then new_object p f value e s os else held_object e.key s os >>= in_states (after_set p f e))
    one true = new value
    one false = then_faults (held_object e.key s os) (in_states (after_set p f e)) (held_faults e.key s os) (λ m. if_so_faults (after_set p f e m.object.state) source.wrong_state m)

hangs : (os : List source.Object) (m : Named) → slice_get os m.number ≡ Some m.object → IsFree m.object.owner → HangsOnNothing os m.number
hangs os m at free = record { object = m.object; at = at; above = free.above; out = free.out; live = free.live }

kept_hang : (p : Program) (f : Func) (value : Option Operand) (es : List Entry) (s : source.Frame) (os : List source.Object) (kept : List ℕ) →
    returned_objects p f value es s os ≡ Ok kept → HangOnNothing os kept
kept_hang p f value [] s os kept e = subst (HangOnNothing os) (ok_same [] kept e) tt
kept_hang p f value (x ∷ es) s os kept e =
    let a = then_ok (returned_object p f value x s os) (λ n. returned_objects p f value es s os >>= (λ ns. Ok (n.number ∷ ns))) kept e in
    let b = then_ok (returned_objects p f value es s os) (λ ns. Ok (a.found.number ∷ ns)) kept a.second in
    subst (HangOnNothing os) (ok_same (a.found.number ∷ b.found) kept b.second)
    (one a.found (is_new x) a.first, kept_hang p f value es s os b.found b.first)
  where
    of_object : (x : ℕ) (states : Reference → core.States) (m : Named) → object_of f states x s os ≡ Ok m → HangsOnNothing os m.number
    of_object x states m e =
        let a = then_ok (or_fault source.missing (reference_of f x)) (λ r. tracked_object r x s os >>= in_states (states r)) m e in
        let h = object_of_ok f states x a.found s os m (or_fault_ok source.missing (reference_of f x) a.found a.first) e in
        hangs os m h.refers.at h.free

    new : (value : Option Operand) (m : Named) → new_object p f value x s os ≡ Ok m → HangsOnNothing os m.number
    new (Some (pure (core.var y))) m e = of_object y (λ r. after_set p f x) m e
    new None m e = absurd (err_ok (source.fault source.missing None) m e)
    new (Some (pure (core.number z))) m e = absurd (err_ok (source.fault source.missing None) m e)
    new (Some (pure (core.truth b))) m e = absurd (err_ok (source.fault source.missing None) m e)
    new (Some (pure (core.field y i))) m e = absurd (err_ok (source.fault source.missing None) m e)
    new (Some (pure (core.unary o a))) m e = absurd (err_ok (source.fault source.missing None) m e)
    new (Some (pure (core.binary o a b))) m e = absurd (err_ok (source.fault source.missing None) m e)
    new (Some (move v)) m e = absurd (err_ok (source.fault source.missing None) m e)
    new (Some (pack y states)) m e = absurd (err_ok (source.fault source.missing None) m e)

    one : (m : Named) (b : Bool) → (if b then new_object p f value x s os else held_object x.key s os >>= in_states (after_set p f x)) ≡ Ok m → HangsOnNothing os m.number
    one m true e = new value m e
    one m false e =
        let a = then_ok (held_object x.key s os) (in_states (after_set p f x)) m e in
        let h = held_ok x.key s os a.found a.first in
        subst (λ (m : Named). HangsOnNothing os m.number) (in_states_ok (after_set p f x) a.found m a.second) (hangs os a.found h.at (held_free s.depth x.key a.found.object.owner h.held))

-- ---- atoms

-- variables that are atoms have their values
vars_have : (vs : List CVar) (values : List cw.Value) (h : crun.Frame) (bs : Blocks) → HaveAtoms (map variable vs) values h bs → HaveValues vs values h
vars_have [] [] h bs e = tt
vars_have [] (a ∷ values) h bs e = absurd e
vars_have (v ∷ vs) [] h bs e = absurd e
vars_have (v ∷ vs) (a ∷ values) h bs e = (set_is (h.vars v) e.0, vars_have vs values h bs e.1)
  where
    set_is : (o : Option cw.Value) → cvalues.or_unset o ≡ Ok a → o ≡ Some a
    set_is None e = absurd (never e)
      where
        never : (let r : Result cw.Value ℕ = Err 5 in r ≡ Ok a) → ⊥
        never e = cc
    set_is (Some b) e = ap (λ b. Some b) (same e)
      where
        same : (let r : Result cw.Value ℕ = Ok b in r ≡ Ok a) → b ≡ a
        same e = cc

first_has : (atoms : List Atom) (values : List cw.Value) (h : crun.Frame) (bs : Blocks) (v : cw.Value) → HaveAtoms atoms values h bs → first_value values ≡ Some v →
    cvalues.value_of (atom_expr (first_atom atoms)) h.vars bs ≡ Ok v
first_has [] [] h bs v e f = absurd (never f)
  where
    never : (let o : Option cw.Value = None in o ≡ Some v) → ⊥
    never e = cc
first_has [] (a ∷ values) h bs v e f = absurd e
first_has (x ∷ atoms) [] h bs v e f = absurd e
first_has (x ∷ atoms) (a ∷ values) h bs v e f = e.0 ∙ ap (λ b. Ok b) (same f)
  where
    same : (let o : Option cw.Value = Some a in o ≡ Some v) → a ≡ v
    same e = cc

-- ---- what comes back

record HasFirst (values : List cw.Value) : Type 0 where
  value : cw.Value
  is : first_value values ≡ Some value

single_first : (p : Program) (ty : Ty) (a : source.Value) (part : source.Part) → a ≡ source.one part → HasFirst (slot_values p ty a)
single_first p ty a part e = record { value = c_part part; is = ap (λ a. first_value (slot_values p ty a)) e }

none_begins : {A : Type 0} (xs : List A) → BeginWith [] xs
none_begins {A} xs = record { at = λ k y e. absurd (never k y e) }
  where
    never : (k : ℕ) (y : A) → (let ys : List A = [] in slice_get ys k ≡ Some y) → ⊥
    never zero y e = cc
    never (suc k) y e = cc

returned : (R : crun.Setup) (cm : crun.Meaning) (e : syntax.Expr) (v : cw.Value) (f : crun.Frame) (w : cw.World) → cvalues.value_of e f.vars w.blocks ≡ Ok v →
    Runs R cm (syntax.return (Some e) ∷ []) f w (crun.leaves (Some v) w)
unfolding crun.with_found crun.then_do
returned R cm e v f w is n = rw is refl

returned_nothing : (R : crun.Setup) (cm : crun.Meaning) (f : crun.Frame) (w : cw.World) → Runs R cm (syntax.return None ∷ []) f w (crun.leaves None w)
unfolding crun.then_do
returned_nothing R cm f w n = refl

module _ (p : Program) (R : crun.Setup) (cm : crun.Meaning) (enough : RegistersSuffice p) where
  -- the function is left with the value, and with the rest of it in the registers
  pub record GivenBack (ty : Ty) (a : source.Value) (atoms : List Atom) (f : crun.Frame) (w : source.World) (g : Registers) : Type 0 where
    pub value : Option cw.Value
    pub registers : Registers
    pub runs : Runs R cm (return_stmts (Some ty) atoms) f (c_world p g w) (crun.leaves value (c_world p registers w))
    pub gives : IsGiven p (types_of w.objects) ty a value registers
    pub are : AreRegisters registers

  single_back : (ty : Ty) (a : source.Value) (atoms : List Atom) (f : crun.Frame) (w : source.World) (g : Registers) → is_variant (Some ty) ≡ false →
      HasFirst (slot_values p ty a) → HasShape p (types_of w.objects) ty a → AreRegisters g → HaveAtoms atoms (slot_values p ty a) f (c_world p g w).blocks →
      GivenBack ty a atoms f w g
  single_back ty a atoms f w g single first shape are have = record {
    value = Some first.value;
    registers = g;
    runs = subst (λ b. Runs R cm ((if b then rest_puts (after_first atoms) else []) ++ syntax.return (Some (atom_expr (first_atom atoms))) ∷ []) f (c_world p g w) (crun.leaves (Some first.value) (c_world p g w)))
        (sym single) (returned R cm (atom_expr (first_atom atoms)) first.value f (c_world p g w) (first_has atoms (slot_values p ty a) f (c_world p g w).blocks first.value have first.is));
    gives = record {
      shape = shape;
      first = sym first.is;
      rest = subst (λ b. InRegisters (if b then after_first (slot_values p ty a) else []) g) (sym single)
          (record { numbers = none_begins g.numbers; references = none_begins g.references });
    };
    are = are;
  }

  variant_back : (ty : Ty) (a : source.Value) (atoms : List Atom) (f : crun.Frame) (w : source.World) (g : Registers) → is_variant (Some ty) ≡ true →
      HasFirst (slot_values p ty a) → HasShape p (types_of w.objects) ty a → AreRegisters g → HaveAtoms atoms (slot_values p ty a) f (c_world p g w).blocks →
      AreVariables p ty atoms → GivenBack ty a atoms f w g
  variant_back ty a atoms f w g many first shape are have vars = record {
    value = Some first.value;
    registers = put.registers;
    runs = subst (λ b. Runs R cm ((if b then rest_puts (after_first atoms) else []) ++ last) f (c_world p g w) (crun.leaves (Some first.value) (c_world p put.registers w)))
        (sym many)
        (runs_then R cm (rest_puts (after_first atoms)) last f f (c_world p g w) (c_world p put.registers w) (crun.leaves (Some first.value) (c_world p put.registers w)) put_runs
        (returned R cm (atom_expr (first_atom atoms)) first.value f (c_world p put.registers w) (first_has atoms values f (c_world p g w).blocks first.value have first.is)));
    gives = record {
      shape = shape;
      first = sym first.is;
      rest = subst (λ b. InRegisters (if b then after_first values else []) put.registers) (sym many) put.holds;
    };
    are = put.are;
  }
    where
      last : List syntax.Stmt
      last = syntax.return (Some (atom_expr (first_atom atoms))) ∷ []

      values : List cw.Value
      values = slot_values p ty a

      slots : List CVar
      slots = vars_at vars.from (slot_sorts p ty)

      here : HaveValues slots values f
      here = vars_have slots values f (c_world p g w).blocks (subst (λ atoms. HaveAtoms atoms values f (c_world p g w).blocks) vars.are have)

      tail_have : (vs : List CVar) (values : List cw.Value) → HaveValues vs values f → HaveValues (after_first vs) (after_first values) f
      tail_have [] [] h = tt
      tail_have [] (a ∷ values) h = absurd h
      tail_have (v ∷ vs) [] h = absurd h
      tail_have (v ∷ vs) (a ∷ values) h = h.1

      tail_fit : (vs : List CVar) (values : List cw.Value) → FitKinds vs values → FitKinds (after_first vs) (after_first values)
      tail_fit [] [] h = tt
      tail_fit [] (a ∷ values) h = absurd h
      tail_fit (v ∷ vs) [] h = absurd h
      tail_fit (v ∷ vs) (cw.number z ∷ values) h = h.1
      tail_fit (v ∷ vs) (cw.reference r ∷ values) h = h.1

      tail_map : (vs : List CVar) → after_first (map variable vs) ≡ map variable (after_first vs)
      tail_map [] = refl
      tail_map (v ∷ vs) = refl

      few : length (numbers_in (after_first values)) ≤ 8
      few = subst (λ b. length (numbers_in (if b then after_first values else [])) ≤ 8) many (enough.numbers (types_of w.objects) ty a shape)

      small : length (references_in (after_first values)) ≤ 16
      small = subst (λ b. length (references_in (if b then after_first values else [])) ≤ 16) many (enough.references (types_of w.objects) ty a shape)

      put : Put R cm p (after_first slots) (after_first values) f w g
      put = rest_put R cm p (after_first slots) (after_first values) f w g are
          (tail_fit slots values (slots_fit vars.from (slot_sorts p ty) values (shape_sorts p (types_of w.objects) ty a shape))) (tail_have slots values here) few small

      put_runs : Runs R cm (rest_puts (after_first atoms)) f (c_world p g w) (crun.goes f (c_world p put.registers w))
      put_runs = subst (λ xs. Runs R cm (rest_puts xs) f (c_world p g w) (crun.goes f (c_world p put.registers w))) (sym (ap after_first vars.are ∙ tail_map slots)) put.runs

  pub given_back : (ty : Ty) (a : source.Value) (atoms : List Atom) (f : crun.Frame) (w : source.World) (g : Registers) →
      HasShape p (types_of w.objects) ty a → AreRegisters g → HaveAtoms atoms (slot_values p ty a) f (c_world p g w).blocks →
      (is_variant (Some ty) ≡ true → AreVariables p ty atoms) → GivenBack ty a atoms f w g
  given_back core.int a atoms f w g shape are have vars = single_back core.int a atoms f w g refl (single_first p core.int a shape.part shape.is) shape are have
  given_back core.bool a atoms f w g shape are have vars = single_back core.bool a atoms f w g refl (single_first p core.bool a shape.part shape.is) shape are have
  given_back (core.tracked k t args) a atoms f w g shape are have vars = single_back (core.tracked k t args) a atoms f w g refl (single_first p (core.tracked k t args) a shape.part shape.is) shape are have
  given_back (core.guarded k t args) a atoms f w g shape are have vars = single_back (core.guarded k t args) a atoms f w g refl (single_first p (core.guarded k t args) a shape.part shape.is) shape are have
  given_back (core.owning states t args) a atoms f w g shape are have vars = single_back (core.owning states t args) a atoms f w g refl (single_first p (core.owning states t args) a shape.part shape.is) shape are have
  given_back (core.variant t args) a atoms f w g shape are have vars =
      variant_back (core.variant t args) a atoms f w g refl (record { value = cw.number (pos shape.case); is = ap (λ a. first_value (slot_values p (core.variant t args) a)) shape.is }) shape are have (vars refl)
  given_back (core.owning_variant t args) a atoms f w g shape are have vars =
      variant_back (core.owning_variant t args) a atoms f w g refl (record { value = cw.number (pos shape.case); is = ap (λ a. first_value (slot_values p (core.owning_variant t args) a)) shape.is }) shape are have (vars refl)

  -- ---- the statement

  module _ (operands : OperandsAreRight p R cm) (heap depth : ℕ) (m : run.Meaning) (n : ℕ) where
    abbrev setup : run.Setup
    setup = record { program = p; heap = heap; depth = depth }

    left_same : (f : Func) (t : Numbers) (k : ℕ) (from : crun.Frame) (value : Option Operand) (a : Option source.Value) (s : source.Frame) (w : source.World) (g : Registers)
        (v : Option cw.Value) (c : crun.Step) → c ≡ crun.leaves v (c_world p g w) → Gives p (types_of w.objects) f.result a v g → AreShaped p w.objects → AreRegisters g → w.fuel ≤ k → IsFed w.input w.answers →
        Same p f t k from (run.left_function setup f value a s w) c
    unfolding run.left_function
    left_same f t k from value a s w g v c is gives shaped are fuel fed =
        found_same p f t k from (returned_objects p f value (entries_after f) s w.objects) w _ c (returned_faults p f value (entries_after f) s w.objects) (λ kept e.
        where_same p f t k from (holds_only kept s w.objects) source.left_behind None w _ c (λ only.
        where_same p f t k from (is_emptied f s) source.left_behind None w _ c (λ empty.
        record {
          value = v;
          registers = g;
          is = is;
          gives = gives;
          kept_objects = kept_hang p f value (entries_after f) s w.objects kept e;
          shaped = shaped;
          are = are;
          fed = fed;
          fuel_left = fuel;
        })))

    -- an operand of this type is returned, by a function whose result is laid out in the same way
    handed_back : (f : Func) (o : Operand) (ids : Ids) (ty : Ty) (t : Numbers) (k : ℕ) (s : source.Frame) (w : source.World) (frame : crun.Frame) (g : Registers) (i : ℕ) →
        IsFunction p f → is_proper_operand o ≡ true → operand_broken p f ids (Some ty) o ≡ [] → AreUpTo (first_temps p f) t → Begins p f k s w frame g →
        is_variant f.result ≡ is_variant (Some ty) →
        ((types : List ℕ) (a : source.Value) (v : Option cw.Value) (g : Registers) → IsGiven p types ty a v g → Gives p types f.result (Some a) v g) →
        Same p f t k frame (calls.with_returned p f (Some o) s w (λ a s w. run.left_function setup f (Some o) a s w))
        (crun.does_stmts R cm i (stmts_made (return_code p f t (Some o)).stmts) frame (c_world p g w))
    unfolding calls.with_returned
    handed_back f o ids ty t k s w frame g i is proper broken up begin alike as_result =
        operands f o ids ty t t k s w frame g i (λ a s w. run.left_function setup f (Some o) (Some a) s w) (return_stmts f.result (operand_code p f t o).atoms) is proper broken up (up_self t) begin
        (λ a s2 w2 to j h.
        let back = given_back ty a (operand_code p f t o).atoms to w2 g h.shape h.begins.registers (h.have to (c_world p g w2).blocks (alike_self (operand_code p f t o).next to)) h.variables in
        left_same f t k to (Some o) (Some a) s2 w2 back.registers back.value _
        (subst (λ b. crun.does_stmts R cm j (stmts_made ((if b then rest_puts (after_first (operand_code p f t o).atoms) else []) ++ syntax.return (Some (atom_expr (first_atom (operand_code p f t o).atoms))) ∷ [])) to (c_world p g w2) ≡ crun.leaves back.value (c_world p back.registers w2))
        (sym alike) (back.runs j))
        (as_result (types_of w2.objects) a back.value back.registers back.gives) h.begins.shaped back.are h.begins.fuel_left h.begins.fed)

    tracked_given : (types : List ℕ) (k j t : ℕ) (args others : List ℕ) (a : source.Value) (v : Option cw.Value) (g : Registers) →
        IsGiven p types (core.tracked j t others) a v g → IsGiven p types (core.tracked k t args) a v g
    tracked_given types k j t args others a v g h = record {
      shape = record { part = h.shape.part; is = h.shape.is; shape = h.shape.shape };
      first = h.first ∙ ap first_value (same a);
      rest = h.rest;
    }
      where
        same : (a : source.Value) → slot_values p (core.tracked j t others) a ≡ slot_values p (core.tracked k t args) a
        same (source.one x) = refl
        same (source.of_case c parts keys) = refl

    keys_self : (ks : List ℕ) → same_keys ks ks ≡ true
    keys_self [] = refl
    keys_self (k ∷ ks) = rw (eq-eqb k k refl) (keys_self ks)

    -- the reference that is returned for a new key
    record NewResult (f : Func) (ids : Ids) (t : ℕ) (o : Operand) : Type 0 where
      key : ℕ
      args : List ℕ
      fits : operand_broken p f ids (Some (core.tracked key t args)) o ≡ []

    not_new : (f : Func) (ids : Ids) (t : ℕ) (o : Operand) (r : ℕ) (rest : Rules) → r ∷ rest ≡ [] → NewResult f ids t o
    not_new f ids t o r rest e = absurd (never e)
      where
        never : r ∷ rest ≡ [] → ⊥
        never e = cc

    new_result : (f : Func) (ids : Ids) (t : ℕ) (args : List ℕ) (o : Operand) → new_result_broken p f ids t args o ≡ [] → NewResult f ids t o
    new_result f ids t args (pure (core.var x)) e = by (var_type f x) refl
      where
        by : (ty : Option Ty) → var_type f x ≡ ty → NewResult f ids t (pure (core.var x))
        by None q = record { key = 0; args = []; fits = rw q (rw (both_empty (use_broken f ids x) _ e).left refl) }
        by (Some (core.tracked j u others)) q =
            let e2 = rw q at (both_empty (use_broken f ids x) _ e).right in
            let same = unless_holds (t == u && same_keys args others) rule.WRONG_TYPE (both_empty (unless (t == u && same_keys args others) rule.WRONG_TYPE) _ e2).left in
            let t_is : (t == u) ≡ true = and_left (t == u) (same_keys args others) same in
            record { key = j; args = others; fits = rw q (rw ((both_empty (use_broken f ids x) _ e).left, eq-eqb j j refl, t_is, keys_self others) refl) }
        by (Some core.int) q = not_new f ids t _ _ [] (rw q at (both_empty (use_broken f ids x) _ e).right)
        by (Some core.bool) q = not_new f ids t _ _ [] (rw q at (both_empty (use_broken f ids x) _ e).right)
        by (Some (core.owning states u others)) q = not_new f ids t _ _ [] (rw q at (both_empty (use_broken f ids x) _ e).right)
        by (Some (core.guarded j u others)) q = not_new f ids t _ _ [] (rw q at (both_empty (use_broken f ids x) _ e).right)
        by (Some (core.variant u others)) q = not_new f ids t _ _ [] (rw q at (both_empty (use_broken f ids x) _ e).right)
        by (Some (core.owning_variant u others)) q = not_new f ids t _ _ [] (rw q at (both_empty (use_broken f ids x) _ e).right)
    new_result f ids t args (pure (core.number z)) e = not_new f ids t _ _ _ e
    new_result f ids t args (pure (core.truth b)) e = not_new f ids t _ _ _ e
    new_result f ids t args (pure (core.field x i)) e = not_new f ids t _ _ _ e
    new_result f ids t args (pure (core.unary o a)) e = not_new f ids t _ _ _ e
    new_result f ids t args (pure (core.binary o a b)) e = not_new f ids t _ _ _ e
    new_result f ids t args (move v) e = not_new f ids t _ _ _ e
    new_result f ids t args (pack x states) e = not_new f ids t _ _ _ e

    pub returns_same : (f : Func) (value : Option Operand) → IsFunction p f → IsSameForm p setup R m cm n f (core.return value)
    unfolding calls.with_returned
    returns_same f None is around ids t k s w frame g i kinded up le begin =
        by f.result refl (both_empty (unless around.returns rule.WRONG_JUMP) (return_broken p f ids f.result None) kinded.row).right
      where
        by : (r : Option Ty) → f.result ≡ r → return_broken p f ids r None ≡ [] →
            Same p f t k frame (run.left_function setup f None None s w) (crun.does_stmts R cm i (stmts_made (syntax.return None ∷ [])) frame (c_world p g w))
        by None e broken = left_same f t k frame None None s w g None _ (returned_nothing R cm frame (c_world p g w) i)
            (subst (λ r. Gives p (types_of w.objects) r None None g) (sym e) refl) begin.shaped begin.registers begin.fuel_left begin.fed
        by (Some ty) e broken = absurd (never rule.WRONG_RETURN broken)
          where
            never : (r : ℕ) → r ∷ [] ≡ [] → ⊥
            never r e = cc
    returns_same f (Some o) is around ids t k s w frame g i kinded up le begin =
        by f.result refl (both_empty (unless around.returns rule.WRONG_JUMP) (return_broken p f ids f.result (Some o)) kinded.row).right
      where
        Goal : Type 0
        Goal = Same p f t k frame (calls.with_returned p f (Some o) s w (λ a s w. run.left_function setup f (Some o) a s w))
            (crun.does_stmts R cm i (stmts_made (return_code p f t (Some o)).stmts) frame (c_world p g w))

        plain : (ty : Ty) → f.result ≡ Some ty → operand_broken p f ids (Some ty) o ≡ [] → Goal
        plain ty e broken = handed_back f o ids ty t k s w frame g i is kinded.proper broken up begin (ap is_variant e) (λ types a v g h. subst (λ r. Gives p types r (Some a) v g) (sym e) h)

        by_new : (j u : ℕ) (args : List ℕ) → f.result ≡ Some (core.tracked j u args) → (b : Bool) →
            (if b then new_result_broken p f ids u args o else operand_broken p f ids (Some (core.tracked j u args)) o) ≡ [] → Goal
        by_new j u args e false broken = plain (core.tracked j u args) e broken
        by_new j u args e true broken =
            let new = new_result f ids u args o broken in
            handed_back f o ids (core.tracked new.key u new.args) t k s w frame g i is kinded.proper new.fits up begin (ap is_variant e)
            (λ types a v g h. subst (λ r. Gives p types r (Some a) v g) (sym e) (tracked_given types j new.key u args new.args a v g h))

        by : (r : Option Ty) → f.result ≡ r → return_broken p f ids r (Some o) ≡ [] → Goal
        by None e broken = absurd (never rule.WRONG_RETURN (operand_broken p f ids None o) broken)
          where
            never : (r : ℕ) (rest : Rules) → r ∷ rest ≡ [] → ⊥
            never r rest e = cc
        by (Some core.int) e broken = plain core.int e broken
        by (Some core.bool) e broken = plain core.bool e broken
        by (Some (core.tracked j u args)) e broken = by_new j u args e (has (new_keys f) j) broken
        by (Some (core.owning states u args)) e broken = plain (core.owning states u args) e broken
        by (Some (core.guarded j u args)) e broken = plain (core.guarded j u args) e broken
        by (Some (core.variant u args)) e broken = plain (core.variant u args) e broken
        by (Some (core.owning_variant u args)) e broken = plain (core.owning_variant u args) e broken
