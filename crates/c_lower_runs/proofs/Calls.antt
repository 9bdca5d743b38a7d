-- A call of a function with a body: fuel, depth, the callee's frame, and what comes back, a variant by the registers.
use Rattle.std.proofs.Common.{◌≡◌, ◌≤◌, ◌<◌, ℕ, suc, ◌+◌, ◌-◌, ◌==◌, ◌&&◌, nat_lt, Bool, true, false, if◌then◌else◌, List, [], ◌∷◌, map, length, take, Option, Some, None, slice_get, Ok, refl, sym, ap, ◌∙◌, subst, arith, length-append, pos}
use Rattle.std.proofs.lemmas.Bool.{eq-eqb, eqb-true, true≢false}
use Rattle.std.proofs.lemmas.Bool.Decides.{nat_tests}
use Rattle.std.proofs.lemmas.Option.{none-some, slice_get-map}
use Rattle.std.specs.List.{flat_map}
use Rattle.std.specs.Option.{option_map}
use Rattle.c_syntax.specs.Kinds.{same_bool}
use Rattle.c_meaning.specs.Blocks.{Blocks}
use Rattle.vlt_core.specs.Core as core
use Rattle.vlt_core.specs.Core.{Ty, Stmts, Operand, Func, Program}
use Rattle.vlt_core.specs.Instances.{Bound, bound_in, instance, IsInstanceOf}
use Rattle.vlt_core.specs.Lookups.{var_type}
use Rattle.vlt_core.specs.KindedScopes.{Ids}
use Rattle.vlt_core.specs.KindedCalls.{call_broken}
use Rattle.vlt_core.specs.KindedBodies.{first_ids}
use Rattle.vlt_meaning.specs.World as source
use Rattle.vlt_meaning.specs.Found.{or_fault}
use Rattle.vlt_meaning.specs.Calls as calls
use Rattle.vlt_meaning.specs.Calls.{called_instance, state_under, passed_objects, handed_over, callee_frame, entries_after, bindings, with_names, with_holders, Binding}
use Rattle.vlt_meaning.specs.Externals.{call_external}
use Rattle.vlt_meaning.specs.Step as step
use Rattle.vlt_meaning.specs.Run as run
use Rattle.vlt_meaning_laws.specs.Keeping.{KeepsObjects, world_after}
use Rattle.c_syntax.specs.declared.program.CVar.{CVar}
use Rattle.c_syntax.specs.declared.program.CName.{CName}
use Rattle.c_syntax.specs.declared.program.CResult.{CResult}
use Rattle.c_syntax.specs.View.{stmts_made}
use Rattle.c_syntax.specs.C as syntax
use Rattle.c_meaning.specs.World as cw
use Rattle.c_meaning.specs.Values.{arg_values}
use Rattle.c_meaning.specs.Run as crun
use Rattle.c_lower.specs.Slots.{Numbers, first_temps, param_slots, slot_of, slot_vars, first_slot, vars_at, slot_sorts, sorts_of, first_numbers, var_sorts}
use Rattle.c_lower.specs.Expressions.{Atom, atom_arg, operand_codes}
use Rattle.c_lower.specs.Statements.{is_variant, call_stmts, results, after_first, name_of, is_external_at, list_code, body_of, form_code}
use Rattle.c_lower.specs.Lowering.{lowered, result_of}
use Rattle.c_lower_worlds.specs.Operators.Codes.{AreUpTo, IsBelow}
use Rattle.c_lower_worlds.proofs.OfOperators.Codes.{up_self, alike_self}
use Rattle.c_lower_worlds.specs.Worlds.{c_part, Registers, AreRegisters, c_world, blocks_of, slot_values}
use Rattle.c_lower_worlds.specs.Given.{IsFed}
use Rattle.c_lower_worlds.specs.Shapes.{types_of, HasShape, AreShaped}
use Rattle.c_lower_worlds.specs.Frames.{HaveValues, StandsFor, Spares, IsBetween}
use Rattle.c_lower_worlds.specs.Same.{Same, Gives, IsGiven, first_value, InRegisters}
use Rattle.c_lower_worlds.specs.SameStatements.{Begins, IsSameFormIn, RestIsSame}
use Rattle.c_lower_worlds.specs.Naming.Functions.{IsFunction}
use Rattle.vlt_core.specs.Kinded.{IsKinded}
use Rattle.vlt_core.specs.KindedHeads.{parameters_of}
use Rattle.vlt_core.specs.Types.{with_keys}
use Rattle.c_lower_worlds.specs.Naming.Types.{TypesFit}
use Rattle.c_lower_worlds.proofs.OfNaming.NamedCalls.{IsKnownCall, callee_in_scope}
use Rattle.c_lower_worlds.proofs.OfNaming.HeadKeys.{IsHeaded, headed}
use Rattle.c_lower_worlds.proofs.OfNaming.NamedInstances.{headed_instance, known_instance}
use Rattle.c_lower_worlds.proofs.OfNaming.NamedOperands.{AreOfTys, are_of_tys, tys_passed, operands_tested}
use Rattle.c_lower_worlds.specs.Naming.KindedParts.{HasKindedBodies}
use Rattle.c_lower_worlds.specs.Operands.{OperandsAreRight, HaveAtoms}
use Rattle.c_lower_worlds.specs.Naming.Lists.{Each}
use Rattle.c_lower_worlds.proofs.OfNaming.CallOperands.{OperandsFit}
use Rattle.c_lower_worlds.proofs.OperandLists.{HaveShapes, HaveEach, flat_values, arguments_then, args_are}
use Rattle.c_lower_runs.proofs.CalleeFrames.{ArgsFit, decl_values, called_frame, callee_stands, stands_have, decl_sorts}
use Rattle.c_lower_worlds.proofs.FrameChanges.{var_kept, var_set}
use Rattle.c_lower_runs.proofs.LoweredFunctions.{Found, external_of, body_found, body_func}
use Rattle.c_lower_runs.proofs.HandedObjects.{passed_faults, handed_same, holders_same}
use Rattle.c_lower_worlds.proofs.OfNaming.RunningInstances.{instance_for}
use Rattle.c_lower_worlds.proofs.VariantSlots.{shape_sorts}
use Rattle.c_lower_runs.proofs.OfForms.VariantRegisters.{FitKinds, slots_fit, result_got}
use Rattle.c_lower_worlds.proofs.StatementLists.{then_stops}
use Rattle.c_lower_worlds.proofs.LaterShapes.{Later, stands_later}
use Rattle.c_lower_worlds.proofs.VariableSlots.{Apart, each_map, slots_apart, below_temps, starts, AllApart}
use Rattle.c_lower_worlds.proofs.SameSteps.{found_same, where_same, spend_same, spares_self, spent_less, ended_through}
use Rattle.c_lower_worlds.proofs.OfNaming.FoundObjects.{or_faults, or_fault_ok}
use Rattle.c_lower_runs.proofs.OfForms.SetAndOwn.{slots_count}

-- what the rules say of calls
abbrev pub CallsKnown : Program → Type 0
CallsKnown p = (f : Func) (ids : Ids) (g : ℕ) (gf : Func) (target : Option ℕ) (keys : List ℕ) (os : List Operand) → IsFunction p f → slice_get p.fns g ≡ Some gf →
    call_broken p f ids (Some gf) target keys os ≡ [] → IsKnownCall p f ids gf target keys os

-- ---- what a call that breaks no rule says of types

-- the result has the slots of the target
pub record TargetFits (p : Program) (f gf : Func) (v : ℕ) : Type 0 where
  pub given : Ty
  pub result : gf.result ≡ Some given
  pub ty : Ty
  pub declared : var_type f v ≡ Some ty
  pub shape : (ts : List ℕ) (a : source.Value) → HasShape p ts given a → HasShape p ts ty a
  pub values : (a : source.Value) → slot_values p given a ≡ slot_values p ty a
  pub variant : is_variant (Some given) ≡ is_variant (Some ty)

abbrev pub IsTarget : Program → (f gf : Func) → Option ℕ → Type 0
IsTarget p f gf None = Unit {0}
IsTarget p f gf (Some v) = TargetFits p f gf v

pub record IsKindedCall (p : Program) (f gf : Func) (ids : Ids) (target : Option ℕ) (os : List Operand) : Type 0 where
  pub types : List Ty
  pub fits : OperandsFit p f ids types os
  -- the arguments have the shapes of the parameters, and the same slots
  pub shapes : (ts : List ℕ) (values : List source.Value) → HaveShapes p ts types values → ArgsFit p ts gf.vars values
  pub values : (ts : List ℕ) (values : List source.Value) → HaveShapes p ts types values → flat_values p types values ≡ decl_values p gf.vars values
  pub count : (ts : List ℕ) (values : List source.Value) → HaveShapes p ts types values → length values ≡ length os
  pub target_fits : IsTarget p f gf target

-- what a call says of its callee it says of each instance
abbrev pub target_of_instance : (p : Program) (f gf : Func) (target o : Option ℕ) → IsTarget p f gf target → IsTarget p f (instance p gf o) target
target_of_instance p f gf None o h = tt
target_of_instance p f gf (Some v) o h =
    record { given = h.given; result = h.result; ty = h.ty; declared = h.declared; shape = h.shape; values = h.values; variant = h.variant }

abbrev pub call_of_instance : {p : Program} {f gf : Func} {ids : Ids} {target : Option ℕ} {os : List Operand} → (o : Option ℕ) → IsKindedCall p f gf ids target os →
    IsKindedCall p f (instance p gf o) ids target os
call_of_instance {p} {f} {gf} {ids} {target} {os} o h =
    record { types = h.types; fits = h.fits; shapes = h.shapes; values = h.values; count = h.count; target_fits = target_of_instance p f gf target o h.target_fits }

-- each call that breaks no rule says this of types
abbrev pub CallsFit : Program → Type 0
CallsFit p = (f : Func) (ids : Ids) (g : ℕ) (gf : Func) (target : Option ℕ) (keys : List ℕ) (os : List Operand) → IsFunction p f → slice_get p.fns g ≡ Some gf →
    call_broken p f ids (Some gf) target keys os ≡ [] → IsKindedCall p f gf ids target os

-- ---- calls in C

pub spend_then : (w : cw.World) (go : cw.World → crun.Step) (rest : crun.Frame → cw.World → crun.Step) →
    crun.then_do (crun.spend w go) rest ≡ crun.spend w (λ w. crun.then_do (go w) rest)
unfolding crun.spend crun.then_do
spend_then w go rest = by (w.fuel == 0)
  where
    by : (b : Bool) → crun.then_do (if b then crun.stops cw.fuel_end w else go (record w { fuel = w.fuel - 1 })) rest ≡
        (if b then crun.stops cw.fuel_end w else crun.then_do (go (record w { fuel = w.fuel - 1 })) rest)
    by true = refl
    by false = refl

found_call : (R : crun.Setup) (cm : crun.Meaning) (n : ℕ) (target : Option CVar) (xs : List syntax.Arg) (f : crun.Frame) (w : cw.World) (num : crun.Numbered) (values : List cw.Value) →
    (length num.func.params == length xs) ≡ true → arg_values xs f.vars ≡ Ok values →
    crun.call_found R cm n target false xs (Some num) f w ≡
    crun.spend w (λ w. if nat_lt f.depth R.depth then
    crun.back_in (crun.count_of R.program) n num.func.result target f (cm num.first num.func.body (called_frame (suc f.depth) num.func.params values) w)
    else crun.stops cw.depth_end w)
unfolding crun.call_found crun.with_found crun.enter
found_call R cm n target xs f w num values long args = rw (long, args) refl

called : (R : crun.Setup) (cm : crun.Meaning) (n : ℕ) (target : Option CVar) (name : CName) (xs : List syntax.Arg) (f : crun.Frame) (w : cw.World) (num : crun.Numbered) (values : List cw.Value) →
    crun.function_of R.program name ≡ Some num → name.glue ≡ false → (length num.func.params == length xs) ≡ true → arg_values xs f.vars ≡ Ok values →
    crun.does_call R cm n target (syntax.function name xs) f w ≡
    crun.spend w (λ w. if nat_lt f.depth R.depth then
    crun.back_in (crun.count_of R.program) n num.func.result target f (cm num.first num.func.body (called_frame (suc f.depth) num.func.params values) w)
    else crun.stops cw.depth_end w)
called R cm n target name xs f w num values found glue long args =
    ap (λ o. crun.call_found R cm n target name.glue xs o f w) found ∙ ap (λ b. crun.call_found R cm n target b xs (Some num) f w) glue
    ∙ found_call R cm n target xs f w num values long args

-- as many values as arguments, and as slots
atoms_long : (atoms : List Atom) (values : List cw.Value) (f : crun.Frame) (bs : Blocks) → HaveAtoms atoms values f bs → length (map atom_arg atoms) ≡ length values
atoms_long [] [] f bs h = refl
atoms_long [] (v ∷ values) f bs h = absurd h
atoms_long (a ∷ atoms) [] f bs h = absurd h
atoms_long (a ∷ atoms) (v ∷ values) f bs h = ap suc (atoms_long atoms values f bs h.1)

args_long : (p : Program) (atoms : List (List Atom)) (tys : List Ty) (values : List source.Value) (f : crun.Frame) (bs : Blocks) → HaveEach p atoms tys values f bs →
    length (flat_map (map atom_arg) atoms) ≡ length (flat_values p tys values)
args_long p [] [] [] f bs h = refl
args_long p [] [] (a ∷ values) f bs h = absurd h
args_long p [] (t ∷ tys) values f bs h = absurd h
args_long p (x ∷ atoms) [] values f bs h = absurd h
args_long p (x ∷ atoms) (t ∷ tys) [] f bs h = absurd h
args_long p (x ∷ atoms) (t ∷ tys) (a ∷ values) f bs h =
    length-append (map atom_arg x) (flat_map (map atom_arg) atoms)
    ∙ ap (λ n. n + length (flat_map (map atom_arg) atoms)) (atoms_long x (slot_values p t a) f bs h.0)
    ∙ ap (λ n. length (slot_values p t a) + n) (args_long p atoms tys values f bs h.1)
    ∙ sym (length-append (slot_values p t a) (flat_values p tys values))

pub params_long : (p : Program) (ts : List ℕ) (g : Func) (args : List source.Value) → ArgsFit p ts g.vars args → length args ≡ g.params → length (param_slots p g) ≡ length (decl_values p g.vars args)
params_long p ts g args fit long =
    subst (λ n. length (vars_at first_numbers (var_sorts p (take n g.vars))) ≡ length (decl_values p g.vars args)) long
    (slots_count first_numbers (var_sorts p (take (length args) g.vars)) (decl_values p g.vars args) (decl_sorts p ts g.vars args fit))

-- objects keep their types
types_later : (before after : List source.Object) → KeepsObjects before after → Later (types_of before) (types_of after)
types_later before after h = record { at = λ n t e. by n t (slice_get before n) refl (sym (slice_get-map (λ (o : source.Object). o.type) before n) ∙ e) }
  where
    by : (n t : ℕ) (o : Option source.Object) → slice_get before n ≡ o → option_map (λ (o : source.Object). o.type) (slice_get before n) ≡ Some t → slice_get (types_of after) n ≡ Some t
    by n t None q e = absurd (none-some t (sym (ap (option_map (λ (o : source.Object). o.type)) q) ∙ e))
    by n t (Some o) q e =
        let k = h.each n o q in
        slice_get-map (λ (o : source.Object). o.type) after n ∙ ap (option_map (λ (o : source.Object). o.type)) k.at
        ∙ ap (λ t. Some t) k.same ∙ sym (ap (option_map (λ (o : source.Object). o.type)) q) ∙ e

-- keys are no matter for variables
pub stands_names : (p : Program) (ts : List ℕ) (fn : Func) (bs : List Binding) (s : source.Frame) (f : crun.Frame) → StandsFor p ts fn s f → StandsFor p ts fn (with_names bs s) f
stands_names p ts fn [] s f h = h
stands_names p ts fn (b ∷ bs) s f h = stands_names p ts fn bs (step.with_key b.key b.number s) f (record { depth = h.depth; is_glue = h.is_glue; vars = h.vars })

-- ---- what comes back to the caller

module _ (p : Program) (R : crun.Setup) (cm : crun.Meaning) where
  -- the world with the objects under the caller's keys again
  c_same : (g : Registers) (w : source.World) (os : List source.Object) → blocks_of p os ≡ blocks_of p w.objects → c_world p g (step.with_objects w os) ≡ c_world p g w
  c_same g w os e = ap (λ bs. record (c_world p g w) { blocks = bs }) e

  spares_slots : (f : Func) (t : Numbers) (v : ℕ) (from to : crun.Frame) → ((u : CVar) → Each (Apart u) (slot_vars p f v) → to.vars u ≡ from.vars u) →
      to.depth ≡ from.depth → to.is_glue ≡ from.is_glue → Spares (first_temps p f) t from to
  spares_slots f t v from to kept depth glue = record {
    vars = λ u b. sym (kept u (each_map (IsBelow (first_temps p f)) (Apart u) (slot_vars p f v) (λ x below. apart u x b below) (below_temps p f v)));
    depth = sym depth;
    is_glue = sym glue;
  }
    where
      apart : (u x : CVar) → IsBetween (first_temps p f) t u → IsBelow (first_temps p f) x → Apart u x
      apart u x b below = by u.reference x.reference b.from below
        where
          by : (r q : Bool) → (if r then (first_temps p f).p else (first_temps p f).n) ≤ u.number → x.number < (if q then (first_temps p f).p else (first_temps p f).n) →
              (same_bool r q && (u.number == x.number)) ≡ false
          by true true l k = grind (arith, nat_tests)
          by false false l k = grind (arith, nat_tests)
          by true false l k = refl
          by false true l k = refl

  some_value : (a b : cw.Value) → (let o : Option cw.Value = Some a in o ≡ Some b) → a ≡ b
  some_value a b e = cc

  -- of any list of slots with as many values
  received : (vs : List CVar) (values : List cw.Value) (many : Bool) (frame : crun.Frame) (w : source.World) (g : Registers) (j : ℕ) (first : cw.Value) → FitKinds vs values →
      AllApart vs → first_value values ≡ Some first → (many ≡ false → after_first values ≡ []) →
      InRegisters (if many then after_first values else []) g →
      (to : crun.Frame) × (crun.does_stmts R cm j (stmts_made (if many then results (after_first vs) else [])) (crun.with_var (first_slot vs) first frame) (c_world p g w) ≡ crun.goes to (c_world p g w)) ×
      HaveValues vs values to × ((u : CVar) → Each (Apart u) vs → to.vars u ≡ frame.vars u) × (to.depth ≡ frame.depth) × (to.is_glue ≡ frame.is_glue)
  received [] [] many frame w g j first k apart e single h = absurd (none-some first e)
  received [] (a ∷ values) many frame w g j first k apart e single h = absurd k
  received (v ∷ vs) [] many frame w g j first k apart e single h = absurd (none-some first e)
  received (v ∷ vs) (a ∷ values) false frame w g j first k apart e single h =
      (crun.with_var v first frame, refl, (var_set v first frame ∙ ap (λ a. Some a) (sym (some_value a first e)), one vs values (single refl) (tail v a vs values k)), (λ u x. var_kept v first u frame x.0), refl, refl)
    where
      tail : (v : CVar) (a : cw.Value) (vs : List CVar) (values : List cw.Value) → FitKinds (v ∷ vs) (a ∷ values) → FitKinds vs values
      tail v (cw.number z) vs values k = k.1
      tail v (cw.reference r) vs values k = k.1

      one : (vs : List CVar) (values : List cw.Value) → values ≡ [] → FitKinds vs values → HaveValues vs values (crun.with_var v first frame)
      one [] [] e k = tt
      one [] (a ∷ values) e k = absurd k
      one (v ∷ vs) [] e k = absurd k
      one (v ∷ vs) (a ∷ values) e k = absurd (never e)
        where
          never : a ∷ values ≡ [] → ⊥
          never e = cc
  received (v ∷ vs) (a ∷ values) true frame w g j first k apart e single h =
      let got = result_got R cm p vs values (crun.with_var v first frame) w g (tail v a vs values k) apart.1 h in (
        got.to,
        got.runs j,
        (got.kept v apart.0 ∙ var_set v first frame ∙ ap (λ a. Some a) (sym (some_value a first e)), got.have),
        (λ u x. got.kept u x.1 ∙ var_kept v first u frame x.0),
        got.depth,
        got.is_glue,
      )
    where
      tail : (v : CVar) (a : cw.Value) (vs : List CVar) (values : List cw.Value) → FitKinds (v ∷ vs) (a ∷ values) → FitKinds vs values
      tail v (cw.number z) vs values k = k.1
      tail v (cw.reference r) vs values k = k.1

  -- ---- the value for the target

  some_first : (ts : List ℕ) (ty : Ty) (a : source.Value) → HasShape p ts ty a → (v : cw.Value) × (first_value (slot_values p ty a) ≡ Some v)
  some_first ts core.int a h = (c_part h.part, ap (λ a. first_value (slot_values p core.int a)) h.is)
  some_first ts core.bool a h = (c_part h.part, ap (λ a. first_value (slot_values p core.bool a)) h.is)
  some_first ts (core.tracked k t args) a h = (c_part h.part, ap (λ a. first_value (slot_values p (core.tracked k t args) a)) h.is)
  some_first ts (core.guarded k t args) a h = (c_part h.part, ap (λ a. first_value (slot_values p (core.guarded k t args) a)) h.is)
  some_first ts (core.owning states t args) a h = (c_part h.part, ap (λ a. first_value (slot_values p (core.owning states t args) a)) h.is)
  some_first ts (core.variant t args) a h = (cw.number (pos h.case), ap (λ a. first_value (slot_values p (core.variant t args) a)) h.is)
  some_first ts (core.owning_variant t args) a h = (cw.number (pos h.case), ap (λ a. first_value (slot_values p (core.owning_variant t args) a)) h.is)

  no_more : (ts : List ℕ) (ty : Ty) (a : source.Value) → HasShape p ts ty a → is_variant (Some ty) ≡ false → after_first (slot_values p ty a) ≡ []
  no_more ts core.int a h e = ap (λ a. after_first (slot_values p core.int a)) h.is
  no_more ts core.bool a h e = ap (λ a. after_first (slot_values p core.bool a)) h.is
  no_more ts (core.tracked k t args) a h e = ap (λ a. after_first (slot_values p (core.tracked k t args) a)) h.is
  no_more ts (core.guarded k t args) a h e = ap (λ a. after_first (slot_values p (core.guarded k t args) a)) h.is
  no_more ts (core.owning states t args) a h e = ap (λ a. after_first (slot_values p (core.owning states t args) a)) h.is
  no_more ts (core.variant t args) a h e = absurd (true≢false e)
  no_more ts (core.owning_variant t args) a h e = absurd (true≢false e)

  abbrev pub tail_of : Func → Option ℕ → List syntax.Stmt
  tail_of f None = []
  tail_of f (Some v) = if is_variant (var_type f v) then results (after_first (slot_vars p f v)) else []

  abbrev pub target_slot : Func → Option ℕ → Option CVar
  target_slot f None = None
  target_slot f (Some v) = Some (slot_of p f v)

  -- what is known when the callee is left
  pub record Back (f : Func) (k : ℕ) (frame : crun.Frame) (s : source.Frame) (w v : source.World) (g : Registers) : Type 0 where
    pub stands : StandsFor p (types_of v.objects) f s frame
    pub types : types_of v.objects ≡ types_of w.objects
    pub same : c_world p g v ≡ c_world p g w
    pub shaped : AreShaped p v.objects
    pub registers : AreRegisters g
    pub fuel_left : v.fuel ≤ k
    pub fed : IsFed v.input v.answers

  pub delivered : (f gf : Func) (target : Option ℕ) (t : Numbers) (k : ℕ) (frame : crun.Frame) (s : source.Frame) (w v : source.World) (g : Registers) (a : Option source.Value)
      (value : Option cw.Value) (i j : ℕ) → IsTarget p f gf target → Back f k frame s w v g → Gives p (types_of w.objects) gf.result a value g →
      Same p f t k frame (step.deliver f target a s v)
      (crun.then_do (crun.after_receiving i (target_slot f target) value frame (c_world p g w)) (crun.does_stmts R cm j (stmts_made (tail_of f target))))
  unfolding step.deliver step.fill step.with_found crun.then_do
  delivered f gf None t k frame s w v g a value i j fits b gives = record {
    to = frame;
    registers = g;
    is = ap (λ w. crun.goes frame w) (sym b.same);
    comes = record { frame = b.stands; spares = spares_self (first_temps p f) t frame; shaped = b.shaped; registers = b.registers; fed = b.fed; fuel_left = b.fuel_left };
  }
  delivered f gf (Some x) t k frame s w v g None value i j fits b gives = tt
  delivered f gf (Some x) t k frame s w v g (Some a) value i j fits b gives =
      where_same p f t k frame (step.is_fillable f x s) source.not_empty None v (λ v. step.goes (step.with_var x (Some a) s) v) _ (λ ok.
      filled (some_first (types_of w.objects) fits.ty a shape))
    where
      given : IsGiven p (types_of w.objects) fits.given a value g
      given = subst (λ r. Gives p (types_of w.objects) r (Some a) value g) fits.result gives

      shape : HasShape p (types_of w.objects) fits.ty a
      shape = fits.shape (types_of w.objects) a given.shape

      slots : List CVar
      slots = slot_vars p f x

      many_is : is_variant (var_type f x) ≡ is_variant (Some fits.ty)
      many_is = ap is_variant fits.declared

      fit : FitKinds slots (slot_values p fits.ty a)
      fit = subst (λ o. FitKinds (vars_at (starts p f x) (sorts_of p o)) (slot_values p fits.ty a)) (sym fits.declared)
          (slots_fit (starts p f x) (slot_sorts p fits.ty) (slot_values p fits.ty a) (shape_sorts p (types_of w.objects) fits.ty a shape))

      in_registers : InRegisters (if is_variant (var_type f x) then after_first (slot_values p fits.ty a) else []) g
      in_registers = subst (λ vs. InRegisters (if is_variant (var_type f x) then after_first vs else []) g) (fits.values a)
          (subst (λ b. InRegisters (if b then after_first (slot_values p fits.given a) else []) g) (fits.variant ∙ sym many_is) given.rest)

      filled : (first : cw.Value) × (first_value (slot_values p fits.ty a) ≡ Some first) →
          Same p f t k frame (step.goes (step.with_var x (Some a) s) v)
          (crun.then_do (crun.after_receiving i (Some (slot_of p f x)) value frame (c_world p g w)) (crun.does_stmts R cm j (stmts_made (tail_of f (Some x)))))
      filled first =
          let r = received slots (slot_values p fits.ty a) (is_variant (var_type f x)) frame w g j first.0 fit (slots_apart (starts p f x) (sorts_of p (var_type f x))) first.1
          (λ e. no_more (types_of w.objects) fits.ty a shape (sym many_is ∙ e)) in_registers in
          let value_is : value ≡ Some first.0 = given.first ∙ ap first_value (fits.values a) ∙ first.1 in
          record {
            to = r.0;
            registers = g;
            is = ap (λ o. crun.then_do (crun.after_receiving i (Some (slot_of p f x)) o frame (c_world p g w)) (crun.does_stmts R cm j (stmts_made (tail_of f (Some x))))) value_is
                ∙ r.1 ∙ ap (λ w. crun.goes r.0 w) (sym b.same);
            comes = record {
              frame = stands_have p (types_of v.objects) f s frame r.0 x fits.ty a b.stands fits.declared (subst (λ ts. HasShape p ts fits.ty a) (sym b.types) shape) r.2 r.3 r.4 r.5;
              spares = spares_slots f t x frame r.0 r.3 r.4 r.5;
              shaped = b.shaped;
              registers = b.registers;
              fed = b.fed;
              fuel_left = b.fuel_left;
            };
          }

module _ (p : Program) (heap depth : ℕ) (cm : crun.Meaning) (m : run.Meaning) (n : ℕ) where
  abbrev setup : run.Setup
  setup = record { program = p; heap = heap; depth = depth }

  abbrev c_setup : crun.Setup
  c_setup = record { program = lowered p; heap = heap; depth = depth }

  -- no object is of another type after what follows once a unit of fuel is spent
  abbrev pub KeepsTypes : Type 0
  KeepsTypes = (f : Func) (ss : Stmts) (s : source.Frame) (w : source.World) → KeepsObjects w.objects (world_after (m f ss s w)).objects

  -- the part of the law on externals: their glue, which is that of each instance
  abbrev pub ExternalsAreRight : Type 0
  ExternalsAreRight = (f : Func) (ids : Ids) (g : ℕ) (gf : Func) (target : Option ℕ) (keys : List ℕ) (os : List Operand) (values : List source.Value)
      (xs : List syntax.Arg) (t : Numbers) (k : ℕ) (s : source.Frame) (w : source.World) (frame : crun.Frame) (regs : Registers) (j : ℕ) (state : Bound → ℕ) →
      IsFunction p f → slice_get p.fns g ≡ Some gf → gf.external ≡ true → (call : IsKindedCall p f gf ids target os) → call_broken p f ids (Some gf) target keys os ≡ [] → AreUpTo (first_temps p f) t → k ≤ n →
      Begins p f k s w frame regs → HaveShapes p (types_of w.objects) call.types values → length values ≡ gf.params → arg_values xs frame.vars ≡ Ok (flat_values p call.types values) →
      length xs ≡ length (flat_values p call.types values) → AreOfTys s.keys (map (with_keys keys) (parameters_of gf)) values →
      Same p f t k frame (step.spend w (λ w. call_external heap p f target keys (instance_for p gf state) values s w))
      (crun.does_stmts c_setup cm j (stmts_made (call_stmts p f (syntax.function (name_of p g) xs) target)) frame (c_world p regs w))

  -- where the callee ends up, for its caller
  back_same : (f gf : Func) (target : Option ℕ) (keys : List ℕ) (t u : Numbers) (k b : ℕ) (frame callee : crun.Frame) (s : source.Frame) (w v : source.World) (i j : ℕ)
      (given : CResult) (st : step.Step) (c : crun.Step) → IsTarget p f gf target → StandsFor p (types_of w.objects) f s frame → types_of v.objects ≡ types_of w.objects → b ≤ k →
      KeepsObjects v.objects (world_after st).objects → Same p gf u b callee st c →
      Same p f t k frame (calls.back_in f target keys gf s st)
      (crun.then_do (crun.back_in (crun.count_of (lowered p)) i given (target_slot p c_setup cm f target) frame c) (crun.does_stmts c_setup cm j (stmts_made (tail_of p c_setup cm f target))))
  unfolding calls.back_in crun.back_in
  back_same f gf target keys t u k b frame callee s w v i j given (step.goes s2 w2) c fits stands types l keeps h = tt
  back_same f gf target keys t u k b frame callee s w v i j given (step.jumps q s2 w2) c fits stands types l keeps h = tt
  back_same f gf target keys t u k b frame callee s w v i j given (step.leaves a kept w2) c fits stands types l keeps h =
      let back = holders_same p s.depth keys (entries_after gf) kept w2.objects h.kept_objects in
      let w3 : source.World = step.with_objects w2 (with_holders s.depth (bindings keys (entries_after gf) kept) w2.objects) in
      let later : Later (types_of w.objects) (types_of w3.objects) =
      subst (λ ts. Later ts (types_of w3.objects)) types (subst (Later (types_of v.objects)) (sym back.types) (types_later v.objects w2.objects keeps)) in
      let fuel = h.fuel_left in
      rw h.is
      (delivered p c_setup cm f gf target t k frame (with_names (bindings keys (entries_after gf) kept) s) w2 w3 h.registers a h.value i j fits
      (record {
        stands = stands_names p (types_of w3.objects) f (bindings keys (entries_after gf) kept) s frame (stands_later p (types_of w.objects) (types_of w3.objects) later f s frame stands);
        types = back.types;
        same = c_same p c_setup cm h.registers w2 (with_holders s.depth (bindings keys (entries_after gf) kept) w2.objects) back.blocks;
        shaped = back.shaped h.shaped;
        registers = h.are;
        fed = h.fed;
        fuel_left = omega arith;
      }) h.gives)
  back_same f gf target keys t u k b frame callee s w v i j given (step.ends o w2) c fits stands types l keeps h =
      ended_through
      (λ c. crun.then_do (crun.back_in (crun.count_of (lowered p)) i given (target_slot p c_setup cm f target) frame c) (crun.does_stmts c_setup cm j (stmts_made (tail_of p c_setup cm f target))))
      (λ o v. then_stops o v (crun.does_stmts c_setup cm j (stmts_made (tail_of p c_setup cm f target)))) o w2 c h

  pub stmts_are : (f : Func) (call : syntax.Call) (target : Option ℕ) (j : ℕ) (frame : crun.Frame) (w : cw.World) →
      crun.does_stmts c_setup cm j (stmts_made (call_stmts p f call target)) frame w ≡
      crun.then_do (crun.does_call c_setup cm j (target_slot p c_setup cm f target) call frame w) (crun.does_stmts c_setup cm (j + 1) (stmts_made (tail_of p c_setup cm f target)))
  stmts_are f call None j frame w = refl
  stmts_are f call (Some v) j frame w = refl

  module _ (bodies : HasKindedBodies p) (operands : OperandsAreRight p c_setup cm) (fit : CallsFit p) (rest_same : RestIsSame p setup c_setup m cm n) (keeps : KeepsTypes)
      (externals : ExternalsAreRight) (kinded_p : IsKinded p) (types_fit : TypesFit p) (known : CallsKnown p) where
    -- the call itself, after its arguments
    body_called : (f : Func) (ids : Ids) (g : ℕ) (gf : Func) (target : Option ℕ) (keys : List ℕ) (os : List Operand) (values : List source.Value)
        (xs : List syntax.Arg) (t : Numbers) (k : ℕ) (s : source.Frame) (w : source.World) (frame : crun.Frame) (regs : Registers) (j : ℕ) →
        IsInstanceOf p g gf → gf.external ≡ false → (call : IsKindedCall p f gf ids target os) → k ≤ n → Begins p f k s w frame regs →
        HaveShapes p (types_of w.objects) call.types values → length values ≡ gf.params → arg_values xs frame.vars ≡ Ok (flat_values p call.types values) →
        length xs ≡ length (flat_values p call.types values) → IsKnownCall p f ids gf target keys os → AreOfTys s.keys (map (with_keys keys) (parameters_of gf)) values →
        Same p f t k frame (step.spend w (λ w. run.call_body setup m f target keys gf values s w))
        (crun.does_stmts c_setup cm j (stmts_made (call_stmts p f (syntax.function (name_of p g) xs) target)) frame (c_world p regs w))
    unfolding run.call_body
    body_called f ids g gf target keys os values xs t k s w frame regs j is body call le begin shapes count args long knows of =
        subst (Same p f t k frame (step.spend w (λ w. run.call_body setup m f target keys gf values s w))) (sym code)
        (spend_same p f t k frame w regs _ _ (λ some.
        by_depth some (nat_lt s.depth depth)))
      where
        found : Found (crun.function_of (lowered p) (name_of p g)) (body_func p g gf)
        found = body_found p g gf is body

        vals : List cw.Value
        vals = decl_values p gf.vars values

        fits : ArgsFit p (types_of w.objects) gf.vars values
        fits = call.shapes (types_of w.objects) values shapes

        same_values : flat_values p call.types values ≡ vals
        same_values = call.values (types_of w.objects) values shapes

        rest : crun.Frame → cw.World → crun.Step
        rest = crun.does_stmts c_setup cm (j + 1) (stmts_made (tail_of p c_setup cm f target))

        callee : ℕ → List cw.Value → cw.World → crun.Step
        callee d vs v = cm found.first (body_of (list_code p gf (first_temps p gf) gf.body)) (called_frame (suc d) (param_slots p gf) vs) v

        inner : ℕ → List cw.Value → cw.World → crun.Step
        inner d vs v = crun.then_do (if nat_lt d depth then
            crun.back_in (crun.count_of (lowered p)) j (result_of gf.result) (target_slot p c_setup cm f target) frame (callee d vs v)
            else crun.stops cw.depth_end v) rest

        code : crun.does_stmts c_setup cm j (stmts_made (call_stmts p f (syntax.function (name_of p g) xs) target)) frame (c_world p regs w) ≡
            crun.spend (c_world p regs w) (inner s.depth vals)
        code =
            stmts_are f (syntax.function (name_of p g) xs) target j frame (c_world p regs w)
            ∙ ap (λ st. crun.then_do st rest)
            (called c_setup cm j (target_slot p c_setup cm f target) (name_of p g) xs frame (c_world p regs w) (record { func = body_func p g gf; first = found.first }) (flat_values p call.types values)
            found.is (ap is_external_at is.at ∙ external_of p g gf is ∙ body)
            (eq-eqb (length (param_slots p gf)) (length xs) (params_long p (types_of w.objects) gf values fits count ∙ sym (ap length same_values) ∙ sym long)) args)
            ∙ spend_then (c_world p regs w) _ rest
            ∙ ap (λ d. crun.spend (c_world p regs w) (inner d (flat_values p call.types values))) begin.stands.depth
            ∙ ap (λ vs. crun.spend (c_world p regs w) (inner s.depth vs)) same_values

        w3 : source.World
        w3 = record w { fuel = w.fuel - 1 }

        by_depth : (w.fuel == 0) ≡ false → (b : Bool) →
            Same p f t k frame
            (if b then step.with_found (passed_objects p gf keys s w3.objects gf.clause) w3 (λ ns.
            calls.back_in f target keys gf s (m gf gf.body (callee_frame gf keys values s) (step.with_objects w3 (handed_over keys s gf.clause w3.objects))))
            else step.ends source.depth_end w3)
            (crun.then_do (if b then
            crun.back_in (crun.count_of (lowered p)) j (result_of gf.result) (target_slot p c_setup cm f target) frame (callee s.depth vals (c_world p regs w3))
            else crun.stops cw.depth_end (c_world p regs w3)) rest)
        by_depth some false = record { world = c_world p regs w3; is = then_stops cw.depth_end (c_world p regs w3) rest; events = refl; fuel = refl }
        by_depth some true =
            found_same p f t k frame (passed_objects p gf keys s w3.objects gf.clause) w3 _ _ (passed_faults p gf keys s w3.objects gf.clause) (λ ns e.
            let handed = handed_same p gf keys s gf.clause w3.objects ns e in
            let w4 : source.World = step.with_objects w3 (handed_over keys s gf.clause w3.objects) in
            let less : w.fuel - 1 < n = let l = begin.fuel_left in let q = spent_less w.fuel k begin.fuel_left some in omega arith in
            let fewer : w.fuel - 1 ≤ k = let l = begin.fuel_left in omega arith in
            let stands : StandsFor p (types_of w4.objects) gf (callee_frame gf keys values s) (called_frame (suc s.depth) (param_slots p gf) vals) =
            subst (λ ts. StandsFor p ts gf (callee_frame gf keys values s) (called_frame (suc s.depth) (param_slots p gf) vals)) (sym handed.types)
            (callee_stands p (types_of w.objects) gf (suc s.depth) (calls.callee_key gf keys s) values fits count) in
            let begins : Begins p gf (w.fuel - 1) (callee_frame gf keys values s) w4 (called_frame (suc s.depth) (param_slots p gf) vals) regs =
            record { stands = stands; shaped = handed.shaped begin.shaped; registers = begin.registers; fed = begin.fed; fuel_left = omega arith } in
            let went = rest_same gf gf.body (record { jumps = false; returns = true }) (first_ids p gf) false (first_temps p gf) (w.fuel - 1) (callee_frame gf keys values s) w4
            (called_frame (suc s.depth) (param_slots p gf) vals) regs found.first (record { number = g; function = is; has_body = body }) (bodies.bodies g gf is body) (up_self (first_temps p gf)) less begins (callee_in_scope p kinded_p gf keys values s
            (subst IsHeaded is.is (headed_instance p is.declared is.origin (headed p kinded_p g is.declared is.at))) knows.listed of) in
            subst (λ v. Same p f t k frame (calls.back_in f target keys gf s (m gf gf.body (callee_frame gf keys values s) w4))
            (crun.then_do (crun.back_in (crun.count_of (lowered p)) j (result_of gf.result) (target_slot p c_setup cm f target) frame (callee s.depth vals v)) rest))
            (c_same p c_setup cm regs w3 (handed_over keys s gf.clause w3.objects) handed.blocks)
            (back_same f gf target keys t (first_temps p gf) k (w.fuel - 1) frame (called_frame (suc s.depth) (param_slots p gf) vals) s w w4 j (j + 1) (result_of gf.result)
            (m gf gf.body (callee_frame gf keys values s) w4) (callee s.depth vals (c_world p regs w4)) call.target_fits begin.stands handed.types fewer
            (keeps gf gf.body (callee_frame gf keys values s) w4) went))

    pub calls_same : (f : Func) (g : ℕ) (target : Option ℕ) (keys : List ℕ) (os : List Operand) → IsFunction p f → IsSameFormIn p setup c_setup m cm n f (core.call g target keys os)
    unfolding run.call_by step.spend
    calls_same f g target keys os is around ids t k s w frame regs i kinded up le begin scope =
        found_same p f t k frame (or_fault source.missing (slice_get p.fns g)) w _ _ (or_faults source.missing (slice_get p.fns g)) (λ gf e.
        let at = or_fault_ok source.missing (slice_get p.fns g) gf e in
        let row = subst (λ o. call_broken p f ids o target keys os ≡ []) at kinded.row in
        let call = fit f ids g gf target keys os is at row in
        let knows = known f ids g gf target keys os is at row in
        where_same p f t k frame (length os == gf.params) source.missing None w _ _ (λ long.
        subst (λ st. Same p f t k frame st (crun.does_stmts c_setup cm i (stmts_made (form_code p f t (core.call g target keys os)).stmts) frame (c_world p regs w)))
        (operands_tested p types_fit f is ids (map (with_keys keys) (parameters_of gf)) os s w (following gf) knows.fits scope.names)
        (arguments_then p c_setup cm operands f os ids call.types t t k s w frame regs i
        (λ values s2 w2. step.where_so (are_of_tys s2.keys (map (with_keys keys) (parameters_of gf)) values) source.missing None w2 (λ w3. following gf values s2 w3)) (call_stmts p f (syntax.function (name_of p g) (flat_map (map atom_arg) (operand_codes p f t os).atoms)) target)
        is kinded.proper call.fits up (up_self t) begin (λ values s2 w2 to j h.
        let have = h.have to (c_world p regs w2).blocks (alike_self (operand_codes p f t os).next to) in
        let args = args_are p (operand_codes p f t os).atoms call.types values to (c_world p regs w2).blocks have in
        where_same p f t k to (are_of_tys s2.keys (map (with_keys keys) (parameters_of gf)) values) source.missing None w2 (λ w3. following gf values s2 w3) _ (λ passes.
        by gf at row call knows values s2 w2 to j h.begins h.shapes (call.count (types_of w2.objects) values h.shapes ∙ eqb-true (length os) gf.params long) args
        (args_long p (operand_codes p f t os).atoms call.types values to (c_world p regs w2).blocks have)
        (tys_passed s2.keys (map (with_keys keys) (parameters_of gf)) values passes) gf.external refl)))))
      where
        following : Func → List source.Value → source.Frame → source.World → step.Step
        following gf values s2 w2 = step.spend w2 (λ w. run.call_by gf.external setup m f target keys (called_instance p gf keys s2 w.objects) values s2 w)

        xs : List syntax.Arg
        xs = flat_map (map atom_arg) (operand_codes p f t os).atoms

        by : (gf : Func) → slice_get p.fns g ≡ Some gf → call_broken p f ids (Some gf) target keys os ≡ [] → (call : IsKindedCall p f gf ids target os) → IsKnownCall p f ids gf target keys os → (values : List source.Value) (s2 : source.Frame) (w2 : source.World)
            (to : crun.Frame) (j : ℕ) → Begins p f k s2 w2 to regs → HaveShapes p (types_of w2.objects) call.types values → length values ≡ gf.params →
            arg_values xs to.vars ≡ Ok (flat_values p call.types values) → length xs ≡ length (flat_values p call.types values) → AreOfTys s2.keys (map (with_keys keys) (parameters_of gf)) values → (b : Bool) → gf.external ≡ b →
            Same p f t k to (step.spend w2 (λ w. run.call_by b setup m f target keys (called_instance p gf keys s2 w.objects) values s2 w))
            (crun.does_stmts c_setup cm j (stmts_made (call_stmts p f (syntax.function (name_of p g) xs) target)) to (c_world p regs w2))
        by gf at row call knows values s2 w2 to j begins shapes long args as_long of true e =
            externals f ids g gf target keys os values xs t k s2 w2 to regs j (λ b. state_under keys s2 w2.objects b.key) is at e call row up le begins shapes long args as_long of
        by gf at row call knows values s2 w2 to j begins shapes long args as_long of false e =
            body_called f ids g (called_instance p gf keys s2 w2.objects) target keys os values xs t k s2 w2 to regs j
            (record { declared = gf; origin = option_map (λ b. state_under keys s2 w2.objects b.key) (bound_in gf.clause); at = at; is = refl }) e
            (call_of_instance (option_map (λ b. state_under keys s2 w2.objects b.key) (bound_in gf.clause)) call) le begins shapes long args as_long
            (known_instance p gf (option_map (λ b. state_under keys s2 w2.objects b.key) (bound_in gf.clause)) f ids target keys os knows) of
