-- Set and Own: the atoms of a value go into the slots of a variable, slot by slot.
use Rattle.std.proofs.Common.{◌≡◌, ◌≤◌, ℕ, ◌==◌, nat_lt, Bool, true, false, if◌then◌else◌, List, [], ◌∷◌, ◌++◌, map, length, Option, Some, None, Ok, refl, sym, ap, ◌∙◌, subst, arith}
use Rattle.std.proofs.lemmas.Bool.Decides.{nat_tests}
use Rattle.vlt_core.specs.Core as core
use Rattle.vlt_core.specs.Core.{Ty, Operand, pure, move, pack, Func, Program}
use Rattle.vlt_core.specs.Lookups.{var_type, is_owning, is_owning_var, owns}
use Rattle.vlt_core.specs.KindedHeads.{Rules}
use Rattle.vlt_core.specs.KindedScopes.{target_broken}
use Rattle.vlt_core.specs.KindedOperands.{expr_broken, operand_broken, misfit, type_of_expr}
use Rattle.vlt_core.specs.KindedStatements as kinded
use Rattle.vlt_core.specs.declared.rules.TheConstants as rule
use Rattle.vlt_meaning.specs.World as source
use Rattle.vlt_meaning.specs.Step as step
use Rattle.vlt_meaning.specs.Operands.{with_operand}
use Rattle.vlt_meaning.specs.Run as run
use Rattle.c_syntax.specs.declared.program.CVar.{CVar}
use Rattle.c_syntax.specs.View.{stmts_made}
use Rattle.c_syntax.specs.C as syntax
use Rattle.c_meaning.specs.World as cw
use Rattle.c_meaning.specs.Values as cvalues
use Rattle.c_meaning.specs.Run as crun
use Rattle.c_lower.specs.Slots.{Numbers, Sort, vars_at, slot_vars, slot_sorts, sorts_of, first_temps, past_all, past}
use Rattle.c_lower.specs.Expressions.{Atom, variable, atom_expr, copies, expr_code, operand_code}
use Rattle.c_lower_worlds.specs.Operators.Codes.{AreUpTo, IsBelow}
use Rattle.c_lower_worlds.proofs.OfOperators.Codes.{up_self, alike_self}
use Rattle.c_lower_worlds.specs.Worlds.{Registers, c_world, slot_values}
use Rattle.c_lower_worlds.specs.Shapes.{types_of, HasShape}
use Rattle.c_lower_worlds.specs.Frames.{HaveValues, IsBetween}
use Rattle.c_lower_worlds.specs.Naming.Lists.{Each}
use Rattle.c_lower_worlds.specs.Sorts.{AreOfSorts}
use Rattle.c_lower_worlds.specs.Operands.{HaveAtoms, OperandsAreRight}
use Rattle.c_lower_worlds.specs.Same.{Same}
use Rattle.c_lower_worlds.specs.SameStatements.{Begins, IsSameForm}
use Rattle.c_lower_worlds.specs.Naming.Functions.{IsFunction}
use Rattle.c_lower_worlds.proofs.ValueCode.{one_atom}
use Rattle.c_lower_worlds.proofs.FrameChanges.{with_all, var_kept, stands_set}
use Rattle.c_lower_worlds.proofs.VariantSlots.{shape_sorts}
use Rattle.c_lower_worlds.proofs.StatementLists.{Runs, runs_then, set_runs}
use Rattle.c_lower_worlds.proofs.VariableSlots.{Apart, AllApart, apart_back, each_map, slots_apart, slots_between, vars_apart, below_temps, starts}
use Rattle.c_lower_worlds.proofs.SameSteps.{where_same}
use Rattle.c_lower_worlds.proofs.OfNaming.DeclaredVariables.{Declared, target_declared}
use Rattle.c_lower_worlds.proofs.Targets.{spares_all, arrives, slot_apart}
use Rattle.c_lower_worlds.proofs.OfNaming.RuleFacts.{both_empty, none_of_both}
use Rattle.vlt_core_laws.proofs.Unbroken.{unless_holds}

-- ---- what atoms are

-- the slots of a variable, or temps, or one atom
pub data AtomsAre (p : Program) (f : Func) (t : Numbers) : List Atom → Type 0 where
  slots : (v : ℕ) → AtomsAre p f t (map variable (slot_vars p f v))
  temps : (ss : List Sort) → AtomsAre p f t (map variable (vars_at t ss))
  single : (a : Atom) → AtomsAre p f t (a ∷ [])

pub expr_atoms : (p : Program) (f : Func) (t : Numbers) (e : core.Expr) → AtomsAre p f t (expr_code p f t e).atoms
expr_atoms p f t (core.number z) = single _
expr_atoms p f t (core.truth b) = single _
expr_atoms p f t (core.var v) = slots v
expr_atoms p f t (core.field x i) = temps _
expr_atoms p f t (core.unary o e) = single _
expr_atoms p f t (core.binary o a b) =
    let x = one_atom o (expr_code p f t a) (λ t. expr_code p f t b) in subst (AtomsAre p f t) (sym x.1) (single x.0)

pub operand_atoms : (p : Program) (f : Func) (t : Numbers) (o : Operand) → AtomsAre p f t (operand_code p f t o).atoms
operand_atoms p f t (pure e) = expr_atoms p f t e
operand_atoms p f t (move v) = slots v
operand_atoms p f t (pack x states) = slots x

-- ---- copies

-- no target is read after its own turn
abbrev pub IsSafe : List CVar → List CVar → Type 0
IsSafe [] us = Unit {0}
IsSafe (v ∷ vs) [] = Unit {0}
IsSafe (v ∷ vs) (u ∷ us) = Each (λ x. Apart x v) us × IsSafe vs us

safe_self : (vs : List CVar) → AllApart vs → IsSafe vs vs
safe_self [] h = tt
safe_self (v ∷ vs) h = (each_map (Apart v) (λ x. Apart x v) vs (λ x a. apart_back v x a) h.0, safe_self vs h.1)

safe_all : (vs us : List CVar) → Each (λ u. Each (Apart u) vs) us → IsSafe vs us
safe_all [] us h = tt
safe_all (v ∷ vs) [] h = tt
safe_all (v ∷ vs) (u ∷ us) h = (
  each_map (λ x. Each (Apart x) (v ∷ vs)) (λ x. Apart x v) us (λ x e. e.0) h.1,
  safe_all vs us (each_map (λ x. Each (Apart x) (v ∷ vs)) (λ x. Each (Apart x) vs) us (λ x e. e.1) h.1),
)

each_apart : (vs us : List CVar) → Each (λ v. Each (Apart v) us) vs → Each (λ u. Each (Apart u) vs) us
each_apart vs [] h = tt
each_apart vs (u ∷ us) h = (
  each_map (λ v. Each (Apart v) (u ∷ us)) (Apart u) vs (λ v e. apart_back v u e.0) h,
  each_apart vs us (each_map (λ v. Each (Apart v) (u ∷ us)) (λ v. Each (Apart v) us) vs (λ v e. e.1) h),
)

-- the slots of two variables
pub other_slots : (p : Program) (f : Func) (v u : ℕ) → (v == u) ≡ false → Each (λ x. Each (Apart x) (slot_vars p f v)) (slot_vars p f u)
other_slots p f v u e = by (nat_lt v u) refl
  where
    by : (b : Bool) → nat_lt v u ≡ b → Each (λ x. Each (Apart x) (slot_vars p f v)) (slot_vars p f u)
    by true l = each_apart (slot_vars p f v) (slot_vars p f u) (vars_apart p f v u (grind (arith, nat_tests)))
    by false l = vars_apart p f u v (grind (arith, nat_tests))

-- temps
pub temp_slots : (p : Program) (f : Func) (v : ℕ) (t : Numbers) (ss : List Sort) → AreUpTo (first_temps p f) t → Each (λ x. Each (Apart x) (slot_vars p f v)) (vars_at t ss)
temp_slots p f v t ss up =
    each_map (IsBetween t (past_all t ss)) (λ x. Each (Apart x) (slot_vars p f v)) (vars_at t ss)
    (λ x b. each_map (IsBelow (first_temps p f)) (Apart x) (slot_vars p f v)
    (λ y below. slot_apart (first_temps p f) (past_all t ss) x y (record { from = lower x.reference x b.from; below = b.below }) below) (below_temps p f v))
    (slots_between t ss)
  where
    lower : (r : Bool) (x : CVar) → (if r then t.p else t.n) ≤ x.number → (if r then (first_temps p f).p else (first_temps p f).n) ≤ x.number
    lower true x l = let e = up.p in omega arith
    lower false x l = let e = up.n in omega arith

module _ (R : crun.Setup) (cm : crun.Meaning) where
  vars_copied : (vs us : List CVar) (values : List cw.Value) (frame : crun.Frame) (w : cw.World) → IsSafe vs us → HaveValues us values frame → length vs ≡ length values →
      Runs R cm (copies vs (map variable us)) frame w (crun.goes (with_all vs values frame) w)
  vars_copied [] [] [] frame w safe h long = λ n. refl
  vars_copied [] [] (a ∷ values) frame w safe h long = absurd h
  vars_copied [] (u ∷ us) values frame w safe h long = λ n. refl
  vars_copied (v ∷ vs) [] [] frame w safe h long = λ n. refl
  vars_copied (v ∷ vs) [] (a ∷ values) frame w safe h long = absurd h
  vars_copied (v ∷ vs) (u ∷ us) [] frame w safe h long = absurd h
  vars_copied (v ∷ vs) (u ∷ us) (a ∷ values) frame w safe h long =
      runs_then R cm (syntax.set v (syntax.variable u) ∷ []) (copies vs (map variable us)) frame (crun.with_var v a frame) w w (crun.goes (with_all vs values (crun.with_var v a frame)) w)
      (set_runs R cm v (syntax.variable u) a frame w (rw h.0 refl))
      (vars_copied vs us values (crun.with_var v a frame) w safe.1 (still us values safe.0 h.1) (omega arith))
    where
      still : (us : List CVar) (values : List cw.Value) → Each (λ x. Apart x v) us → HaveValues us values frame → HaveValues us values (crun.with_var v a frame)
      still [] [] e h = tt
      still [] (b ∷ values) e h = absurd h
      still (u ∷ us) [] e h = absurd h
      still (u ∷ us) (b ∷ values) e h = (var_kept v a u frame e.0 ∙ h.0, still us values e.1 h.1)

  single_copied : (vs : List CVar) (a : Atom) (values : List cw.Value) (frame : crun.Frame) (w : cw.World) → HaveAtoms (a ∷ []) values frame w.blocks → length vs ≡ length values →
      Runs R cm (copies vs (a ∷ [])) frame w (crun.goes (with_all vs values frame) w)
  single_copied vs a [] frame w h long = absurd h
  single_copied [] a (x ∷ values) frame w h long = absurd (omega arith)
  single_copied (v ∷ []) a (x ∷ []) frame w h long = set_runs R cm v (atom_expr a) x frame w h.0
  single_copied (v ∷ u ∷ vs) a (x ∷ []) frame w h long = absurd (omega arith)
  single_copied (v ∷ vs) a (x ∷ y ∷ values) frame w h long = absurd h.1

  set_value : (o : Option cw.Value) (a : cw.Value) → cvalues.or_unset o ≡ Ok a → o ≡ Some a
  set_value None a e = absurd (never a e)
    where
      never : (a : cw.Value) → (let r : Rattle.std.specs.Prelude.Result cw.Value ℕ = Rattle.std.specs.Prelude.Err 5 in r ≡ Ok a) → ⊥
      never a e = cc
  set_value (Some b) a e = ap (λ x. Some x) (same b a e)
    where
      same : (b a : cw.Value) → (let r : Rattle.std.specs.Prelude.Result cw.Value ℕ = Ok b in r ≡ Ok a) → b ≡ a
      same b a e = cc

  pub vars_have : (us : List CVar) (values : List cw.Value) (frame : crun.Frame) (w : cw.World) → HaveAtoms (map variable us) values frame w.blocks → HaveValues us values frame
  vars_have [] [] frame w h = tt
  vars_have [] (a ∷ values) frame w h = absurd h
  vars_have (u ∷ us) [] frame w h = absurd h
  vars_have (u ∷ us) (a ∷ values) frame w h = (set_value (frame.vars u) a h.0, vars_have us values frame w h.1)

  pub atoms_copied : (p : Program) (f : Func) (t : Numbers) (v : ℕ) (atoms : List Atom) (values : List cw.Value) (frame : crun.Frame) (w : cw.World) → AtomsAre p f t atoms → AreUpTo (first_temps p f) t →
      HaveAtoms atoms values frame w.blocks → length (slot_vars p f v) ≡ length values →
      Runs R cm (copies (slot_vars p f v) atoms) frame w (crun.goes (with_all (slot_vars p f v) values frame) w)
  atoms_copied p f t v atoms values frame w (slots u) up h long = by (v == u) refl
    where
      by : (b : Bool) → (v == u) ≡ b → Runs R cm (copies (slot_vars p f v) (map variable (slot_vars p f u))) frame w (crun.goes (with_all (slot_vars p f v) values frame) w)
      by true e = vars_copied (slot_vars p f v) (slot_vars p f u) values frame w
          (subst (λ u. IsSafe (slot_vars p f v) (slot_vars p f u)) (grind (arith, nat_tests)) (safe_self (slot_vars p f v) (slots_apart (starts p f v) (sorts_of p (var_type f v)))))
          (vars_have (slot_vars p f u) values frame w h) long
      by false e = vars_copied (slot_vars p f v) (slot_vars p f u) values frame w (safe_all (slot_vars p f v) (slot_vars p f u) (other_slots p f v u e)) (vars_have (slot_vars p f u) values frame w h) long
  atoms_copied p f t v atoms values frame w (temps ss) up h long =
      vars_copied (slot_vars p f v) (vars_at t ss) values frame w (safe_all (slot_vars p f v) (vars_at t ss) (temp_slots p f v t ss up)) (vars_have (vars_at t ss) values frame w h) long
  atoms_copied p f t v atoms values frame w (single a) up h long = single_copied (slot_vars p f v) a values frame w h long

-- as many slots as values
pub slots_count : (t : Numbers) (ss : List Sort) (values : List cw.Value) → AreOfSorts ss values → length (vars_at t ss) ≡ length values
slots_count t [] [] h = refl
slots_count t [] (a ∷ values) h = absurd h
slots_count t (s ∷ ss) [] h = absurd h
slots_count t (s ∷ ss) (a ∷ values) h = ap Rattle.std.specs.Prelude.suc (slots_count (past t s) ss values h.1)

pub var_count : (p : Program) (f : Func) (v : ℕ) (ty : Ty) (types : List ℕ) (a : source.Value) → var_type f v ≡ Some ty → HasShape p types ty a → length (slot_vars p f v) ≡ length (slot_values p ty a)
var_count p f v ty types a is shape =
    ap (λ o. length (vars_at (starts p f v) (sorts_of p o))) is ∙ slots_count (starts p f v) (slot_sorts p ty) (slot_values p ty a) (shape_sorts p types ty a shape)

set_only : (b : Bool) (xs ys : Rules) → (if b then rule.WRONG_TYPE ∷ [] else (xs ++ ys)) ≡ [] → (if b then rule.WRONG_TYPE ∷ [] else ys) ≡ []
set_only true xs ys e = e
set_only false xs ys e = (both_empty xs ys e).right

set_rest : (p : Program) (f : Func) (ty : Ty) (e : core.Expr) → kinded.set_broken p f (Some ty) e ≡ [] → (if is_owning ty then rule.WRONG_TYPE ∷ [] else misfit (Some ty) (type_of_expr p f e)) ≡ []
set_rest p f ty e q = set_only (is_owning ty) _ (misfit (Some ty) (type_of_expr p f e)) q

module _ (p : Program) (heap depth : ℕ) (R : crun.Setup) (cm : crun.Meaning) (operands : OperandsAreRight p R cm) (m : run.Meaning) (n : ℕ) where
  abbrev setup : run.Setup
  setup = record { program = p; heap = heap; depth = depth }

  -- a value that was handed over is given to a variable
  given : (f : Func) (v : ℕ) (ty : Ty) (o : Operand) (t : Numbers) (k j : ℕ) (a : source.Value) (s : source.Frame) (w : source.World) (to : crun.Frame) (g : Registers) → var_type f v ≡ Some ty → AreUpTo (first_temps p f) t →
      Begins p f k s w to g → HasShape p (types_of w.objects) ty a → HaveAtoms (operand_code p f t o).atoms (slot_values p ty a) to (c_world p g w).blocks →
      Same p f t k to (step.goes (step.with_var v (Some a) s) w) (crun.does_stmts R cm j (stmts_made (copies (slot_vars p f v) (operand_code p f t o).atoms)) to (c_world p g w))
  given f v ty o t k j a s w to g is up begin shape have =
      arrives p f t k s (step.with_var v (Some a) s) w w to (with_all (slot_vars p f v) (slot_values p ty a) to) g _ begin
      (stands_set p (types_of w.objects) f s to v ty a begin.stands is shape) (spares_all p f t v (slot_values p ty a) to) refl (λ q. q) refl (λ q. q)
      (atoms_copied R cm p f t v (operand_code p f t o).atoms (slot_values p ty a) to (c_world p g w) (operand_atoms p f t o) up have (var_count p f v ty (types_of w.objects) a is shape) j)

  pub set_same : (f : Func) (v : ℕ) (e : core.Expr) → IsFunction p f → IsSameForm p setup R m cm n f (core.simple (core.set v e))
  unfolding with_operand
  set_same f v e is around ids t k s w frame g i kinds up le h =
      operands f (pure e) ids d.ty t t k s w frame g i (λ a s w. step.goes (step.with_var v (Some a) s) w) (copies (slot_vars p f v) (expr_code p f t e).atoms) is kinds.proper broken up (up_self t) h
      (λ a s2 w2 to j x. given f v d.ty (pure e) t k j a s2 w2 to g d.is up x.begins x.shape (x.have to (c_world p g w2).blocks (alike_self _ to)))
    where
      first : Rattle.c_lower_worlds.proofs.OfNaming.RuleFacts.BothEmpty (expr_broken p f ids e ++ kinded.set_broken p f (var_type f v) e) (target_broken f ids v)
      first = both_empty (expr_broken p f ids e ++ kinded.set_broken p f (var_type f v) e) (target_broken f ids v) kinds.row

      both : Rattle.c_lower_worlds.proofs.OfNaming.RuleFacts.BothEmpty (expr_broken p f ids e) (kinded.set_broken p f (var_type f v) e)
      both = both_empty (expr_broken p f ids e) (kinded.set_broken p f (var_type f v) e) first.left

      d : Declared f v
      d = target_declared f ids v first.right

      broken : operand_broken p f ids (Some d.ty) (pure e) ≡ []
      broken = none_of_both (expr_broken p f ids e) (if is_owning d.ty then rule.WRONG_TYPE ∷ [] else misfit (Some d.ty) (type_of_expr p f e)) both.left (set_rest p f d.ty e (subst (λ o. kinded.set_broken p f o e ≡ []) d.is both.right))

  pub own_same : (f : Func) (v : ℕ) (o : Operand) → IsFunction p f → IsSameForm p setup R m cm n f (core.simple (core.own v o))
  unfolding step.fill
  own_same f v o is around ids t k s w frame g i kinds up le h =
      operands f o ids d.ty t t k s w frame g i (λ a s w. step.fill f v a s w) (copies (slot_vars p f v) (operand_code p f t o).atoms) is kinds.proper broken up (up_self t) h
      (λ a s2 w2 to j x.
      where_same p f t k to (step.is_fillable f v s2) source.not_empty None w2 (λ w. step.goes (step.with_var v (Some a) s2) w) _ (λ free.
      given f v d.ty o t k j a s2 w2 to g d.is up x.begins x.shape (x.have to (c_world p g w2).blocks (alike_self _ to))))
    where
      first : Rattle.c_lower_worlds.proofs.OfNaming.RuleFacts.BothEmpty (kinded.wanted_of (var_type f v) is_owning ++ operand_broken p f ids (if is_owning_var f v then var_type f v else None) o) (target_broken f ids v)
      first = both_empty (kinded.wanted_of (var_type f v) is_owning ++ operand_broken p f ids (if is_owning_var f v then var_type f v else None) o) (target_broken f ids v) kinds.row

      both : Rattle.c_lower_worlds.proofs.OfNaming.RuleFacts.BothEmpty (kinded.wanted_of (var_type f v) is_owning) (operand_broken p f ids (if is_owning_var f v then var_type f v else None) o)
      both = both_empty (kinded.wanted_of (var_type f v) is_owning) (operand_broken p f ids (if is_owning_var f v then var_type f v else None) o) first.left

      d : Declared f v
      d = target_declared f ids v first.right

      owning : is_owning d.ty ≡ true
      owning = unless_holds (is_owning d.ty) rule.WRONG_TYPE (subst (λ o. kinded.wanted_of o is_owning ≡ []) d.is both.left)

      broken : operand_broken p f ids (Some d.ty) o ≡ []
      broken = subst (λ x. operand_broken p f ids x o ≡ []) (ap (λ x. if owns x then x else None) d.is ∙ ap (λ b. if b then Some d.ty else None) owning) both.right
