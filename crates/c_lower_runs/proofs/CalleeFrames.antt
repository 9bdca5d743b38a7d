-- The frame of a function that is called.
use Rattle.std.proofs.Common.{◌≡◌, ◌≢◌, ℕ, zero, suc, ◌==◌, nat_lt, Bool, true, false, if◌then◌else◌, List, [], ◌∷◌, ◌++◌, take, length, Option, Some, None, slice_get, refl, sym, ◌∙◌, subst, arith}
use Rattle.std.proofs.lemmas.Bool.{eqb-true}
use Rattle.std.proofs.lemmas.Bool.Decides.{nat_tests}
use Rattle.std.proofs.lemmas.Option.{none-some, same_Some}
use Rattle.std.specs.Option.{option_map}
use Rattle.vlt_core.specs.Core.{Ty, VarDecl, Func, Program}
use Rattle.vlt_core.specs.Lookups.{var_type}
use Rattle.vlt_meaning.specs.World as source
use Rattle.vlt_meaning.specs.Step as step
use Rattle.c_syntax.specs.declared.program.CVar.{CVar}
use Rattle.c_meaning.specs.World.{Value}
use Rattle.c_meaning.specs.Run.{Frame, bound}
use Rattle.c_lower.specs.Slots.{Sort, Numbers, first_numbers, past, past_all, var_at, vars_at, slot_sorts, sorts_of, var_sorts, slot_vars, param_slots}
use Rattle.c_lower_worlds.specs.Worlds.{slot_values}
use Rattle.c_lower_worlds.specs.Shapes.{HasShape}
use Rattle.c_lower_worlds.specs.Frames.{HaveValues, HoldsTyped, HoldsVar, StandsFor}
use Rattle.c_lower_worlds.specs.Sorts.{AreOfSorts}
use Rattle.c_lower_worlds.specs.Naming.Lists.{Each}
use Rattle.c_lower_worlds.proofs.VariableSlots.{Apart, each_map, slots_apart, vars_apart, apart_back, same_self}
use Rattle.c_lower_worlds.proofs.OfOperators.Slots.{past_all_append}
use Rattle.c_lower_worlds.proofs.FrameChanges.{have_same, holds_same}
use Rattle.c_lower_worlds.proofs.VariantSlots.{shape_sorts, sorts_append}

-- ---- parameters get their values

abbrev pub called_frame : ℕ → List CVar → List Value → Frame
called_frame d vs values = record { depth = d; is_glue = false; vars = bound vs values }

pub bound_have : (d : ℕ) (t : Numbers) (ss : List Sort) (values : List Value) → AreOfSorts ss values → HaveValues (vars_at t ss) values (called_frame d (vars_at t ss) values)
bound_have d t [] [] h = tt
bound_have d t [] (a ∷ values) h = absurd h
bound_have d t (s ∷ ss) [] h = absurd h
bound_have d t (s ∷ ss) (a ∷ values) h = (
  rw (same_self (var_at t s)) refl,
  have_same (vars_at (past t s) ss) values (called_frame d (vars_at (past t s) ss) values) (called_frame d (vars_at t (s ∷ ss)) (a ∷ values))
      (each_map (Apart (var_at t s)) _ (vars_at (past t s) ss) (λ u e. other u (apart_back (var_at t s) u e)) (slots_apart t (s ∷ ss)).0)
      (bound_have d (past t s) ss values h.1),
)
  where
    other : (u : CVar) → Apart u (var_at t s) → bound (vars_at (past t s) ss) values u ≡ (called_frame d (vars_at t (s ∷ ss)) (a ∷ values)).vars u
    other u e = rw e refl

record Split (t : Numbers) (xs ys : List Sort) (vs us : List Value) (f : Frame) : Type 0 where
  left : HaveValues (vars_at t xs) vs f
  right : HaveValues (vars_at (past_all t xs) ys) us f

split : (t : Numbers) (xs ys : List Sort) (vs us : List Value) (f : Frame) → AreOfSorts xs vs → HaveValues (vars_at t (xs ++ ys)) (vs ++ us) f → Split t xs ys vs us f
split t [] ys [] us f h k = record { left = tt; right = k }
split t [] ys (a ∷ vs) us f h k = absurd h
split t (x ∷ xs) ys [] us f h k = absurd h
split t (x ∷ xs) ys (a ∷ vs) us f h k = let r = split (past t x) xs ys vs us f h.1 k.1 in record { left = (k.0, r.left); right = r.right }

-- arguments of the shapes of the first variables
abbrev pub ArgsFit : Program → List ℕ → List VarDecl → List source.Value → Type 0
ArgsFit p ts ds [] = Unit {0}
ArgsFit p ts [] (a ∷ args) = ⊥
ArgsFit p ts (d ∷ ds) (a ∷ args) = HasShape p ts d.ty a × ArgsFit p ts ds args

abbrev pub decl_values : Program → List VarDecl → List source.Value → List Value
decl_values p (d ∷ ds) (a ∷ args) = slot_values p d.ty a ++ decl_values p ds args
decl_values p _ _ = []

pub decl_sorts : (p : Program) (ts : List ℕ) (ds : List VarDecl) (args : List source.Value) → ArgsFit p ts ds args →
    AreOfSorts (var_sorts p (take (length args) ds)) (decl_values p ds args)
decl_sorts p ts [] [] h = tt
decl_sorts p ts (d ∷ ds) [] h = tt
decl_sorts p ts [] (a ∷ args) h = absurd h
decl_sorts p ts (d ∷ ds) (a ∷ args) h =
    sorts_append (slot_sorts p d.ty) (var_sorts p (take (length args) ds)) (slot_values p d.ty a) (decl_values p ds args) (shape_sorts p ts d.ty a h.0) (decl_sorts p ts ds args h.1)

param_holds : (p : Program) (ts : List ℕ) (ds : List VarDecl) (args : List source.Value) (t : Numbers) (f : Frame) → ArgsFit p ts ds args →
    HaveValues (vars_at t (var_sorts p (take (length args) ds))) (decl_values p ds args) f → (v : ℕ) (a : source.Value) → slice_get args v ≡ Some a →
    HoldsTyped p ts (option_map (λ d. d.ty) (slice_get ds v)) (vars_at (past_all t (var_sorts p (take v ds))) (sorts_of p (option_map (λ d. d.ty) (slice_get ds v)))) a f
param_holds p ts ds [] t f fit h v a at = absurd (none-some a at)
param_holds p ts [] (x ∷ args) t f fit h v a at = absurd fit
param_holds p ts (d ∷ ds) (x ∷ args) t f fit h zero a at =
    let s = split t (slot_sorts p d.ty) (var_sorts p (take (length args) ds)) (slot_values p d.ty x) (decl_values p ds args) f (shape_sorts p ts d.ty x fit.0) h in
    subst (λ a. HoldsTyped p ts (Some d.ty) (vars_at t (slot_sorts p d.ty)) a f) (same_Some x a at) (record { shape = fit.0; at = s.left })
param_holds p ts (d ∷ ds) (x ∷ args) t f fit h (suc v) a at =
    let s = split t (slot_sorts p d.ty) (var_sorts p (take (length args) ds)) (slot_values p d.ty x) (decl_values p ds args) f (shape_sorts p ts d.ty x fit.0) h in
    rw (past_all_append t (slot_sorts p d.ty) (var_sorts p (take v ds)))
    (param_holds p ts ds args (past_all t (slot_sorts p d.ty)) f fit.1 s.right v a at)

-- a function begins with its arguments
pub callee_stands : (p : Program) (ts : List ℕ) (g : Func) (d : ℕ) (keys : ℕ → Option ℕ) (args : List source.Value) → ArgsFit p ts g.vars args → length args ≡ g.params →
    StandsFor p ts g (record { depth = d; vars = slice_get args; keys = keys }) (called_frame d (param_slots p g) (decl_values p g.vars args))
callee_stands p ts g d keys args fit long =
    subst (λ n. StandsFor p ts g (record { depth = d; vars = slice_get args; keys = keys }) (called_frame d (vars_at first_numbers (var_sorts p (take n g.vars))) (decl_values p g.vars args))) long
    (record { depth = refl; is_glue = refl; vars = λ v. by v (slice_get args v) refl })
  where
    f : Frame
    f = called_frame d (vars_at first_numbers (var_sorts p (take (length args) g.vars))) (decl_values p g.vars args)

    by : (v : ℕ) (a : Option source.Value) → slice_get args v ≡ a → HoldsVar p ts g v a f
    by v None e = tt
    by v (Some a) e = param_holds p ts g.vars args first_numbers f fit
        (bound_have d first_numbers (var_sorts p (take (length args) g.vars)) (decl_values p g.vars args) (decl_sorts p ts g.vars args fit)) v a e

-- ---- a variable gets a value, however its slots are written

pub stands_have : (p : Program) (ts : List ℕ) (fn : Func) (s : source.Frame) (f to : Frame) (v : ℕ) (ty : Ty) (a : source.Value) → StandsFor p ts fn s f → var_type fn v ≡ Some ty →
    HasShape p ts ty a → HaveValues (slot_vars p fn v) (slot_values p ty a) to → ((u : CVar) → Each (Apart u) (slot_vars p fn v) → to.vars u ≡ f.vars u) →
    to.depth ≡ f.depth → to.is_glue ≡ f.is_glue → StandsFor p ts fn (step.with_var v (Some a) s) to
stands_have p ts fn s f to v ty a h typed shape have kept depth glue = record {
  depth = depth ∙ h.depth;
  is_glue = glue ∙ h.is_glue;
  vars = λ w. by w (w == v) refl;
}
  where
    here : HoldsTyped p ts (var_type fn v) (slot_vars p fn v) a to
    here = subst (λ o. HoldsTyped p ts o (slot_vars p fn v) a to) (sym typed) (record { shape = shape; at = have })

    swap : (vs us : List CVar) → Each (λ v. Each (Apart v) us) vs → Each (λ u. Each (Apart u) vs) us
    swap vs [] h = tt
    swap vs (u ∷ us) h = (
      each_map (λ v. Each (Apart v) (u ∷ us)) (Apart u) vs (λ v e. apart_back v u e.0) h,
      swap vs us (each_map (λ v. Each (Apart v) (u ∷ us)) (λ v. Each (Apart v) us) vs (λ v e. e.1) h),
    )

    others : (w : ℕ) → w ≢ v → (b : Bool) → nat_lt v w ≡ b → Each (λ u. f.vars u ≡ to.vars u) (slot_vars p fn w)
    others w e true q = each_map (λ u. Each (Apart u) (slot_vars p fn v)) _ (slot_vars p fn w) (λ u e. sym (kept u e))
        (swap (slot_vars p fn v) (slot_vars p fn w) (vars_apart p fn v w (grind (arith, nat_tests))))
    others w e false q = each_map (λ u. Each (Apart u) (slot_vars p fn v)) _ (slot_vars p fn w) (λ u e. sym (kept u e))
        (vars_apart p fn w v (grind (arith, nat_tests)))

    by : (w : ℕ) (b : Bool) → (w == v) ≡ b → HoldsVar p ts fn w (if b then Some a else s.vars w) to
    by w true e = subst (λ v. HoldsTyped p ts (var_type fn v) (slot_vars p fn v) a to) (sym (eqb-true w v e)) here
    by w false e = holds_same p ts fn w (s.vars w) f to (others w (λ q. grind (arith, nat_tests)) (nat_lt v w) refl) (h.vars w)
