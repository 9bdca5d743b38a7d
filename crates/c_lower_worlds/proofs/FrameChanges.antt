-- Changes of frames: a variable gets a value, slot by slot; temps change.
use Rattle.std.proofs.Common.{◌≡◌, ◌≢◌, ℕ, ◌==◌, Bool, true, false, if◌then◌else◌, List, [], ◌∷◌, Option, Some, None, refl, sym, ◌∙◌, subst, arith}
use Rattle.std.proofs.lemmas.Bool.{eqb-true}
use Rattle.std.proofs.lemmas.Bool.Decides.{nat_tests}
use Rattle.vlt_core.specs.Core as core
use Rattle.vlt_core.specs.Core.{Ty, Func, Program}
use Rattle.vlt_core.specs.Lookups.{var_type}
use Rattle.vlt_meaning.specs.World as source
use Rattle.vlt_meaning.specs.Step as step
use Rattle.c_syntax.specs.declared.program.CVar.{CVar}
use Rattle.c_meaning.specs.World.{Value}
use Rattle.c_meaning.specs.Run.{Frame, with_var}
use Rattle.c_lower.specs.Slots.{Sort, Numbers, past, var_at, vars_at, slot_vars, slot_of, first_slot, sorts_of, first_temps}
use Rattle.c_lower_worlds.specs.Operators.Codes.{IsBelow, AreAlike}
use Rattle.c_lower_worlds.specs.Worlds.{c_part, slot_values}
use Rattle.c_lower_worlds.specs.Shapes.{HasShape}
use Rattle.c_lower_worlds.specs.Frames.{HaveValues, HoldsTyped, HoldsVar, StandsFor}
use Rattle.c_lower_worlds.specs.Sorts.{AreOfSorts}
use Rattle.c_lower_worlds.specs.Naming.Lists.{Each}
use Rattle.c_lower_worlds.proofs.VariableSlots.{Apart, each_map, slots_apart, vars_apart, below_temps, apart_back, same_self, starts}
use Rattle.c_lower_worlds.proofs.VariantSlots.{shape_sorts}

abbrev pub with_all : List CVar → List Value → Frame → Frame
with_all (v ∷ vs) (a ∷ rest) frame = with_all vs rest (with_var v a frame)
with_all _ _ frame = frame

pub var_kept : (v : CVar) (a : Value) (u : CVar) (frame : Frame) → Apart u v → (with_var v a frame).vars u ≡ frame.vars u
var_kept v a u frame e = rw e refl

pub var_set : (v : CVar) (a : Value) (frame : Frame) → (with_var v a frame).vars v ≡ Some a
var_set v a frame = rw (same_self v) refl

pub all_kept : (vs : List CVar) (values : List Value) (frame : Frame) (u : CVar) → Each (Apart u) vs → (with_all vs values frame).vars u ≡ frame.vars u
all_kept [] values frame u h = refl
all_kept (v ∷ vs) [] frame u h = refl
all_kept (v ∷ vs) (a ∷ values) frame u h = all_kept vs values (with_var v a frame) u h.1 ∙ var_kept v a u frame h.0

pub all_depth : (vs : List CVar) (values : List Value) (frame : Frame) → (with_all vs values frame).depth ≡ frame.depth
all_depth [] values frame = refl
all_depth (v ∷ vs) [] frame = refl
all_depth (v ∷ vs) (a ∷ values) frame = all_depth vs values (with_var v a frame)

pub all_glue : (vs : List CVar) (values : List Value) (frame : Frame) → (with_all vs values frame).is_glue ≡ frame.is_glue
all_glue [] values frame = refl
all_glue (v ∷ vs) [] frame = refl
all_glue (v ∷ vs) (a ∷ values) frame = all_glue vs values (with_var v a frame)

pub have_slots : (t : Numbers) (ss : List Sort) (values : List Value) (frame : Frame) → AreOfSorts ss values →
    HaveValues (vars_at t ss) values (with_all (vars_at t ss) values frame)
have_slots t [] [] frame h = tt
have_slots t [] (a ∷ values) frame h = absurd h
have_slots t (s ∷ ss) [] frame h = absurd h
have_slots t (s ∷ ss) (a ∷ values) frame h = (
  all_kept (vars_at (past t s) ss) values (with_var (var_at t s) a frame) (var_at t s) (slots_apart t (s ∷ ss)).0 ∙ var_set (var_at t s) a frame,
  have_slots (past t s) ss values (with_var (var_at t s) a frame) h.1,
)

pub have_same : (vs : List CVar) (values : List Value) (f g : Frame) → Each (λ u. f.vars u ≡ g.vars u) vs → HaveValues vs values f → HaveValues vs values g
have_same [] [] f g e h = tt
have_same [] (a ∷ values) f g e h = h
have_same (v ∷ vs) [] f g e h = h
have_same (v ∷ vs) (a ∷ values) f g e h = (sym e.0 ∙ h.0, have_same vs values f g e.1 h.1)

pub holds_same : (p : Program) (types : List ℕ) (fn : Func) (v : ℕ) (a : Option source.Value) (f g : Frame) → Each (λ u. f.vars u ≡ g.vars u) (slot_vars p fn v) →
    HoldsVar p types fn v a f → HoldsVar p types fn v a g
holds_same p types fn v None f g e h = tt
holds_same p types fn v (Some a) f g e h = by (var_type fn v) (slot_vars p fn v) e h
  where
    by : (ty : Option Ty) (vs : List CVar) → Each (λ u. f.vars u ≡ g.vars u) vs → HoldsTyped p types ty vs a f → HoldsTyped p types ty vs a g
    by None vs e h = h
    by (Some ty) vs e h = record { shape = h.shape; at = have_same vs (slot_values p ty a) f g e h.at }

-- ---- the whole frame

-- temps change, and nothing else
pub stands_alike : (p : Program) (types : List ℕ) (fn : Func) (s : source.Frame) (f g : Frame) → AreAlike (first_temps p fn) f g →
    StandsFor p types fn s f → StandsFor p types fn s g
stands_alike p types fn s f g alike h = record {
  depth = sym alike.depth ∙ h.depth;
  is_glue = sym alike.is_glue ∙ h.is_glue;
  vars = λ v. holds_same p types fn v (s.vars v) f g (each_map (IsBelow (first_temps p fn)) (λ u. f.vars u ≡ g.vars u) (slot_vars p fn v) alike.vars (below_temps p fn v)) (h.vars v);
}

-- a variable loses its value: its slots are as they were
pub stands_unset : (p : Program) (types : List ℕ) (fn : Func) (s : source.Frame) (f : Frame) (v : ℕ) → StandsFor p types fn s f →
    StandsFor p types fn (step.with_var v None s) f
stands_unset p types fn s f v h = record { depth = h.depth; is_glue = h.is_glue; vars = λ w. by w (w == v) }
  where
    by : (w : ℕ) (b : Bool) → HoldsVar p types fn w (if b then None else s.vars w) f
    by w true = tt
    by w false = h.vars w

-- keys have nothing that stands for them
pub stands_key : (p : Program) (types : List ℕ) (fn : Func) (s : source.Frame) (f : Frame) (k n : ℕ) → StandsFor p types fn s f →
    StandsFor p types fn (step.with_key k n s) f
stands_key p types fn s f k n h = record { depth = h.depth; is_glue = h.is_glue; vars = h.vars }

-- slots of another variable are kept
pub others_kept : (p : Program) (fn : Func) (v w : ℕ) (values : List Value) (f : Frame) → w ≢ v →
    Each (λ u. f.vars u ≡ (with_all (slot_vars p fn v) values f).vars u) (slot_vars p fn w)
others_kept p fn v w values f apart = by (Rattle.std.specs.Prelude.nat_lt v w) refl
  where
    kept : (u : CVar) → Each (Apart u) (slot_vars p fn v) → f.vars u ≡ (with_all (slot_vars p fn v) values f).vars u
    kept u h = sym (all_kept (slot_vars p fn v) values f u h)

    swap : (vs us : List CVar) → Each (λ v. Each (Apart v) us) vs → Each (λ u. Each (Apart u) vs) us
    swap vs [] h = tt
    swap vs (u ∷ us) h = (
      each_map (λ v. Each (Apart v) (u ∷ us)) (Apart u) vs (λ v e. apart_back v u e.0) h,
      swap vs us (each_map (λ v. Each (Apart v) (u ∷ us)) (λ v. Each (Apart v) us) vs (λ v e. e.1) h),
    )

    by : (b : Bool) → Rattle.std.specs.Prelude.nat_lt v w ≡ b → Each (λ u. f.vars u ≡ (with_all (slot_vars p fn v) values f).vars u) (slot_vars p fn w)
    by true e = each_map (λ u. Each (Apart u) (slot_vars p fn v)) _ (slot_vars p fn w) kept
        (swap (slot_vars p fn v) (slot_vars p fn w) (vars_apart p fn v w (grind (arith, nat_tests))))
    by false e = each_map (λ u. Each (Apart u) (slot_vars p fn v)) _ (slot_vars p fn w) kept
        (vars_apart p fn w v (grind (arith, nat_tests)))

-- a variable gets a value
pub stands_set : (p : Program) (types : List ℕ) (fn : Func) (s : source.Frame) (f : Frame) (v : ℕ) (ty : Ty) (a : source.Value) →
    StandsFor p types fn s f → var_type fn v ≡ Some ty → HasShape p types ty a →
    StandsFor p types fn (step.with_var v (Some a) s) (with_all (slot_vars p fn v) (slot_values p ty a) f)
stands_set p types fn s f v ty a h typed shape = record {
  depth = all_depth (slot_vars p fn v) (slot_values p ty a) f ∙ h.depth;
  is_glue = all_glue (slot_vars p fn v) (slot_values p ty a) f ∙ h.is_glue;
  vars = λ w. by w (w == v) refl;
}
  where
    g : Frame
    g = with_all (slot_vars p fn v) (slot_values p ty a) f

    here : HoldsTyped p types (var_type fn v) (slot_vars p fn v) a g
    here = rw typed (record { shape = shape; at = have_slots (starts p fn v) (sorts_of p (Some ty)) (slot_values p ty a) f (shape_sorts p types ty a shape) })

    by : (w : ℕ) (b : Bool) → (w == v) ≡ b → HoldsVar p types fn w (if b then Some a else s.vars w) g
    by w true e = subst (λ v. HoldsTyped p types (var_type fn v) (slot_vars p fn v) a g) (sym (eqb-true w v e)) here
    by w false e = holds_same p types fn w (s.vars w) f g (others_kept p fn v w (slot_values p ty a) f (λ q. grind (arith, nat_tests))) (h.vars w)

-- a value that is no variant's goes into the one slot of its variable
pub stands_one : (p : Program) (types : List ℕ) (fn : Func) (s : source.Frame) (f : Frame) (v : ℕ) (ty : Ty) (a : source.Part) →
    StandsFor p types fn s f → var_type fn v ≡ Some ty → HasShape p types ty (source.one a) →
    StandsFor p types fn (step.with_var v (Some (source.one a)) s) (with_var (slot_of p fn v) (c_part a) f)
stands_one p types fn s f v ty a h typed shape =
    subst (StandsFor p types fn (step.with_var v (Some (source.one a)) s)) (single ty shape (starts p fn v) (var_type fn v) typed)
    (stands_set p types fn s f v ty (source.one a) h typed shape)
  where
    never : (a : source.Part) (k : ℕ) (parts : List source.Part) (keys : List ℕ) → source.one a ≡ source.of_case k parts keys → ⊥
    never a k parts keys e = cc

    single : (ty : Ty) → HasShape p types ty (source.one a) → (t : Numbers) (declared : Option Ty) → declared ≡ Some ty →
        with_all (vars_at t (sorts_of p declared)) (slot_values p ty (source.one a)) f ≡ with_var (first_slot (vars_at t (sorts_of p declared))) (c_part a) f
    single core.int h t d e = rw e refl
    single core.bool h t d e = rw e refl
    single (core.tracked k u args) h t d e = rw e refl
    single (core.owning states u args) h t d e = rw e refl
    single (core.guarded k u args) h t d e = rw e refl
    single (core.variant u args) h t d e = absurd (never a h.case h.parts h.keys h.is)
    single (core.owning_variant u args) h t d e = absurd (never a h.case h.parts h.keys h.is)
