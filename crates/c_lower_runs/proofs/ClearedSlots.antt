-- The slots of an external's variant are cleared first: each has what an unused slot has.
use Rattle.std.proofs.Common.{◌≡◌, ℕ, zero, suc, Bool, true, false, if◌then◌else◌, pos, List, [], ◌∷◌, map, Some, None, slice_get, Ok, refl, sym, ap, ◌∙◌, subst}
use Rattle.std.proofs.lemmas.Option.{none-some, same_Some}
use Rattle.c_syntax.specs.declared.program.CVar.{CVar}
use Rattle.c_syntax.specs.C as syntax
use Rattle.c_meaning.specs.World as cw
use Rattle.c_meaning.specs.Values.{value_of}
use Rattle.c_meaning.specs.Run as crun
use Rattle.c_meaning.specs.Run.{goes}
use Rattle.c_lower.specs.Slots.{Sort, of_number, of_reference, of_owner, Numbers, past, var_at, vars_at}
use Rattle.c_lower.specs.Guards.{whole}
use Rattle.c_lower.specs.Glue.{clear}
use Rattle.c_lower_worlds.specs.Operators.Codes.{AreUpTo, AreAlike, IsBelow}
use Rattle.c_lower_worlds.proofs.OfOperators.Codes.{up_past, more_more}
use Rattle.c_lower_worlds.specs.Worlds.{unused}
use Rattle.c_lower_worlds.specs.Naming.Lists.{Each}
use Rattle.c_lower_worlds.proofs.FrameChanges.{var_kept, var_set}
use Rattle.c_lower_worlds.proofs.StatementLists.{Runs, runs_then, set_runs}
use Rattle.c_lower_worlds.proofs.VariableSlots.{Apart, slots_apart, temp_apart}

abbrev pub cleared_value : CVar → cw.Value
cleared_value v = if v.reference then cw.reference None else cw.number (pos 0)

abbrev pub clear_all : List CVar → crun.Frame → crun.Frame
clear_all [] f = f
clear_all (v ∷ vs) f = clear_all vs (crun.with_var v (cleared_value v) f)

pub clears_run : (R : crun.Setup) (cm : crun.Meaning) (vs : List CVar) (f : crun.Frame) (w : cw.World) → Runs R cm (map clear vs) f w (goes (clear_all vs f) w)
clears_run R cm [] f w = λ n. refl
clears_run R cm (v ∷ vs) f w =
    runs_then R cm (clear v ∷ []) (map clear vs) f (crun.with_var v (cleared_value v) f) w w (goes (clear_all (v ∷ vs) f) w)
    (set_runs R cm v (if v.reference then syntax.null else whole 0) (cleared_value v) f w (one v.reference)) (clears_run R cm vs (crun.with_var v (cleared_value v) f) w)
  where
    one : (b : Bool) → value_of (if b then syntax.null else whole 0) f.vars w.blocks ≡ Ok (if b then cw.reference None else cw.number (pos 0))
    one true = refl
    one false = refl

pub clear_kept : (vs : List CVar) (f : crun.Frame) (u : CVar) → Each (Apart u) vs → (clear_all vs f).vars u ≡ f.vars u
clear_kept [] f u h = refl
clear_kept (v ∷ vs) f u h = clear_kept vs (crun.with_var v (cleared_value v) f) u h.1 ∙ var_kept v (cleared_value v) u f h.0

pub clear_depth : (vs : List CVar) (f : crun.Frame) → (clear_all vs f).depth ≡ f.depth
clear_depth [] f = refl
clear_depth (v ∷ vs) f = clear_depth vs (crun.with_var v (cleared_value v) f)

pub clear_glue : (vs : List CVar) (f : crun.Frame) → (clear_all vs f).is_glue ≡ f.is_glue
clear_glue [] f = refl
clear_glue (v ∷ vs) f = clear_glue vs (crun.with_var v (cleared_value v) f)

-- each slot has what an unused one of its sort has
pub cleared_at : (t : Numbers) (ss : List Sort) (f : crun.Frame) (m : ℕ) (v : CVar) (s : Sort) → slice_get (vars_at t ss) m ≡ Some v → slice_get ss m ≡ Some s →
    (clear_all (vars_at t ss) f).vars v ≡ Some (unused s)
cleared_at t [] f m v s a b = absurd (none-some v a)
cleared_at t (x ∷ ss) f zero v s a b =
    subst (λ v. (clear_all (vars_at t (x ∷ ss)) f).vars v ≡ Some (unused s)) (same_Some (var_at t x) v a)
    (clear_kept (vars_at (past t x) ss) (crun.with_var (var_at t x) (cleared_value (var_at t x)) f) (var_at t x) (slots_apart t (x ∷ ss)).0
    ∙ var_set (var_at t x) (cleared_value (var_at t x)) f ∙ ap (λ a. Some a) (sorted x) ∙ ap (λ s. Some (unused s)) (same_Some x s b))
  where
    sorted : (x : Sort) → cleared_value (var_at t x) ≡ unused x
    sorted of_number = refl
    sorted of_reference = refl
    sorted of_owner = refl
cleared_at t (x ∷ ss) f (suc m) v s a b = cleared_at (past t x) ss (crun.with_var (var_at t x) (cleared_value (var_at t x)) f) m v s a b

-- ---- what changes temps alone

below_apart : (t x : Numbers) (ss : List Sort) (u : CVar) → AreUpTo t x → IsBelow t u → Each (Apart u) (vars_at x ss)
below_apart t x [] u m b = tt
below_apart t x (s ∷ ss) u m b = (temp_apart x s t u m b, below_apart t (past x s) ss u (more_more m (up_past x s)) b)

pub temps_alike : (t : Numbers) (ss : List Sort) (f g : crun.Frame) → AreUpTo t t → ((u : CVar) → Each (Apart u) (vars_at t ss) → g.vars u ≡ f.vars u) → g.depth ≡ f.depth → g.is_glue ≡ f.is_glue → AreAlike t f g
temps_alike t ss f g m kept depth glue = record { vars = λ u b. sym (kept u (below_apart t t ss u m b)); depth = sym depth; is_glue = sym glue }
