-- Where a step ends up that gives a variable a value.
use Rattle.std.proofs.Common.{◌≡◌, ◌≤◌, ◌<◌, ℕ, ◌==◌, ◌&&◌, Bool, true, false, if◌then◌else◌, List, refl, sym, subst, arith}
use Rattle.std.proofs.lemmas.Bool.Decides.{nat_tests}
use Rattle.vlt_core.specs.Core.{Func, Program}
use Rattle.vlt_meaning.specs.World as source
use Rattle.vlt_meaning.specs.Step as step
use Rattle.c_syntax.specs.declared.program.CVar.{CVar}
use Rattle.c_syntax.specs.Kinds.{same_bool}
use Rattle.c_meaning.specs.World as cw
use Rattle.c_meaning.specs.Run as crun
use Rattle.c_lower.specs.Slots.{Numbers, slot_vars, first_temps}
use Rattle.c_lower_worlds.specs.Operators.Codes.{IsBelow}
use Rattle.c_lower_worlds.specs.Worlds.{Registers, c_world}
use Rattle.c_lower_worlds.specs.Given.{IsFed}
use Rattle.c_lower_worlds.specs.Shapes.{types_of, AreShaped}
use Rattle.c_lower_worlds.specs.Frames.{StandsFor, Spares, IsBetween}
use Rattle.c_lower_worlds.specs.Same.{Same}
use Rattle.c_lower_worlds.specs.SameStatements.{Begins}
use Rattle.c_lower_worlds.proofs.FrameChanges.{with_all, all_kept, all_depth, all_glue}
use Rattle.c_lower_worlds.proofs.VariableSlots.{Apart, each_map, below_temps}

-- ---- slots are no temps

pub slot_apart : (t u : Numbers) (x v : CVar) → IsBetween t u x → IsBelow t v → Apart x v
slot_apart t u x v b below = by x.reference v.reference b.from below
  where
    by : (r q : Bool) → (if r then t.p else t.n) ≤ x.number → v.number < (if q then t.p else t.n) → (same_bool r q && (x.number == v.number)) ≡ false
    by true true l k = grind (arith, nat_tests)
    by false false l k = grind (arith, nat_tests)
    by true false l k = refl
    by false true l k = refl

pub spares_all : (p : Program) (f : Func) (t : Numbers) (v : ℕ) (values : List cw.Value) (frame : crun.Frame) →
    Spares (first_temps p f) t frame (with_all (slot_vars p f v) values frame)
spares_all p f t v values frame = record {
  vars = λ x b. sym (all_kept (slot_vars p f v) values frame x (each_map (IsBelow (first_temps p f)) (Apart x) (slot_vars p f v) (λ u below. slot_apart (first_temps p f) t x u b below) (below_temps p f v)));
  depth = sym (all_depth (slot_vars p f v) values frame);
  is_glue = sym (all_glue (slot_vars p f v) values frame);
}

-- ---- where a step ends up

pub arrives : (p : Program) (f : Func) (t : Numbers) (k : ℕ) (s s2 : source.Frame) (w v : source.World) (frame to : crun.Frame) (g : Registers) (c : crun.Step) → Begins p f k s w frame g →
    StandsFor p (types_of w.objects) f s2 to → Spares (first_temps p f) t frame to →
    types_of v.objects ≡ types_of w.objects → (AreShaped p w.objects → AreShaped p v.objects) → v.fuel ≡ w.fuel → (IsFed w.input w.answers → IsFed v.input v.answers) → c ≡ crun.goes to (c_world p g v) →
    Same p f t k frame (step.goes s2 v) c
arrives p f t k s s2 w v frame to g c h stands spares types shaped fuel fed is = record {
  to = to;
  registers = g;
  is = is;
  comes = record {
    frame = subst (λ ts. StandsFor p ts f s2 to) (sym types) stands;
    spares = spares;
    shaped = shaped h.shaped;
    registers = h.registers;
    fed = fed h.fed;
    fuel_left = subst (λ n. n ≤ k) (sym fuel) h.fuel_left;
  };
}
