-- Input: the next number, or whether there is one.
use Rattle.std.proofs.Common.{◌≡◌, ℕ, Bool, true, false, ℤ, List, [], ◌∷◌, Some, refl, subst}
use Rattle.vlt_ops.specs.Operator.{bool_number, is_in_range}
use Rattle.vlt_core.specs.Core as core
use Rattle.vlt_core.specs.Core.{Ty, Func, Program}
use Rattle.vlt_core.specs.Lookups.{var_type}
use Rattle.vlt_core.specs.Types.{same_ty}
use Rattle.vlt_core.specs.KindedScopes.{target_broken}
use Rattle.vlt_core.specs.KindedOperands.{misfit}
use Rattle.vlt_core.specs.declared.rules.TheConstants as rule
use Rattle.vlt_meaning.specs.World as source
use Rattle.vlt_meaning.specs.World.{one}
use Rattle.vlt_meaning.specs.Step as step
use Rattle.vlt_meaning.specs.Run as run
use Rattle.c_syntax.specs.declared.program.CPrim.TheVariants as prim
use Rattle.c_syntax.specs.View.{stmts_made}
use Rattle.c_meaning.specs.World as cw
use Rattle.c_meaning.specs.Primitives.{no_args, has_more}
use Rattle.c_meaning.specs.Run as crun
use Rattle.c_lower.specs.Slots.{Numbers, first_temps, slot_of}
use Rattle.c_lower.specs.Statements.{runtime_value}
use Rattle.c_lower_worlds.specs.Worlds.{Registers, c_world}
use Rattle.c_lower_worlds.specs.Given.{IsFed, AreNumbers}
use Rattle.c_lower_worlds.specs.Shapes.{types_of, HasShape}
use Rattle.c_lower_worlds.specs.Same.{Same}
use Rattle.c_lower_worlds.specs.SameStatements.{Begins, IsSameForm}
use Rattle.c_lower_worlds.specs.Naming.Functions.{IsFunction}
use Rattle.c_lower_worlds.proofs.SameLayouts.{laid_to}
use Rattle.c_lower_worlds.proofs.FrameChanges.{stands_one}
use Rattle.c_lower_worlds.proofs.StatementLists.{value_runs, value_stops}
use Rattle.c_lower_worlds.proofs.OfNaming.DeclaredVariables.{Declared, target_declared}
use Rattle.c_lower_worlds.proofs.Targets.{arrives}
use Rattle.c_lower_worlds.proofs.OfNaming.RuleFacts.{both_empty}
use Rattle.vlt_core_laws.proofs.Unbroken.{unless_holds}
use Rattle.c_lower_worlds.proofs.VariableValues.{slot_below, spares_slot}

more_is : (zs : List ℤ) → has_more zs ≡ step.is_more zs
more_is [] = refl
more_is (z ∷ zs) = refl

bool_range : (b : Bool) → is_in_range (bool_number b) ≡ true
bool_range true = refl
bool_range false = refl

module _ (p : Program) (heap depth : ℕ) (R : crun.Setup) (m : run.Meaning) (cm : crun.Meaning) (n : ℕ) where
  abbrev setup : run.Setup
  setup = record { program = p; heap = heap; depth = depth }

  -- a number goes into a variable of this type
  taken : (f : Func) (v : ℕ) (ty want : Ty) (t : Numbers) (k : ℕ) (s : source.Frame) (w w2 : source.World) (frame : crun.Frame) (g : Registers) (z : ℤ) (c : crun.Step) → var_type f v ≡ Some ty → same_ty want ty ≡ true →
      HasShape p (types_of w.objects) want (one (source.number z)) → Begins p f k s w frame g → types_of w2.objects ≡ types_of w.objects →
      (Rattle.c_lower_worlds.specs.Shapes.AreShaped p w.objects → Rattle.c_lower_worlds.specs.Shapes.AreShaped p w2.objects) → w2.fuel ≡ w.fuel → (IsFed w.input w.answers → IsFed w2.input w2.answers) →
      c ≡ crun.goes (crun.with_var (slot_of p f v) (cw.number z) frame) (c_world p g w2) → Same p f t k frame (step.goes (step.with_var v (Some (one (source.number z))) s) w2) c
  taken f v ty want t k s w w2 frame g z c is fits shape h types shaped fuel fed e =
      arrives p f t k s (step.with_var v (Some (one (source.number z))) s) w w2 frame (crun.with_var (slot_of p f v) (cw.number z) frame) g c h
      (stands_one p (types_of w.objects) f s frame v ty (source.number z) h.stands is ((laid_to p want ty fits).shape (types_of w.objects) (one (source.number z)) shape))
      (spares_slot (first_temps p f) t (slot_of p f v) (cw.number z) frame (slot_below p f v ty is)) types shaped fuel fed e

  pub input_same : (f : Func) (v : ℕ) (more : Bool) → IsFunction p f → IsSameForm p setup R m cm n f (core.simple (core.input v more))
  unfolding step.with_input step.first_input no_args
  input_same f v true is around ids t k s w frame g i kinds up le h =
      let q = both_empty (misfit (Some core.bool) (var_type f v)) (target_broken f ids v) kinds.row in
      let d = target_declared f ids v q.right in
      let z = bool_number (step.is_more w.input) in
      taken f v d.ty core.bool t k s w w frame g z _ d.is (unless_holds (same_ty core.bool d.ty) rule.WRONG_TYPE (subst (λ o. misfit (Some core.bool) o ≡ []) d.is q.left))
      (record { part = source.number z; is = refl; shape = record { number = z; is = refl; range = bool_range (step.is_more w.input) } }) h refl (λ x. x) refl (λ x. x)
      (value_runs R cm (slot_of p f v) prim.More [] (cw.number z) frame (c_world p g w) (c_world p g w) (rw (more_is w.input) refl) i)
  input_same f v false is around ids t k s w frame g i kinds up le h = by w.input refl h.fed.numbers
    where
      q : Rattle.c_lower_worlds.proofs.OfNaming.RuleFacts.BothEmpty (misfit (Some core.int) (var_type f v)) (target_broken f ids v)
      q = both_empty (misfit (Some core.int) (var_type f v)) (target_broken f ids v) kinds.row

      d : Declared f v
      d = target_declared f ids v q.right

      by : (zs : List ℤ) → w.input ≡ zs → AreNumbers zs →
          Same p f t k frame (step.first_input zs w (λ z w. step.goes (step.with_var v (Some (one (source.number z))) s) w))
          (crun.does_stmts R cm i (stmts_made (runtime_value (slot_of p f v) prim.Read [] ∷ [])) frame (c_world p g w))
      by [] e range = record {
        world = c_world p g w;
        is = value_stops R cm (slot_of p f v) prim.Read [] frame (c_world p g w) (c_world p g w) cw.input_end (rw e refl) i;
        events = refl;
        fuel = refl;
      }
      by (z ∷ zs) e range =
          let w2 : source.World = record w { input = zs } in
          taken f v d.ty core.int t k s w w2 frame g z _ d.is (unless_holds (same_ty core.int d.ty) rule.WRONG_TYPE (subst (λ o. misfit (Some core.int) o ≡ []) d.is q.left))
          (record { part = source.number z; is = refl; shape = record { number = z; is = refl; range = range.0 } }) h refl (λ x. x) refl (λ x. record { numbers = range.1; lists = x.lists })
          (value_runs R cm (slot_of p f v) prim.Read [] (cw.number z) frame (c_world p g w) (c_world p g w2) (rw e refl) i)
