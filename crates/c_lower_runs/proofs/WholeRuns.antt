-- Whole runs, by the law of statements.
use Rattle.std.proofs.Common.{◌≡◌, ◌⊎◌, inl, inr, ℕ, zero, suc, ◌==◌, Bool, true, false, if◌then◌else◌, ℤ, List, [], replicate, Some, None, slice_get, refl, sym, ap, ◌∙◌, subst, arith}
use Rattle.std.proofs.lemmas.Option.{none-some}
use Rattle.vlt_core.specs.Core.{Func, Program}
use Rattle.vlt_core.specs.KindedBodies.{first_ids}
use Rattle.vlt_meaning.specs.World as source
use Rattle.vlt_meaning.specs.Step as step
use Rattle.vlt_meaning.specs.Run as run
use Rattle.c_syntax.specs.declared.program.CResult.{CResult}
use Rattle.c_syntax.specs.declared.program.CResult.TheVariants as result
use Rattle.c_meaning.specs.World as cw
use Rattle.c_meaning.specs.Run as crun
use Rattle.c_lower.specs.Slots.{Numbers, first_temps}
use Rattle.c_lower.specs.Lowering.{lowered, result_of}
use Rattle.c_lower_worlds.proofs.OfOperators.Codes.{up_self}
use Rattle.c_lower_worlds.specs.Worlds.{Registers, c_world}
use Rattle.c_lower_worlds.specs.Given.{IsFed}
use Rattle.c_lower_worlds.specs.Same.{Same, EndedAs, Ended}
use Rattle.c_lower_worlds.specs.SameStatements.{Begins, RestIsSame}
use Rattle.vlt_core.specs.Instances.{IsInstanceOf}
use Rattle.c_lower_worlds.specs.Parts.{NumbersAreRight, Parts}
use Rattle.c_lower_runs.specs.SameRuns.{AreTheSame, IsSameRun}
use Rattle.c_lower_worlds.specs.Naming.KindedParts.{HasKindedBodies}
use Rattle.vlt_core.specs.Kinded.{IsKinded}
use Rattle.c_lower_worlds.specs.Naming.Types.{TypesFit}
use Rattle.c_lower_worlds.proofs.OfNaming.KnownScopes.{first_known}
use Rattle.c_lower_worlds.proofs.OfNaming.NamedStatements.{less_named}
use Rattle.c_lower_runs.proofs.OfForms.Statements.{lists_are_same}
use Rattle.c_lower_runs.proofs.EventText.{text_told}
use Rattle.c_lower_runs.proofs.LoweredFunctions.{Found, main_found, body_func}
use Rattle.c_lower.specs.Statements.{list_code, body_of}

AreRan : source.Ran → cw.Ran → Type 0
AreRan r c = (source.is_fault r.outcome ≡ true) ⊎ AreTheSame r c

ended_ran : (count : ℕ) (given : CResult) (o : source.Outcome) (w : source.World) (c : crun.Step) → EndedAs o w c → AreRan (run.ran_of (step.ends o w)) (crun.ran_of count given c)
unfolding AreRan
ended_ran count given o w c h = by o h
  where
    one : (o : source.Outcome) (q : cw.Outcome) → Ended q w c → Rattle.c_lower_runs.specs.SameRuns.c_outcome o ≡ Some q →
        AreTheSame (record { outcome = o; kept = []; world = w }) (crun.ran_of count given c)
    one o q h e = rw h.is (by_result given)
      where
        by_result : (given : CResult) → AreTheSame (record { outcome = o; kept = []; world = w }) (crun.ran_of count given (crun.stops q h.world))
        by_result result.Nothing = record { outcome = e; text = ap cw.event_text h.events ∙ text_told w.events; fuel = h.fuel }
        by_result result.Number = record { outcome = e; text = ap cw.event_text h.events ∙ text_told w.events; fuel = h.fuel }
        by_result result.Reference = record { outcome = e; text = ap cw.event_text h.events ∙ text_told w.events; fuel = h.fuel }

    by : (o : source.Outcome) → EndedAs o w c → (source.is_fault o ≡ true) ⊎ AreTheSame (record { outcome = o; kept = []; world = w }) (crun.ran_of count given c)
    by source.done h = inr (one source.done cw.done h refl)
    by (source.trap k) h = inr (one (source.trap k) (cw.trap k) h refl)
    by source.fuel_end h = inr (one source.fuel_end cw.fuel_end h refl)
    by source.heap_end h = inr (one source.heap_end cw.heap_end h refl)
    by source.depth_end h = inr (one source.depth_end cw.depth_end h refl)
    by source.input_end h = inr (one source.input_end cw.input_end h refl)
    by source.answers_end h = inr (one source.answers_end cw.answers_end h refl)
    by (source.bad_answer n) h = inr (one (source.bad_answer n) (cw.bad_answer n) h refl)
    by (source.fault r n) h = inl refl

step_ran : (p : Program) (f : Func) (t : Numbers) (n count : ℕ) (given : CResult) (frame : crun.Frame) (a : step.Step) (c : crun.Step) → Same p f t n frame a c →
    AreRan (run.ran_of a) (crun.ran_of count given c)
unfolding AreRan
step_ran p f t n count given frame (step.goes s w) c h = inl refl
step_ran p f t n count given frame (step.jumps true s w) c h = inl refl
step_ran p f t n count given frame (step.jumps false s w) c h = inl refl
step_ran p f t n count given frame (step.leaves a kept w) c h = inr (rw h.is (by given))
  where
    by : (given : CResult) → AreTheSame (record { outcome = source.done; kept = kept; world = w }) (crun.ran_of count given (crun.leaves h.value (c_world p h.registers w)))
    by result.Nothing = record { outcome = refl; text = text_told w.events; fuel = refl }
    by result.Number = record { outcome = refl; text = text_told w.events; fuel = refl }
    by result.Reference = record { outcome = refl; text = text_told w.events; fuel = refl }
step_ran p f t n count given frame (step.ends o w) c h = ended_ran count given o w c h

module _ (p : Program) (kinded_p : IsKinded p) (types : TypesFit p) (numbers_right : NumbersAreRight p) (bodies : HasKindedBodies p) (heap depth : ℕ) where
  abbrev setup : run.Setup
  setup = record { program = p; heap = heap; depth = depth }

  abbrev c_setup : crun.Setup
  c_setup = record { program = lowered p; heap = heap; depth = depth }

  module _ (parts : (n : ℕ) → RestIsSame p setup c_setup (run.less setup n) (crun.less c_setup n) n → Parts p setup c_setup (run.less setup n) (crun.less c_setup n) n) where
    -- by induction on the units of fuel that are left
    levels : (n : ℕ) → RestIsSame p setup c_setup (run.less setup n) (crun.less c_setup n) n
    levels zero = λ f ss around ids ended t k s w frame g i is kinded up less h scope. absurd (omega arith)
    levels (suc n) = λ f ss around ids ended t k s w frame g i is kinded up less h scope.
        lists_are_same p kinded_p types numbers_right heap depth c_setup (run.less setup n) (crun.less c_setup n) n (parts n (levels n)) (levels n) (less_named p kinded_p types heap depth n)
        f ss is around ids ended t k s w frame g i kinded up (omega arith) h scope

    pub runs_are_same : (fuel : ℕ) (input : List ℤ) (answers : List (List ℤ)) → IsFed input answers → IsSameRun p fuel heap depth input answers
    unfolding AreRan
    runs_are_same fuel input answers fed =
        subst (λ o. AreRan (run.ran_of (if depth == 0 then step.ends source.depth_end w else run.main_run setup fuel o w)) (crun.c_run (lowered p) fuel heap depth input answers)) (sym bodies.main_at)
        (subst (λ o. AreRan (run.ran_of (if depth == 0 then step.ends source.depth_end w else run.main_run setup fuel (Some f) w)) (crun.run_from c_setup o (c_world p g w))) (sym main.is)
        (by (depth == 0)))
      where
        f : Func
        f = bodies.main

        main_is : IsInstanceOf p p.main f
        main_is = record { declared = f; origin = None; at = bodies.main_at; is = refl }

        main : Found (crun.main_of (lowered p)) (body_func p p.main f)
        main = main_found p f bodies.main_at bodies.main_body

        w : source.World
        w = run.start fuel input answers

        g : Registers
        g = record { numbers = replicate 8 None; references = replicate 16 None }

        no_object : (o : source.Object) (n : ℕ) → slice_get [] n ≡ Some o → ⊥
        no_object o zero e = none-some o e
        no_object o (suc n) e = none-some o e

        begins : Begins p f fuel (run.first_frame 1) w crun.first_frame g
        begins = record {
          stands = record { depth = refl; is_glue = refl; vars = λ v. tt };
          shaped = record { each = λ n o at. absurd (no_object o n at) };
          registers = record { numbers = refl; references = refl };
          fed = fed;
          fuel_left = omega arith;
        }

        by : (b : Bool) → AreRan (run.ran_of (if b then step.ends source.depth_end w else run.main_run setup fuel (Some f) w))
            (if b then record { outcome = cw.depth_end; world = c_world p g w }
            else crun.ran_of (crun.count_of (lowered p)) (result_of f.result)
            (crun.does_stmts c_setup (crun.less c_setup fuel) main.first (body_of (list_code p f (first_temps p f) f.body)) crun.first_frame (c_world p g w)))
        by true = inr (record { outcome = refl; text = refl; fuel = refl })
        by false =
            step_ran p f (first_temps p f) fuel (crun.count_of (lowered p)) (result_of f.result) crun.first_frame _ _
            (lists_are_same p kinded_p types numbers_right heap depth c_setup (run.less setup fuel) (crun.less c_setup fuel) fuel (parts fuel (levels fuel)) (levels fuel) (less_named p kinded_p types heap depth fuel)
            f f.body (record { number = p.main; function = main_is; has_body = bodies.main_body }) (record { jumps = false; returns = true }) (first_ids p f) false
            (first_temps p f) fuel (run.first_frame 1) w crun.first_frame g main.first (bodies.bodies p.main f main_is bodies.main_body) (up_self (first_temps p f)) (omega arith) begins
            (record { known = first_known p f; names = record { at = λ v k t args i ty a e. absurd (none-some a e) } }))
