-- All statements that runs come to are known.
use Rattle.std.proofs.Common.{◌≡◌, ℕ, zero, suc, true, false, if◌then◌else◌, List, [], ◌∷◌, Some, None, refl, sym, subst, slice_get}
use Rattle.vlt_core.specs.Core.{Form, simple, call, choose, loop, switch, focus, scope, return, jump, Stmts, next, Func, Program}
use Rattle.vlt_core.specs.Kinded.{IsKinded}
use Rattle.vlt_core.specs.Derives.{start_map, IsAccepted}
use Rattle.vlt_core.specs.KindedBodies.{first_ids, stmts_rows}
use Rattle.vlt_core_laws.specs.States.{HasStates}
use Rattle.vlt_meaning.specs.World.{World}
use Rattle.vlt_meaning.specs.Step.{Step}
use Rattle.vlt_meaning.specs.Run.{Setup, first_frame, start}
use Rattle.vlt_meaning_laws.specs.Machine.Machine.{list, Task, Conf, at, first_conf}
use Rattle.vlt_meaning_laws.specs.Machine.Reached.{IsReached}
use Rattle.vlt_sound_worlds.specs.Agrees.{Agrees}
use Rattle.vlt_sound_calls.specs.Meet.{HasFunctions}
use Rattle.vlt_core.specs.Instances.{IsOriginOf}
use Rattle.vlt_sound.proofs.Bounded.{none_bound}
use Rattle.vlt_sound_calls.specs.ReturnHeads.{HasHosts}
use Rattle.vlt_sound_calls.specs.Externals.{ExternalsAreSafe}
use Rattle.vlt_sound_calls.proofs.HostsLaws.{externals_are_safe}
use Rattle.vlt_sound_calls.proofs.HostResults.{answers_safe}
use Rattle.vlt_sound_statements.specs.Kinded.{BreakNone}
use Rattle.vlt_sound.specs.Sizes.{HasSizes}
use Rattle.vlt_sound.specs.Narrow.{HasNarrowHeads}
use Rattle.vlt_sound.proofs.Facts.{body_kinded}
use Rattle.vlt_sound.proofs.Functions.{has_functions}
use Rattle.vlt_sound.proofs.HeadsLaws.{has_hosts}
use Rattle.vlt_sound.proofs.Start.{main_context, main_agrees, main_entered, main_scoped}
use Rattle.vlt_sound.proofs.Whole.{is_main}
use Rattle.vlt_run_laws.proofs.Instanced.{typed_of, head_of, keys_of, cases_of}
use Rattle.vlt_run_laws.specs.Known.{IsKnown, KnowsItsSteps}
use Rattle.vlt_run_laws.proofs.ReachedNaming.{no_head}
use Rattle.vlt_run_laws.proofs.Moves.{Good, Tells, GoodForm, AllLists, lists_now, lists_all, tells_all}
use Rattle.vlt_run_laws.proofs.Blocks.{scope_good, choose_good, loop_good}
use Rattle.vlt_run_laws.proofs.Simples.{simple_good, jump_good, return_good}
use Rattle.vlt_run_laws.proofs.Enters.{call_good}
use Rattle.vlt_run_laws.proofs.Focuses.{focus_good}
use Rattle.vlt_run_laws.proofs.Switches.{switch_good}

-- with nothing left to do, no statement comes next
pub none_left : (r : Setup) (n : ℕ) (f : Func) (a : Step) → Good r n (at f [] a)
none_left r zero f a = tt
none_left r (suc n) f a = (λ form frame w e. absurd (clash e.are), none_left r n f a)
  where
    clash : {place : ℕ} {form : Form} {rest : Stmts} {us : List Task} → ◌≡◌ {A = List Task} [] (list (next place form rest) ∷ us) → ⊥
    clash e = cc

module _ (r : Setup) (kinded : IsKinded r.program) (accepted : IsAccepted r.program) (sizes : HasSizes r.program)
    (filled : HasStates r.program) (narrow : HasNarrowHeads r.program) where
  functions : HasFunctions r.program
  functions = has_functions r.program kinded sizes

  externals : ExternalsAreSafe r
  externals = externals_are_safe r (answers_safe r)

  hosts : HasHosts r.program
  hosts = has_hosts r.program kinded narrow

  pub forms : (n : ℕ) → AllLists r n → (f : Func) (form : Form) → GoodForm r n f form
  forms n all f (simple s) frame w x ts follows =
      simple_good r n f (typed_of functions x.position f x.function) (keys_of r.program x.position f kinded x.function)
      (cases_of r.program x.position f kinded filled x.function) s frame w x ts follows
  forms n all f (call i target keys args) frame w x ts follows =
      call_good r kinded accepted functions hosts externals n all f i target keys args frame w x ts follows
  forms n all f (choose e a b) frame w x ts follows = choose_good r (typed_of functions) n all f e a b frame w x ts follows
  forms n all f (loop e b) frame w x ts follows = loop_good r (typed_of functions) n all f e b frame w x ts follows
  forms n all f (switch v arms end) frame w x ts follows =
      switch_good r n all f (typed_of functions x.position f x.function) (keys_of r.program x.position f kinded x.function)
      (cases_of r.program x.position f kinded filled x.function) v arms end frame w x ts follows
  forms n all f (focus y z b) frame w x ts follows =
      focus_good r n all f (typed_of functions x.position f x.function) (keys_of r.program x.position f kinded x.function) y z b frame w x ts follows
  forms n all f (scope b) frame w x ts follows = scope_good r n all f b frame w x ts follows
  forms n all f (return value) frame w x ts follows =
      return_good r n f (typed_of functions x.position f x.function) (keys_of r.program x.position f kinded x.function)
      (head_of functions x.position f x.function) value frame w x ts follows
  forms n all f (jump c) frame w x ts follows =
      jump_good r n f (typed_of functions x.position f x.function) (keys_of r.program x.position f kinded x.function) c frame w x ts follows

  first_good : (f : Func) → slice_get r.program.fns r.program.main ≡ Some f → f.external ≡ false → (w : World) → w.objects ≡ [] → (n : ℕ) →
      Good r n (first_conf f (first_frame 1) w)
  first_good f known internal w empty n =
      let m = is_main r.program kinded f known in
      let body = accepted r.program.main f None known internal (subst (λ q. IsOriginOf r.program f q None) (sym (none_bound f.clause m.before)) tt) in
      lists_now r n (lists_all r kinded forms n) f f.body (first_frame 1) w
      (record {
        position = r.program.main;
        function = record { declared = f; origin = None; at = known; is = refl };
        site = record {
          context = main_context f;
          around = record { jumps = false; returns = true };
          left = [];
          breaks = body.0;
          turns = body.1;
          outer = first_ids r.program f;
        };
        ids = first_ids r.program f;
        map = start_map r.program f;
        following = body.2.1.0;
        ended = false;
        here = record { entered = main_entered r.program f m; scoped = main_scoped r.program f m; outer = λ v e. e };
        kinded = subst (λ b. BreakNone (if b then [] else stmts_rows r.program f (record { jumps = false; returns = true }) (first_ids r.program f) false f.body)) internal (body_kinded r.program r.program.main f kinded known);
        leads = body.2.1.1;
        agrees = subst (Agrees r.program f (main_context f) (start_map r.program f) (first_ids r.program f) [] (first_frame 1)) (sym empty) (main_agrees r.program f m);
        head = no_head f (main_context f) m.params;
      }) [] (λ a safe. none_left r n f a)

  pub known_at : (c : Conf) → IsReached r c → Tells r c
  known_at c q =
      let m = is_main r.program kinded q.main q.is_main in
      subst (Tells r) q.is
      (tells_all r (first_conf q.main (first_frame 1) (start q.fuel q.input q.answers))
      (λ n. first_good q.main q.is_main m.body (start q.fuel q.input q.answers) refl n) q.count)

pub knows_its_steps : (p : Program) → IsKinded p → IsAccepted p → HasSizes p → HasStates p → HasNarrowHeads p →
    KnowsItsSteps p
knows_its_steps p kinded accepted sizes filled narrow r c form frame w same reached before =
    subst (λ q. IsKnown q c.func form frame w) same
    (known_at r (subst IsKinded (sym same) kinded) (subst IsAccepted (sym same) accepted) (subst HasSizes (sym same) sizes)
    (subst HasStates (sym same) filled) (subst HasNarrowHeads (sym same) narrow) c reached form frame w before)
