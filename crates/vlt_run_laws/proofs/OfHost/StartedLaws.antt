-- All statements are known that the body of a function comes to which a host calls.
use Rattle.std.proofs.Common.{◌≡◌, ℕ, Option, true, false, if◌then◌else◌, List, [], map, Some, None, refl, sym, subst, slice_get}
use Rattle.vlt_core.specs.Core.{Form, Func, Program}
use Rattle.vlt_core.specs.Kinded.{IsKinded}
use Rattle.vlt_core.specs.Instances.{bound_in, instance, IsOrigin}
use Rattle.vlt_core.specs.Derives.{start_map, IsAccepted}
use Rattle.vlt_core.specs.KindedBodies.{first_ids, stmts_rows, body_rows}
use Rattle.vlt_core_laws.specs.States.{HasStates}
use Rattle.vlt_meaning.specs.World.{World, Frame}
use Rattle.vlt_meaning.specs.Calls.{callee_frame}
use Rattle.vlt_meaning.specs.Run.{Setup}
use Rattle.vlt_meaning_laws.specs.Machine.Machine.{moves}
use Rattle.vlt_meaning_laws.specs.Machine.Reached.{IsBefore}
use Rattle.vlt_sound_worlds.specs.Typed.{IsTyped}
use Rattle.vlt_sound_calls.specs.Heads.{HasHead}
use Rattle.vlt_sound_calls.specs.Callee.{callee_context}
use Rattle.vlt_core_laws.proofs.Instanced.{body_rows_same}
use Rattle.vlt_sound_calls.proofs.Instanced.{typed_instance, head_instance}
use Rattle.vlt_sound_calls.proofs.EnteringLaws.{callee_agrees, callee_entered, callee_scoped}
use Rattle.vlt_sound_statements.specs.Kinded.{BreakNone}
use Rattle.vlt_sound.specs.Sizes.{HasSizes}
use Rattle.vlt_sound.specs.Narrow.{HasNarrowHeads}
use Rattle.vlt_sound.proofs.Bounded.{has_bound}
use Rattle.vlt_sound.proofs.Facts.{is_typed, has_head, body_kinded}
use Rattle.vlt_host_meaning.specs.Calls.{Argument, value_of_argument}
use Rattle.vlt_host_meaning.specs.HostFrame.{host_frame}
use Rattle.vlt_host_meaning.specs.Permitted.{host_keys, is_permitted}
use Rattle.vlt_host_meaning.specs.OneCall.{world_inside, spent}
use Rattle.vlt_host_laws.proofs.HostAsCaller.{host_func, host_ids, host_map, host_context}
use Rattle.vlt_host_laws.proofs.HostAgrees.{HostAgrees, host_entered, host_scoped}
use Rattle.vlt_host_laws.proofs.Arguments.{IsAsked, asked}
use Rattle.vlt_host_laws.proofs.CallFromHost.{is_call, passes, values_long, before_call, host_is_typed}
use Rattle.vlt_host_laws.proofs.OfInstances.{origin, allowed, plain, asked_of}
use Rattle.vlt_host_laws.proofs.PastCallsLaws.{calls_agree}
use Rattle.vlt_run_laws.specs.Known.{IsKnown}
use Rattle.vlt_host.specs.Machine.Started.{begun, begun_by_host, KnowsStartedCalls}
use Rattle.vlt_run_laws.specs.Host.Started.{KnowsStartedSteps}
use Rattle.vlt_run_laws.proofs.ReachedNaming.{callee_head, no_head}
use Rattle.vlt_run_laws.proofs.Moves.{Good, lists_now, lists_all, tells_all}
use Rattle.vlt_run_laws.proofs.CallsWhole.{knows_call}
use Rattle.vlt_run_laws.proofs.ReachedWhole.{none_left, forms}

module _ (r : Setup) (kinded : IsKinded r.program) (accepted : IsAccepted r.program) (sizes : HasSizes r.program)
    (filled : HasStates r.program) (narrow : HasNarrowHeads r.program) where
  -- of an instance whose clause has no bound entry
  module _ (i : ℕ) (declared : Func) (o : Option ℕ) (at : slice_get r.program.fns i ≡ Some declared) (origin : IsOrigin r.program declared o)
      (w : World) (a : HostAgrees r.program w.objects) (args : List Argument) (q : IsAsked r.program i (instance r.program declared o) args w.objects)
      (plain : bound_in (instance r.program declared o).clause ≡ None) where
    abbrev g : Func
    g = instance r.program declared o

    typed : IsTyped r.program g
    typed = typed_instance r.program declared o (is_typed r.program i declared kinded sizes at)

    head : HasHead r.program g
    head = head_instance r.program declared o (has_head r.program i declared kinded at)

    rows : BreakNone (body_rows r.program g)
    rows = subst BreakNone (sym (body_rows_same r.program declared o)) (body_kinded r.program i declared kinded at)

    begun_good : (n : ℕ) → Good r n (begun g args w)
    begun_good n =
        let keys = host_keys g args w.objects in
        let values = map value_of_argument args in
        let agrees = before_call head typed a args q in
        let call = is_call head typed a args q in
        let pass = passes head typed a args q plain in
        let host_typed = host_is_typed head typed a args q in
        let entered = host_entered a in
        let scoped = host_scoped a in
        let long = values_long head typed a args q in
        let body = accepted i declared o at q.body origin in
        lists_now r n (lists_all r kinded (forms r kinded accepted sizes filled narrow) n) g g.body
        (callee_frame g keys values (host_frame w.objects)) (world_inside g args (spent w))
        (record {
          position = i;
          function = record { declared = declared; origin = o; at = at; is = refl };
          site = record {
            context =
                callee_context (host_func w.objects) (host_map w.objects) (host_ids w.objects) (host_frame w.objects) (host_context w.objects) g keys;
            around = record { jumps = false; returns = true };
            left = [];
            breaks = body.0;
            turns = body.1;
            outer = first_ids r.program g;
          };
          ids = first_ids r.program g;
          map = start_map r.program g;
          following = body.2.1.0;
          ended = false;
          here = record {
            entered = callee_entered g keys values agrees long call host_typed typed head entered scoped pass;
            scoped = callee_scoped g keys values agrees long call host_typed typed head entered scoped pass;
            outer = λ v e. e;
          };
          kinded = subst (λ b. BreakNone (if b then [] else stmts_rows r.program g (record { jumps = false; returns = true }) (first_ids r.program g) false g.body)) q.body rows;
          leads = body.2.1.1;
          agrees = callee_agrees g keys values agrees long call host_typed typed head entered scoped pass;
          head =
              callee_head r.program (host_func w.objects) agrees entered scoped
              (no_head (host_func w.objects) (host_context w.objects) refl) g keys call;
        }) [] (λ s safe. none_left r n g s)

  module _ (i : ℕ) (g : Func) (at : slice_get r.program.fns i ≡ Some g) (w : World) (a : HostAgrees r.program w.objects) (args : List Argument)
      (q : IsAsked r.program i g args w.objects) where
    pub known_there : (count : ℕ) (form : Form) (frame : Frame) (v : World) →
        IsBefore (moves r count (begun_by_host r.program g args w)) form frame v →
        IsKnown r.program (moves r count (begun_by_host r.program g args w)).func form frame v
    known_there count =
        let head = has_head r.program i g kinded at in
        let typed = is_typed r.program i g kinded sizes at in
        let bound = has_bound r.program i g kinded at in
        tells_all r (begun_by_host r.program g args w)
        (begun_good i g (origin head typed a args q bound) at (allowed head typed a args q bound) w a args (asked_of head typed a args q bound)
        (plain head typed a args q bound)) count

pub knows_started : (p : Program) → IsKinded p → IsAccepted p → HasSizes p → HasStates p → HasNarrowHeads p → KnowsStartedSteps p
knows_started p kinded accepted sizes filled narrow r w i f args same x at ok =
    subst (λ (q : Program). IsKinded q → IsAccepted q → HasSizes q → HasStates q → HasNarrowHeads q → slice_get q.fns i ≡ Some f → is_permitted q i f args w.objects ≡ true → (count : ℕ) (form : Form) (frame : Frame) (v : World) → IsBefore (moves r count (begun_by_host q f args w)) form frame v → IsKnown q (moves r count (begun_by_host q f args w)).func form frame v)
    same
    (λ k c s t n at ok.
    known_there r k c s t n i f at w (calls_agree r.program k c s t n r.heap r.depth w.objects x) args (asked r.program i f args w.objects ok))
    kinded accepted sizes filled narrow at ok

pub knows_started_calls : (p : Program) → IsKinded p → IsAccepted p → HasSizes p → HasStates p → HasNarrowHeads p → KnowsStartedCalls p
knows_started_calls p kinded accepted sizes filled narrow r w i f args same x at ok count form frame v before =
    knows_call p kinded sizes filled narrow (moves r count (begun_by_host p f args w)).func form frame v
    (knows_started p kinded accepted sizes filled narrow r w i f args same x at ok count form frame v before)
