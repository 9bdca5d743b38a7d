-- Where a statement without blocks comes to, from what it comes to in the tables.
use Rattle.std.proofs.Common.{◌≡◌, inl, inr, ◌≤◌, List, Option, Result, Ok, refl, sym, ap, ◌∙◌, subst, arith}
use Rattle.std.specs.Vec.{vec_capacity}
use Rattle.vlt_ops.specs.declared.TrapKind.{TrapKind}
use Rattle.vlt_core.specs.Core.{Simple, Form, simple, Func, Program}
use Rattle.vlt_core.specs.View.{func_of, program_of}
use Rattle.vlt_heap.specs.declared.heap.Heap.{Heap}
use Rattle.vlt_heap.specs.Shown.{IsSound, IsSameSize, heap_of}
use Rattle.vlt_meaning.specs.World.{World, Frame, trap, fault, done, fuel_end, heap_end, depth_end, input_end, answers_end, bad_answer}
use Rattle.vlt_meaning.specs.Step.{Step, goes, jumps, leaves, ends}
use Rattle.vlt_meaning.specs.Run.{does_simple}
use Rattle.vlt_meaning_laws.specs.Machine.Machine as m
use Rattle.vlt_meaning_laws.specs.Machine.Machine.{at}
use Rattle.vlt_meaning_laws.specs.Machine.Bounds.{IsAt}
use Rattle.vlt_meaning_laws.proofs.OfMachine.Depths.{simple_at}
use Rattle.vlt_acts.specs.declared.values.values.Values.{Values}
use Rattle.vlt_acts.specs.Acts.Acts.{Shows, DoesIt, DoesIn, IsSameFrame}
use Rattle.vlt_acts.specs.Acts.Acts as acts
use Rattle.vlt_acts.specs.declared.objects.halt.Halt.{Halt}
use Rattle.vlt_acts.specs.Objects.Cases.{DoesFor}
use Rattle.vlt_acts.specs.Objects.Made.{Comes, ComesTo}
use Rattle.vlt_steps.specs.declared.stop.Stop.{Stop}
use Rattle.vlt_acts.specs.declared.hosts.host.Host.{Host}
use Rattle.vlt_acts.specs.Hosts.Hosts.{ShowsHost, DoesOut}
use Rattle.vlt_steps.specs.Writing.{Outside}
use Rattle.vlt_acts.specs.Hosts.Hosts as hosts_spec
use Rattle.vlt_acts.proofs.OfHosts.Writing.{silent}
use Rattle.vlt_interp.specs.declared.tasks.task.Rules.{Rules}
use Rattle.vlt_interp.specs.declared.tasks.task.Run.{Run}
use Rattle.vlt_interp.specs.Tasks.Halting.{stop_of_trap, full, stop_of_result}
use Rattle.vlt_interp.specs.Tasks.Shown.{setup_of, tasks_left, Runs, ShowsConf}
use Rattle.vlt_interp.specs.Tasks.Moves.{CameTo, doing, Keeps}
use Rattle.vlt_interp.specs.Tasks.Moves as moves
use Rattle.vlt_interp.proofs.Likeness.{like_simple}
use Rattle.vlt_interp.proofs.OfTasks.Staying.{IsSameRun, going, seen_in, seen_as}
use Rattle.vlt_interp.proofs.OfTasks.Coming.{went, wrong_came, spoken_came}
use Rattle.vlt_interp.proofs.OfTasks.Inside.{IsInside}
use Rattle.vlt_interp.proofs.OfStatements.Outside.{IsSilent, simple_inside}

-- ---- the calls of the tables, in this function of the program

pub does_here : (p : Program) (f : Func) (old : Heap) (before : Values) (new : Heap) (after : Values) (r : Result (Unit {0}) TrapKind) (s : Simple) → DoesIt old before new after r s → DoesFor p f old before new after r s
does_here p f old before new after r s h = λ c w n d is own same. h c w n d same

pub does_in : (p : Program) (f : Func) (heap : Heap) (before after : Values) (s : Simple) → DoesIn f before after s → DoesFor p f heap before heap after (Ok tt) s
does_in p f heap before after s h = λ c w n d is own same. h heap c w n d own same

-- ---- tables that changed in a run

pub record HasChanged (old new : Run) : Type 0 where
  pub same : IsSameRun old new
  pub fuel : new.fuel ≡ old.fuel
  pub sound : IsSound new.heap
  pub size : IsSameSize old.heap new.heap
  pub line : vec_capacity old.host.line ≤ vec_capacity new.host.line

changed_keeps : (old new : Run) → HasChanged old new → Keeps old new
changed_keeps old new h = record {
  sound = h.sound;
  size = h.size;
  width = h.same.frame.width;
  values = h.same.frame.room;
  tasks = let e : vec_capacity new.tasks ≡ vec_capacity old.tasks = ap (λ t. vec_capacity t) h.same.tasks in omega (arith, e);
  line = h.line;
}

module _ (old new : Run) (f : Func) (ts : List m.Task) (frame : Frame) (w : World) (b : Outside) (q : ShowsConf old (at f ts (goes frame w))) (h : HasChanged old new) (host : new.host ≡ old.host) where
  runs : Runs q.items old f frame w
  runs = (going q.items old f old.at frame w q.step).runs

  hosts : (v : World) → (i : IsInside w (goes frame v)) → ShowsHost new.host v
  hosts v i = subst (λ k. ShowsHost k v) (sym host) (record {
    input = i.same.input ∙ runs.hosts.input;
    answers = i.same.answers ∙ runs.hosts.answers;
    taken = i.same.taken ∙ runs.hosts.taken;
  })

  spent : (v : World) → IsInside w (goes frame v) → v.fuel ≡ new.fuel
  spent v i = i.same.fuel ∙ runs.fuel ∙ sym h.fuel

  gone_on : (next : Frame) (v : World) → next.depth ≡ frame.depth → IsInside w (goes next v) → Shows q.items new.heap new.values next v.objects → moves.GoneOn w b b new (at f ts (goes next v)) v
  gone_on next v d i shows = went old new f ts frame w b b q h.same next v (record { tables = shows; depth = d; hosts = hosts v (record { same = i.same }); fuel = spent v (record { same = i.same }) }) (silent w v b i.same.events)

  pub done_came : (r : Result (Unit {0}) TrapKind) (a : Step) → IsAt frame.depth a → IsInside w a → acts.Does q.items new.heap new.values r a → CameTo w b b (stop_of_trap r) new (at f ts a) a
  done_came r (goes next v) d i c = subst (λ x. CameTo w b b (stop_of_trap x) new (at f ts (goes next v)) (goes next v)) (sym c.is) (gone_on next v d i c.shows)
  done_came r (ends (trap t) v) d i c =
      subst (λ x. CameTo w b b (stop_of_trap x) new (at f ts (ends (trap t) v)) (ends (trap t) v)) (sym c) (inr (inl (record { outcome = refl; fuel = spent v (record { same = i.same }); wrote = silent w v b i.same.events })))
  done_came r (ends done v) d i c = wrong_came w b b (stop_of_trap r) new _ done v c
  done_came r (ends fuel_end v) d i c = wrong_came w b b (stop_of_trap r) new _ fuel_end v c
  done_came r (ends heap_end v) d i c = wrong_came w b b (stop_of_trap r) new _ heap_end v c
  done_came r (ends depth_end v) d i c = wrong_came w b b (stop_of_trap r) new _ depth_end v c
  done_came r (ends input_end v) d i c = wrong_came w b b (stop_of_trap r) new _ input_end v c
  done_came r (ends answers_end v) d i c = wrong_came w b b (stop_of_trap r) new _ answers_end v c
  done_came r (ends (bad_answer n) v) d i c = wrong_came w b b (stop_of_trap r) new _ (bad_answer n) v c
  done_came r (ends (fault s n) v) d i c = wrong_came w b b (stop_of_trap r) new _ (fault s n) v c
  done_came r (jumps k next v) d i c = absurd c
  done_came r (leaves k kept v) d i c = absurd c

  pub made_came : (r : Result (Unit {0}) Halt) (a : Step) → IsAt frame.depth a → IsInside w a → Comes q.items new.heap new.values r a → CameTo w b b (full r) new (at f ts a) a
  made_came r (goes next v) d i c = subst (λ x. CameTo w b b (full x) new (at f ts (goes next v)) (goes next v)) (sym c.is) (gone_on next v d i c.shows)
  made_came r (ends (trap t) v) d i c =
      subst (λ x. CameTo w b b (full x) new (at f ts (ends (trap t) v)) (ends (trap t) v)) (sym c) (inr (inl (record { outcome = refl; fuel = spent v (record { same = i.same }); wrote = silent w v b i.same.events })))
  made_came r (ends heap_end v) d i c =
      subst (λ x. CameTo w b b (full x) new (at f ts (ends heap_end v)) (ends heap_end v)) (sym c) (inr (inl (record { outcome = refl; fuel = spent v (record { same = i.same }); wrote = silent w v b i.same.events })))
  made_came r (ends done v) d i c = wrong_came w b b (full r) new _ done v c
  made_came r (ends fuel_end v) d i c = wrong_came w b b (full r) new _ fuel_end v c
  made_came r (ends depth_end v) d i c = wrong_came w b b (full r) new _ depth_end v c
  made_came r (ends input_end v) d i c = wrong_came w b b (full r) new _ input_end v c
  made_came r (ends answers_end v) d i c = wrong_came w b b (full r) new _ answers_end v c
  made_came r (ends (bad_answer n) v) d i c = wrong_came w b b (full r) new _ (bad_answer n) v c
  made_came r (ends (fault s n) v) d i c = wrong_came w b b (full r) new _ (fault s n) v c
  made_came r (jumps k next v) d i c = absurd c
  made_came r (leaves k kept v) d i c = absurd c

-- ---- whole statements

pub same_frame : (v : Values) → IsSameFrame v v
same_frame v = record { below = λ k l. refl; long = refl; room = omega arith; base = refl; vars = refl; width = refl }

pub line_same : (a b : Host) → b.line ≡ a.line → vec_capacity a.line ≤ vec_capacity b.line
line_same a b e = let k : vec_capacity b.line ≡ vec_capacity a.line = ap (λ v. vec_capacity v) e in omega (arith, k)

-- of the form x, which is the statement s
module _ (rules : Rules) (old new : Run) (x : Form) (s : Simple) (is : x ≡ simple s) (h : HasChanged old new) where
  -- one that may trap
  pub trap_does : IsSilent s → new.host ≡ old.host → (r : Result (Unit {0}) TrapKind) → DoesFor (program_of rules.program.now) (func_of old.func.now) old.heap old.values new.heap new.values r s
      → (b : Outside) (result : Option Stop) → result ≡ stop_of_trap r → moves.DoesFor (doing x) rules old new b b result
  trap_does quiet host r does b result equal = subst (λ y. moves.DoesFor (doing y) rules old new b b result) (sym is) (subst (moves.DoesFor (doing (simple s)) rules old new b b) (sym equal) (record {
    keeps = changed_keeps old new h;
    comes = λ f ts frame w q.
        let a = does_simple (setup_of rules (heap_of old.heap)) f s frame w in
        done_came old new f ts frame w b q h host r a
        (simple_at frame.depth (setup_of rules (heap_of old.heap)) f s frame w refl)
        (simple_inside (setup_of rules (heap_of old.heap)) f s frame w quiet)
        (subst (acts.Does q.items new.heap new.values r) (like_simple (setup_of rules (heap_of old.heap)) (func_of old.func.now) f s frame w q.func)
        (does (seen_as (program_of rules.program.now) old (tasks_left old) f ts frame w q (func_of old.func.now)) w (heap_of old.heap) rules.depth refl refl refl));
  }))

  -- one that makes an object
  pub make_does : IsSilent s → new.host ≡ old.host → (r : Result (Unit {0}) Halt) → ComesTo (func_of old.func.now) old.heap old.values new.heap new.values r s
      → (b : Outside) (result : Option Stop) → result ≡ full r → moves.DoesFor (doing x) rules old new b b result
  make_does quiet host r does b result equal = subst (λ y. moves.DoesFor (doing y) rules old new b b result) (sym is) (subst (moves.DoesFor (doing (simple s)) rules old new b b) (sym equal) (record {
    keeps = changed_keeps old new h;
    comes = λ f ts frame w q.
        let a = does_simple (setup_of rules (heap_of old.heap)) f s frame w in
        made_came old new f ts frame w b q h host r a
        (simple_at frame.depth (setup_of rules (heap_of old.heap)) f s frame w refl)
        (simple_inside (setup_of rules (heap_of old.heap)) f s frame w quiet)
        (subst (Comes q.items new.heap new.values r) (like_simple (setup_of rules (heap_of old.heap)) (func_of old.func.now) f s frame w q.func)
        (does (seen_as (program_of rules.program.now) old (tasks_left old) f ts frame w q (func_of old.func.now)) w rules.depth refl refl));
  }))

  -- one that speaks with the host, and leaves the heap
  pub host_does : new.heap ≡ old.heap → (before after : Outside) (r : Result (Unit {0}) Stop) → DoesOut old.heap old.values new.values old.host new.host before after r s
      → (result : Option Stop) → result ≡ stop_of_result r → moves.DoesFor (doing x) rules old new before after result
  host_does heap before after r does result equal = subst (λ y. moves.DoesFor (doing y) rules old new before after result) (sym is) (subst (moves.DoesFor (doing (simple s)) rules old new before after) (sym equal) (record {
    keeps = changed_keeps old new h;
    comes = λ f ts frame w q.
        let a = does_simple (setup_of rules (heap_of old.heap)) f s frame w in
        let runs = (going q.items old f old.at frame w q.step).runs in
        spoken_came old new f ts frame w before after q h.same r a (runs.fuel ∙ sym h.fuel)
        (simple_at frame.depth (setup_of rules (heap_of old.heap)) f s frame w refl)
        (subst (λ k. hosts_spec.Comes q.items k new.values new.host before after r w a) (sym heap)
        (does (seen_in (program_of rules.program.now) old (tasks_left old) f ts frame w q) w (heap_of old.heap) rules.depth refl runs.hosts));
  }))
