-- Where a call of an external comes to.
use Rattle.std.proofs.Common.{◌≡◌, ◌⊎◌, ⊎_elim, inl, inr, ◌<◌, ◌≤◌, ◌+◌, ◌*◌, ℕ, true, List, length, Option, None, Some, Result, Ok, Err, refl, sym, ap, ◌∙◌, subst, arith, slice_get, reverse}
use Rattle.std.specs.Prelude.{IfSome, IfOk}
use Rattle.std.specs.Vec.{vec_capacity}
use Rattle.std.specs.Option.{option_map}
use Rattle.vlt_base.specs.declared.ids.VarId.{VarId}
use Rattle.vlt_core.specs.Core.{Func, Program}
use Rattle.vlt_core.specs.View.{func_of, program_of}
use Rattle.vlt_heap.specs.Shown.{IsSound, IsSameSize, heap_of}
use Rattle.vlt_meaning.specs.World.{Value, World, Frame}
use Rattle.vlt_meaning.specs.Step.{Step, goes, jumps, leaves, ends}
use Rattle.vlt_meaning.specs.Calls.{called_instance}
use Rattle.vlt_meaning.specs.Externals.{call_external}
use Rattle.vlt_meaning_laws.specs.Machine.Machine as m
use Rattle.vlt_meaning_laws.specs.Machine.Machine.{at}
use Rattle.vlt_meaning_laws.specs.Machine.Bounds.{IsAt}
use Rattle.vlt_meaning_laws.proofs.OfMachine.Depths.{external_at}
use Rattle.vlt_acts.specs.Values.Shown.{IsTable, Seen}
use Rattle.vlt_acts.specs.Frames.Frames.{IsLike, IsRunning}
use Rattle.vlt_acts.proofs.OfFrames.Like.{moved}
use Rattle.vlt_acts.proofs.OfFrames.Standing.{running_names}
use Rattle.vlt_steps.specs.declared.stop.Stop.{Stop}
use Rattle.vlt_acts.specs.Hosts.Hosts.{Went, Comes}
use Rattle.vlt_steps.specs.Writing.{Outside}
use Rattle.vlt_externals.specs.HostCalls.Heeded.{IsSameBelow}
use Rattle.vlt_externals.specs.HostCalls.Called.{IsCall, CanCall as CanCallOut, Calls}
use Rattle.vlt_interp.specs.declared.tasks.task.Rules.{Rules}
use Rattle.vlt_interp.specs.declared.tasks.task.Run.{Run}
use Rattle.vlt_interp.specs.Tasks.Own.{IsVar, IsKey}
use Rattle.vlt_interp.specs.Tasks.Halting.{stop_of_result}
use Rattle.vlt_interp.specs.Tasks.Shown.{tasks_left, ShowsTasks}
use Rattle.vlt_interp.specs.Tasks.Moves.{CameTo}
use Rattle.vlt_interp.proofs.OfTasks.Stacks.{tasks_kept}
use Rattle.vlt_interp.proofs.OfTasks.Staying.{step_goes}
use Rattle.vlt_interp.specs.Calls.Called.{KnowsExternal, ShowsCall, calling_out, CanGoIn, DoesIn}

-- ---- what the crate of externals asks

abbrev pub seen_call : (p : Program) (r : Run) (f : Func) (ts : List m.Task) (g : Func) (args : List Value) (frame : Frame) (w : World) → ShowsCall r f ts g args frame w → Seen r.heap r.values
seen_call p r f ts g args frame w q = record {
  program = p;
  func = f;
  frame = frame;
  objects = w.objects;
  items = q.items;
  holds = q.holds;
  shown = q.args_shown.objects;
  fits = q.args_shown.frame_shown;
}

module _ (p : Program) (r : Run) (f : Func) (ts : List m.Task) (g : Func) (keys : List ℕ) (args : List Value) (frame : Frame) (w : World) (q : ShowsCall r f ts g args frame w) where
  pub is_call : ((i k : ℕ) → slice_get keys i ≡ Some k → IsKey (func_of r.func.now) k) → KnowsExternal g keys args frame → IsCall p g keys r.heap r.values r.host (seen_call p r f ts g args frame w q) w args
  is_call own known = record {
    program = refl;
    objects = refl;
    hosts = q.args_shown.hosts;
    running = q.args_shown.running;
    names = q.args_shown.names;
    own = λ i k at. moved (λ h. k < length h.keys) (func_of r.func.now) f q.func (own i k at);
    args_at = record { count_is = q.args_shown.count; single = known.single; at = q.args_shown.values_at };
    known = known.keys_known;
  }

  pub call_table : IsTable r.values
  call_table =
      let h = q.args_shown.running in
      let e : r.values.vars * r.values.width ≡ length f.vars * r.values.width = ap (λ n. n * r.values.width) h.vars in
      let l = h.long in
      omega (arith, l, e)

  pub call_target : (target : Option VarId) → IfSome (option_map (λ v. v.0) target) (IsVar (func_of r.func.now)) → IfSome target (λ v. v.0 < r.values.vars)
  call_target None own = tt
  call_target (Some v) own = subst (λ n. v.0 < n) (sym q.args_shown.running.vars) (moved (λ h. v.0 < length h.vars) (func_of r.func.now) f q.func own)

module _ (rules : Rules) (r : Run) (g : Func) (target : Option VarId) (keys : List ℕ) (external : g.external ≡ true) (can : CanGoIn (calling_out (option_map (λ v. v.0) target) keys g) g (option_map (λ v. v.0) target) keys rules r) where
  pub can_call_out : CanCallOut (program_of rules.program.now) g target keys r.heap r.values r.host
  can_call_out =
      let d = can.right in
      record {
        seen = seen_call (program_of rules.program.now) r d.func d.tasks g d.args d.frame d.world d.shown;
        world = d.world;
        args = d.args;
        call = is_call (program_of rules.program.now) r d.func d.tasks g keys d.args d.frame d.world d.shown can.ready.keys_own (d.known external);
        right = d.right;
      }

-- ---- what it comes to

-- nothing but the tables, the heap and the host changed
pub record IsSameBeside (old new : Run) : Type 0 where
  pub func : new.func ≡ old.func
  pub tasks : new.tasks ≡ old.tasks
  pub going : new.at ≡ old.at
  pub depth : new.depth ≡ old.depth
  pub fuel : new.fuel ≡ old.fuel

module _ (old new : Run) (f : Func) (ts : List m.Task) (g : Func) (args : List Value) (frame : Frame) (w : World) (before after : Outside) (q : ShowsCall old f ts g args frame w) (beside : IsSameBeside old new) (below : IsSameBelow old.values new.values) where
  running_after : length new.values.slots.items + g.params * old.values.width ≡ length old.values.slots.items → IsRunning new.values f 0
  running_after long = record {
    vars = below.vars ∙ q.args_shown.running.vars;
    long = rw (below.width, below.base) (let l = q.args_shown.running.long in omega (arith, l, long));
  }

  went_out : (next : Frame) (v : World) → length new.values.slots.items + g.params * old.values.width ≡ length old.values.slots.items → next.depth ≡ frame.depth → Went q.items new.heap new.values new.host before after w next v
      → CameTo w before after None new (at f ts (goes next v)) (goes next v)
  went_out next v long d h = record {
    shown = record {
      items = h.shows.items;
      holds = h.shows.holds;
      func = subst (λ k. IsLike (func_of k.now) f) (sym beside.func) q.func;
      shown = subst (λ k. ShowsTasks h.shows.items new.values new.values.base new.depth (reverse k.items) ts) (sym beside.tasks)
          (subst (λ n. ShowsTasks h.shows.items new.values new.values.base n (tasks_left old) ts) (sym beside.depth)
          (subst (λ b. ShowsTasks h.shows.items new.values b old.depth (tasks_left old) ts) (sym below.base)
          (tasks_kept q.items h.shows.items old.values new.values old.values.base old.depth (tasks_left old) ts (record { keep = h.shows.kept; width = below.width; same = below.below }) q.tasks)));
      step = step_goes h.shows.items new f new.at next v (beside.going ∙ q.going) (record {
        objects = h.shows.objects_shown;
        frame_shown = h.shows.frame_shown;
        names = running_names h.shows.items new.values f next (running_after long) h.shows.frame_shown;
        running = running_after long;
        depth = d ∙ q.args_shown.depth ∙ sym beside.depth;
        hosts = h.hosts;
        fuel = h.fuel ∙ q.args_shown.fuel ∙ sym beside.fuel;
      });
    };
    wrote = h.wrote;
  }

  pub out_came : (r : Result (Unit {0}) Stop) → IfOk r (λ u. length new.values.slots.items + g.params * old.values.width ≡ length old.values.slots.items) → (a : Step) → IsAt frame.depth a → Comes q.items new.heap new.values new.host before after r w a
      → CameTo w before after (stop_of_result r) new (at f ts a) a
  out_came (Ok u) long (goes next v) d c = went_out next v long d c
  out_came (Ok u) long (ends o v) d c = c
  out_came (Ok u) long (jumps b next v) d c = absurd c
  out_came (Ok u) long (leaves b kept v) d c = absurd c
  out_came (Err h) long (goes next v) d c = c
  out_came (Err h) long (ends o v) d c =
      ⊎_elim (λ e. inl e) (λ c. inr (⊎_elim (λ e. inl (record { outcome = e.outcome; fuel = e.fuel ∙ q.args_shown.fuel ∙ sym beside.fuel; wrote = e.wrote })) (λ k. inr k) c)) c
  out_came (Err h) long (jumps b next v) d c = absurd c
  out_came (Err h) long (leaves b kept v) d c = absurd c

module _ (rules : Rules) (old new : Run) (g : Func) (target : Option VarId) (keys : List ℕ) (external : g.external ≡ true) (can : CanGoIn (calling_out (option_map (λ v. v.0) target) keys g) g (option_map (λ v. v.0) target) keys rules old)
    (before after : Outside) (beside : IsSameBeside old new) (below : IsSameBelow old.values new.values) where
  pub called_out : (r : Result (Unit {0}) Stop) (stop : Option Stop) → stop ≡ stop_of_result r → IsSound new.heap → IsSameSize old.heap new.heap → vec_capacity old.host.line ≤ vec_capacity new.host.line
      → IfOk r (λ u. length new.values.slots.items + g.params * old.values.width ≡ length old.values.slots.items) → Calls (program_of rules.program.now) g target keys old.heap new.heap old.values new.values old.host new.host before after r
      → DoesIn (calling_out (option_map (λ v. v.0) target) keys g) g keys rules old new before after stop
  called_out r stop is sound size line long calls = record {
    keeps = record { sound = sound; size = size; width = below.width; values = below.room; tasks = let e : vec_capacity new.tasks ≡ vec_capacity old.tasks = ap (λ l. vec_capacity l) beside.tasks in omega (arith, e); line = line };
    comes = λ f ts args frame w q known.
        let p = program_of rules.program.now in
        let t = option_map (λ v. v.0) target in
        let i = called_instance p g keys frame w.objects in
        let a = call_external (heap_of old.heap) p f t keys i args frame w in
        subst (λ z. CameTo w before after z new (at f ts a) a) (sym is)
        (out_came old new f ts g args frame w before after q beside below r long a (external_at frame.depth (heap_of old.heap) p f t keys i args frame w refl)
        (calls (seen_call p old f ts g args frame w q) w args (is_call p old f ts g keys args frame w q can.ready.keys_own (known external))));
  }
