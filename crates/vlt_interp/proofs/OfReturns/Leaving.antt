-- The caller of a function that was left goes on.
use Rattle.std.proofs.Common.{◌≡◌, ◌<◌, ◌≤◌, ◌-◌, ℕ, List, [], ◌∷◌, Option, None, refl, sym, ◌∙◌, subst, arith, slice_get}
use Rattle.std.specs.Vec.{vec_capacity}
use Rattle.vlt_core.specs.Core.{Func}
use Rattle.vlt_core.specs.View.{func_of}
use Rattle.vlt_heap.specs.Shown.{IsSound}
use Rattle.vlt_heap.specs.Items.{Items}
use Rattle.vlt_meaning.specs.World.{Value, World, Outcome}
use Rattle.vlt_meaning.specs.Step.{Step, goes, jumps, leaves, ends}
use Rattle.vlt_meaning.specs.Calls.{back_in}
use Rattle.vlt_meaning.specs.Run.{Setup}
use Rattle.vlt_meaning_laws.specs.Machine.Machine as m
use Rattle.vlt_meaning_laws.specs.Machine.Machine.{Caller, Conf, at, after_move}
use Rattle.vlt_meaning_laws.specs.Machine.Bounds.{IsAt}
use Rattle.vlt_meaning_laws.proofs.OfMachine.Depths.{back_at}
use Rattle.vlt_acts.specs.declared.values.values.Values.{Values}
use Rattle.vlt_acts.specs.Values.Shown.{IsTable}
use Rattle.vlt_acts.specs.declared.frames.waiting.Waiting.{Waiting}
use Rattle.vlt_acts.specs.Frames.Frames.{IsLike, IsRunning, IsBelow}
use Rattle.vlt_acts.specs.Frames.Left.{IsBack, Returns}
use Rattle.vlt_steps.specs.Writing.{Outside}
use Rattle.vlt_acts.proofs.OfFrames.Like.{running_like}
use Rattle.vlt_acts.proofs.OfHosts.Writing.{silent}
use Rattle.vlt_interp.specs.declared.tasks.task.At.{At}
use Rattle.vlt_interp.specs.declared.tasks.task.At.TheVariants.{Goes, Jumps, Leaves}
use Rattle.vlt_interp.specs.declared.tasks.task.Task.{Task}
use Rattle.vlt_interp.specs.declared.tasks.task.Task.TheVariants.{Back}
use Rattle.vlt_interp.specs.declared.tasks.task.Run.{Run}
use Rattle.vlt_interp.specs.Tasks.Shown.{tasks_left, ShowsTasks, WasLeft, ShowsStep, ShowsWith}
use Rattle.vlt_interp.specs.Tasks.Moves.{world_in, CameTo, IsRightTask, DoesTask}
use Rattle.vlt_interp.proofs.OfTasks.Stacks.{tasks_kept}
use Rattle.vlt_interp.proofs.OfTasks.Staying.{running_table}
use Rattle.vlt_interp.proofs.OfTasks.Inside.{IsInside}
use Rattle.vlt_interp.proofs.OfReturns.Silence.{back_inside}

-- wherever the step came to, the variables of the running frame stand in the table
shown_table : (items : Items) (r : Run) (f : Func) (x : At) (a : Step) → ShowsStep items r f x a → IsTable r.values
shown_table items r f Goes (goes frame w) h = running_table r f h.running
shown_table items r f Goes (jumps c frame w) h = absurd h
shown_table items r f Goes (leaves b kept w) h = absurd h
shown_table items r f Goes (ends o w) h = absurd h
shown_table items r f (Jumps k) (goes frame w) h = absurd h
shown_table items r f (Jumps k) (jumps c frame w) h = running_table r f h.runs.running
shown_table items r f (Jumps k) (leaves b kept w) h = absurd h
shown_table items r f (Jumps k) (ends o w) h = absurd h
shown_table items r f Leaves (goes frame w) h = absurd h
shown_table items r f Leaves (jumps c frame w) h = absurd h
shown_table items r f Leaves (leaves b kept w) h = h.table
shown_table items r f Leaves (ends o w) h = absurd h

-- the caller is the next task
module _ (r : Run) (w : Waiting) (left : List Task) (P : Conf → Type 0) (h : (f : Func) (k : Caller) (us : List m.Task) (a : Step) → ShowsWith (Back w ∷ left) r (at f (m.back k ∷ us) a) → P (at f (m.back k ∷ us) a)) where
  go : (f : Func) (ts : List m.Task) (a : Step) → ShowsWith (Back w ∷ left) r (at f ts a) → P (at f ts a)
  go f [] a q = absurd q.shown
  go f (m.list xs ∷ us) a q = absurd q.shown.0
  go f (m.closing bound ∷ us) a q = absurd q.shown.0
  go f (m.turn d body ∷ us) a q = absurd q.shown.0
  go f (m.unfocus g j o n ∷ us) a q = absurd q.shown.0
  go f (m.back k ∷ us) a q = h f k us a q

  pub by_back : (c : Conf) → ShowsWith (Back w ∷ left) r c → P c
  by_back c q = go c.func c.tasks c.step q

pub left_table : (r : Run) (w : Waiting) → IsRightTask (Back w) r → IsTable r.values
left_table r w h = shown_table h.shown.items r h.conf.func r.at h.conf.step h.shown.step

pub left_below : (r : Run) (w : Waiting) → IsRightTask (Back w) r → IsBelow w r.values.width r.values.base
left_below r w h = by_back r w (tasks_left r) (λ c. IsBelow w r.values.width r.values.base) (λ f k us a q. q.shown.0.waits.below) h.conf h.shown

pub some_depth : (r : Run) (w : Waiting) → IsRightTask (Back w) r → 1 ≤ r.depth
some_depth r w h = by_back r w (tasks_left r) (λ c. 1 ≤ r.depth) (λ f k us a q. let e = q.shown.0.depth in omega (arith, e)) h.conf h.shown

-- the caller runs again
module _ (old : Run) (w : Waiting) (values : Values) (sound : IsSound old.heap) (base : values.base ≡ w.base) (width : values.width ≡ old.values.width) (room : vec_capacity values.slots ≡ vec_capacity old.values.slots)
    (running : IsRunning values (func_of w.func.now) 0) (same : (k : ℕ) → k < w.base → slice_get values.slots.items k ≡ slice_get old.values.slots.items k) (returns : (g : Func) → IsLike (func_of old.func.now) g → Returns g w old.values values) where
  abbrev back_run : Run
  back_run = record old { values = values; func = w.func; depth = old.depth - 1; at = Goes }

  module _ (s : Setup) (b : Outside) (f : Func) (k : Caller) (us : List m.Task) where
    caller_is : (a : Step) (q : ShowsWith (Back w ∷ tasks_left old) old (at f (m.back k ∷ us) a)) → IsLike (func_of w.func.now) k.func
    caller_is a q = q.shown.0.waits.func

    back_came : (x : Option Value) (kept : List ℕ) (v : World) (q : ShowsWith (Back w ∷ tasks_left old) old (at f (m.back k ∷ us) (leaves x kept v))) → WasLeft q.items old f x kept v → (a : Step) → IsAt k.frame.depth a → IsInside v a → IsBack q.items values k.func a → CameTo v b b None back_run (at k.func us a) a
    back_came x kept v q l (goes frame u) d i h =
        let deep : k.frame.depth ≡ old.depth - 1 = (let e = q.shown.0.depth in omega (arith, e)) in
        record {
          shown = record {
            items = q.items;
            holds = q.holds;
            func = caller_is (leaves x kept v) q;
            shown = subst (λ n. ShowsTasks q.items values n (old.depth - 1) (tasks_left old) us) (sym base)
                (tasks_kept q.items q.items old.values values w.base (old.depth - 1) (tasks_left old) us (record { keep = λ c n t. t; width = width; same = same }) q.shown.1);
            step = record {
              objects = h.shows.objects_shown;
              frame_shown = h.shows.frame_shown;
              names = h.names;
              running = running_like values (func_of w.func.now) k.func 0 (caller_is (leaves x kept v) q) running;
              depth = d ∙ deep;
              hosts = record { input = i.same.input ∙ l.hosts.input; answers = i.same.answers ∙ l.hosts.answers; taken = i.same.taken ∙ l.hosts.taken };
              fuel = i.same.fuel ∙ l.fuel;
            };
          };
          wrote = silent v u b i.same.events;
        }
    back_came x kept v q l (jumps c frame u) d i h = absurd h
    back_came x kept v q l (leaves y more u) d i h = absurd h
    back_came x kept v q l (ends o u) d i h = h

    was_left : (items : Items) (x : At) (y : Option Value) (kept : List ℕ) (v : World) → ShowsStep items old f x (leaves y kept v) → WasLeft items old f y kept v
    was_left items Goes y kept v h = absurd h
    was_left items (Jumps c) y kept v h = absurd h
    was_left items Leaves y kept v h = h

    not_ended : (items : Items) (x : At) (o : Outcome) (v : World) → ShowsStep items old f x (ends o v) → ⊥
    not_ended items Goes o v h = h
    not_ended items (Jumps c) o v h = h
    not_ended items Leaves o v h = h

    back_step : (a : Step) → ShowsWith (Back w ∷ tasks_left old) old (at f (m.back k ∷ us) a) → CameTo (world_in a) b b None back_run (at k.func us (back_in k.func k.target k.keys f k.frame a)) (back_in k.func k.target k.keys f k.frame a)
    unfolding back_in
    back_step (goes frame v) q = refl
    back_step (jumps c frame v) q = refl
    back_step (ends o v) q = absurd (not_ended q.items old.at o v q.step)
    back_step (leaves x kept v) q =
        let l = was_left q.items old.at x kept v q.step in
        let there = returns f q.func q.items k x kept v l.left q.shown.0.waits in
        back_came x kept v q l (back_in k.func k.target k.keys f k.frame (leaves x kept v))
        (back_at k.frame.depth k.func k.target k.keys f k.frame (leaves x kept v) refl) (back_inside k.func k.target k.keys f k.frame x kept v) there

  pub back_does : (s : Setup) (b : Outside) → DoesTask (Back w) s old back_run b b None
  back_does s b = record {
    keeps = record { sound = sound; size = record { heap = refl; slots = refl }; width = width; values = omega (arith, room); tasks = omega arith; line = omega arith };
    comes = by_back old w (tasks_left old) (λ c. CameTo (world_in c.step) b b None back_run (after_move s c) (after_move s c).step) (λ f k us a q. back_step s b f k us a q);
  }
