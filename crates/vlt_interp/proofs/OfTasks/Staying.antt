-- A run that shows a configuration still, once its tables were changed.
use Rattle.std.proofs.Common.{◌≡◌, ◌*◌, ℕ, List, length, refl, sym, ap, ◌∙◌, subst, arith, reverse}
use Rattle.vlt_core.specs.View.{func_of}
use Rattle.vlt_core.specs.Core.{Func, Program}
use Rattle.vlt_meaning.specs.World.{Frame, World}
use Rattle.vlt_meaning.specs.Step.{goes}
use Rattle.vlt_heap.specs.Items.{Items}
use Rattle.vlt_heap.specs.Shown.{IsSound}
use Rattle.vlt_meaning_laws.specs.Machine.Machine as m
use Rattle.vlt_meaning_laws.specs.Machine.Machine.{at}
use Rattle.vlt_acts.specs.Values.Shown.{IsTable, Seen}
use Rattle.vlt_acts.specs.Acts.Acts.{Shows, IsSameFrame}
use Rattle.vlt_acts.specs.Frames.Frames.{IsLike, IsRunning}
use Rattle.vlt_acts.proofs.OfFrames.Standing.{running_names}
use Rattle.vlt_acts.specs.Hosts.Hosts.{ShowsHost}
use Rattle.vlt_interp.specs.declared.tasks.task.At.{At}
use Rattle.vlt_interp.specs.declared.tasks.task.At.TheVariants.{Goes, Jumps, Leaves}
use Rattle.vlt_interp.specs.declared.tasks.task.Task.{Task}
use Rattle.vlt_interp.specs.declared.tasks.task.Run.{Run}
use Rattle.vlt_interp.specs.Tasks.Shown.{tasks_left, ShowsTasks, Runs, ShowsStep, ShowsWith, ShowsConf}
use Rattle.vlt_interp.specs.Tasks.Moves.{HasRoom, Keeps}
use Rattle.vlt_interp.proofs.OfTasks.Stacks.{tasks_kept}

-- ---- a run that goes on

-- a step that goes on is shown where the code's goes on
pub record IsGoing (items : Items) (r : Run) (f : Func) (a : At) (frame : Frame) (w : World) : Type 0 where
  pub is : a ≡ Goes
  pub runs : Runs items r f frame w

pub going : (items : Items) (r : Run) (f : Func) (a : At) (frame : Frame) (w : World) → ShowsStep items r f a (goes frame w) → IsGoing items r f a frame w
going items r f Goes frame w h = record { is = refl; runs = h }
going items r f (Jumps c) frame w h = absurd h
going items r f Leaves frame w h = absurd h

pub step_goes : (items : Items) (r : Run) (f : Func) (a : At) (frame : Frame) (w : World) → a ≡ Goes → Runs items r f frame w → ShowsStep items r f a (goes frame w)
step_goes items r f a frame w e h = subst (λ x. ShowsStep items r f x (goes frame w)) (sym e) h

-- what is seen of a run that goes on
abbrev pub seen_in : (p : Program) (r : Run) (ts : List Task) (f : Func) (us : List m.Task) (frame : Frame) (w : World) → ShowsWith ts r (at f us (goes frame w)) → Seen r.heap r.values
seen_in p r ts f us frame w q =
    let g = going q.items r f r.at frame w q.step in
    record { program = p; func = f; frame = frame; objects = w.objects; items = q.items; holds = q.holds; shown = g.runs.objects; fits = g.runs.frame_shown }

-- the same with a function that is like the one that runs
abbrev pub seen_as : (p : Program) (r : Run) (ts : List Task) (f : Func) (us : List m.Task) (frame : Frame) (w : World) → ShowsWith ts r (at f us (goes frame w)) → Func → Seen r.heap r.values
seen_as p r ts f us frame w q g = record (seen_in p r ts f us frame w q) { func = g }

pub running_table : (r : Run) (f : Func) → IsRunning r.values f 0 → IsTable r.values
running_table r f h =
    let e : r.values.vars * r.values.width ≡ length f.vars * r.values.width = ap (λ n. n * r.values.width) h.vars in
    let l = h.long in
    omega (arith, l, e)

-- ---- its tables were changed

-- nothing but the tables changed, and the frame stands where it stood
pub record IsSameRun (old new : Run) : Type 0 where
  pub func : new.func ≡ old.func
  pub tasks : new.tasks ≡ old.tasks
  pub at : new.at ≡ old.at
  pub depth : new.depth ≡ old.depth
  pub frame : IsSameFrame old.values new.values

pub still_runs : (old new : Run) (f : Func) → IsSameFrame old.values new.values → IsRunning old.values f 0 → IsRunning new.values f 0
still_runs old new f s h = record {
  vars = s.vars ∙ h.vars;
  long = rw (s.width, s.base) (s.long ∙ h.long);
}

-- what the tables show then
pub record ShowsThen (items : Items) (new : Run) (frame : Frame) (d : ℕ) (w : World) : Type 0 where
  pub tables : Shows items new.heap new.values frame w.objects
  pub depth : frame.depth ≡ d
  pub hosts : ShowsHost new.host w
  pub fuel : w.fuel ≡ new.fuel

module _ (old new : Run) (ts : List Task) (f : Func) (us : List m.Task) where
  abbrev pub stays : (frame : Frame) (w : World) (after : Frame) (v : World) → IsSameRun old new → (q : ShowsWith ts old (at f us (goes frame w))) → ShowsThen q.items new after frame.depth v → ShowsWith ts new (at f us (goes after v))
  stays frame w after v s q h =
      let g = going q.items old f old.at frame w q.step in
      let runs = still_runs old new f s.frame g.runs.running in
      record {
        items = h.tables.items;
        holds = h.tables.holds;
        func = subst (λ k. IsLike (func_of k.now) f) (sym s.func) q.func;
        shown = subst (λ n. ShowsTasks h.tables.items new.values new.values.base n ts us) (sym s.depth)
            (subst (λ b. ShowsTasks h.tables.items new.values b old.depth ts us) (sym s.frame.base)
            (tasks_kept q.items h.tables.items old.values new.values old.values.base old.depth ts us (record { keep = h.tables.kept; width = s.frame.width; same = s.frame.below }) q.shown));
        step = step_goes h.tables.items new f new.at after v (s.at ∙ g.is) (record {
          objects = h.tables.objects_shown;
          frame_shown = h.tables.frame_shown;
          names = running_names h.tables.items new.values f after runs h.tables.frame_shown;
          running = runs;
          depth = h.depth ∙ g.runs.depth ∙ sym s.depth;
          hosts = h.hosts;
          fuel = h.fuel;
        });
      }

-- the tasks that it has left are the same
abbrev pub stays_left : (old new : Run) (f : Func) (us : List m.Task) (frame : Frame) (w : World) (after : Frame) (v : World) → IsSameRun old new → (q : ShowsConf old (at f us (goes frame w))) → ShowsThen q.items new after frame.depth v → ShowsConf new (at f us (goes after v))
stays_left old new f us frame w after v s q h =
    let k = stays old new (tasks_left old) f us frame w after v s q h in
    record { items = k.items; holds = k.holds; func = k.func; shown = subst (λ t. ShowsTasks k.items new.values new.values.base new.depth (reverse t.items) us) (sym s.tasks) k.shown; step = k.step }

-- ---- rooms

pub room_kept : (p : Program) (depth : ℕ) (old new : Run) → HasRoom p depth old → Keeps old new → HasRoom p depth new
room_kept p depth old new h k = record {
  wide = rw k.width h.wide;
  heap = k.sound;
  cells = λ t. rw (k.width, k.size.slots) (h.cells t);
  fields = h.fields;
  values = rw k.width (omega (arith, h.values, k.values));
  operands = λ t. let a = h.operands t in rw k.width (omega (arith, a, k.values));
  tasks = omega (arith, h.tasks, k.tasks);
  line = omega (arith, h.line, k.line);
}

pub keeps_all : (r : Run) → IsSound r.heap → Keeps r r
keeps_all r h = record { sound = h; size = record { heap = refl; slots = refl }; width = refl; values = omega arith; tasks = omega arith; line = omega arith }

pub keeps_on : (a b c : Run) → Keeps a b → Keeps b c → Keeps a c
keeps_on a b c h k = record {
  sound = k.sound;
  size = record { heap = k.size.heap ∙ h.size.heap; slots = k.size.slots ∙ h.size.slots };
  width = k.width ∙ h.width;
  values = omega (arith, h.values, k.values);
  tasks = omega (arith, h.tasks, k.tasks);
  line = omega (arith, h.line, k.line);
}
