-- A task more, and the next task taken.
use Rattle.std.proofs.Common.{◌≡◌, List, [], ◌∷◌, ◌++◌, sym, subst}
use Rattle.vlt_core.specs.Core.{Func}
use Rattle.vlt_heap.specs.Items.{Items}
use Rattle.vlt_meaning.specs.World.{Frame, World}
use Rattle.vlt_meaning.specs.Step.{Step, goes, jumps, leaves, ends}
use Rattle.vlt_meaning_laws.specs.Machine.Machine as m
use Rattle.vlt_meaning_laws.specs.Machine.Machine.{at}
use Rattle.vlt_interp.specs.declared.tasks.task.At.{At}
use Rattle.vlt_interp.specs.declared.tasks.task.At.TheVariants.{Goes, Jumps, Leaves}
use Rattle.vlt_interp.specs.declared.tasks.task.Task.{Task}
use Rattle.vlt_interp.specs.declared.tasks.task.Run.{Run}
use Rattle.vlt_interp.specs.Tasks.Shown.{tasks_left, ShowsTasks, Runs, ShowsStep, ShowsWith, ShowsConf}
use Rattle.vlt_interp.proofs.OfTasks.Stacks.{next_is}

-- only the stack changed
abbrev pub WithTasks : (old new : Run) → Type 0
WithTasks old new = new ≡ record old { tasks = new.tasks }

module _ (items : Items) (old new : Run) (f : Func) where
  runs_still : (frame : Frame) (w : World) → Runs items old f frame w → Runs items (record old { tasks = new.tasks }) f frame w
  runs_still frame w h = record { objects = h.objects; frame_shown = h.frame_shown; names = h.names; running = h.running; depth = h.depth; hosts = h.hosts; fuel = h.fuel }

  step_still : (a : At) (x : Step) → ShowsStep items old f a x → ShowsStep items (record old { tasks = new.tasks }) f a x
  step_still Goes (goes frame w) h = runs_still frame w h
  step_still Goes (jumps c frame w) h = h
  step_still Goes (leaves b kept w) h = h
  step_still Goes (ends o w) h = h
  step_still (Jumps k) (goes frame w) h = h
  step_still (Jumps k) (jumps c frame w) h = record { same = h.same; runs = runs_still frame w h.runs }
  step_still (Jumps k) (leaves b kept w) h = h
  step_still (Jumps k) (ends o w) h = h
  step_still Leaves (goes frame w) h = h
  step_still Leaves (jumps c frame w) h = h
  step_still Leaves (leaves b kept w) h = record { left = h.left; table = h.table; hosts = h.hosts; fuel = h.fuel }
  step_still Leaves (ends o w) h = h

module _ (old new : Run) (is : WithTasks old new) where
  -- other tasks are left
  pub left_shown : (ts us : List Task) (f : Func) (vs ws : List m.Task) (a : Step) → (q : ShowsWith ts old (at f vs a)) → ShowsTasks q.items old.values old.values.base old.depth us ws → ShowsWith us new (at f ws a)
  left_shown ts us f vs ws a q h = subst (λ r. ShowsWith us r (at f ws a)) (sym is) (record {
    items = q.items;
    holds = q.holds;
    func = q.func;
    shown = h;
    step = step_still q.items old new f old.at a q.step;
  })

  -- a task more is shown where it is the next one
  pub put_shown : (t : Task) (f : Func) (ts us : List m.Task) (a : Step) → new.tasks.items ≡ old.tasks.items ++ t ∷ [] → (q : ShowsConf old (at f ts a)) → ShowsTasks q.items old.values old.values.base old.depth (t ∷ tasks_left old) us → ShowsConf new (at f us a)
  put_shown t f ts us a e q h = subst (λ l. ShowsWith l new (at f us a)) (sym (next_is old.tasks.items new.tasks.items t e)) (left_shown (tasks_left old) (t ∷ tasks_left old) f ts us a q h)

  -- the next task is in front once it was taken
  pub taken_shown : (t : Task) (f : Func) (ts : List m.Task) (a : Step) → old.tasks.items ≡ new.tasks.items ++ t ∷ [] → ShowsConf old (at f ts a) → ShowsWith (t ∷ tasks_left new) new (at f ts a)
  taken_shown t f ts a e q =
      let n = next_is new.tasks.items old.tasks.items t e in
      left_shown (tasks_left old) (t ∷ tasks_left new) f ts ts a q (subst (λ l. ShowsTasks q.items old.values old.values.base old.depth l ts) n q.shown)
