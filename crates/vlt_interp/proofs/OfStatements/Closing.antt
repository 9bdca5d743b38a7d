-- The end of a block, which only tests.
use Rattle.std.proofs.Common.{◌≡◌, ℕ, Bool, true, false, List, [], ◌∷◌, None, refl, sym, subst}
use Rattle.vlt_core.specs.Core.{Tok}
use Rattle.vlt_heap.specs.Items.{Items}
use Rattle.vlt_heap.specs.Shown.{IsSound}
use Rattle.vlt_meaning.specs.World.{left_behind}
use Rattle.vlt_meaning.specs.Step.{Step, goes, jumps, leaves, ends, left_block, where_so, are_unused}
use Rattle.vlt_meaning.specs.Run.{Setup}
use Rattle.vlt_meaning_laws.specs.Machine.Machine as m
use Rattle.vlt_meaning_laws.specs.Machine.Machine.{Conf, at, after_move, moved_in}
use Rattle.vlt_acts.specs.declared.values.values.Values.{Values}
use Rattle.vlt_steps.specs.Writing.{Outside}
use Rattle.vlt_acts.proofs.OfHosts.Writing.{silent}
use Rattle.vlt_interp.specs.declared.tasks.task.At.{At}
use Rattle.vlt_interp.specs.declared.tasks.task.At.TheVariants.{Goes, Jumps, Leaves}
use Rattle.vlt_interp.specs.declared.tasks.task.Task.{Task}
use Rattle.vlt_interp.specs.declared.tasks.task.Task.TheVariants.{Closing}
use Rattle.vlt_interp.specs.declared.tasks.task.Run.{Run}
use Rattle.vlt_interp.specs.Tasks.Shown.{tasks_left, ShowsTasks, ShowsStep, ShowsWith, ShowsConf}
use Rattle.vlt_interp.specs.Tasks.Moves.{world_in, CameTo, DoesTask}
use Rattle.vlt_interp.proofs.OfTasks.Staying.{keeps_all}

-- the next task is the end of a block
record IsNext (items : Items) (values : Values) (base depth : ℕ) (ts : List Task) (us : List m.Task) : Type 0 where
  bound : List Tok
  rest : List m.Task
  is : us ≡ m.closing bound ∷ rest
  left : ShowsTasks items values base depth ts rest

next_is : (items : Items) (values : Values) (base depth : ℕ) (ts : List Task) (us : List m.Task) → ShowsTasks items values base depth (Closing ∷ ts) us → IsNext items values base depth ts us
next_is items values base depth ts [] h = absurd h
next_is items values base depth ts (m.closing bound ∷ us) h = record { bound = bound; rest = us; is = refl; left = h.1 }
next_is items values base depth ts (m.list ss ∷ us) h = absurd h.0
next_is items values base depth ts (m.turn e body ∷ us) h = absurd h.0
next_is items values base depth ts (m.unfocus g q a n ∷ us) h = absurd h.0
next_is items values base depth ts (m.back k ∷ us) h = absurd h.0

module _ (s : Setup) (r : Run) (b : Outside) (c : Conf) (q : ShowsWith (Closing ∷ tasks_left r) r c) where
  next : IsNext q.items r.values r.values.base r.depth (tasks_left r) c.tasks
  next = next_is q.items r.values r.values.base r.depth (tasks_left r) c.tasks q.shown

  -- the run without the task
  following : (x : Step) → c.step ≡ x → ShowsConf r (at c.func next.rest x)
  following x e = record { items = q.items; holds = q.holds; func = q.func; shown = next.left; step = subst (ShowsStep q.items r c.func r.at) e q.step }

  closed : (x : Step) → c.step ≡ x → ShowsStep q.items r c.func r.at x → CameTo (world_in x) b b None r (at c.func next.rest (left_block next.bound x)) (left_block next.bound x)
  unfolding left_block where_so
  closed (goes frame w) e h = by (are_unused next.bound frame w)
    where
      by : (t : Bool) → CameTo w b b None r (at c.func next.rest (where_so t left_behind None w (λ w. goes frame w))) (where_so t left_behind None w (λ w. goes frame w))
      by true = record { shown = following (goes frame w) e; wrote = silent w w b refl }
      by false = refl
  closed (jumps k frame w) e h = by (are_unused next.bound frame w)
    where
      by : (t : Bool) → CameTo w b b None r (at c.func next.rest (where_so t left_behind None w (λ w. jumps k frame w))) (where_so t left_behind None w (λ w. jumps k frame w))
      by true = record { shown = following (jumps k frame w) e; wrote = silent w w b refl }
      by false = refl
  closed (leaves a kept w) e h = record { shown = following (leaves a kept w) e; wrote = silent w w b refl }
  closed (ends o w) e h = none r.at h
    where
      none : (a : At) → ShowsStep q.items r c.func a (ends o w) → CameTo w b b None r (at c.func next.rest (ends o w)) (ends o w)
      none Goes h = absurd h
      none (Jumps k) h = absurd h
      none Leaves h = absurd h

  closed_came : CameTo (world_in c.step) b b None r (after_move s c) (after_move s c).step
  closed_came = subst (λ us. CameTo (world_in c.step) b b None r (moved_in s c.func us c.step) (moved_in s c.func us c.step).step) (sym next.is) (closed c.step refl q.step)

-- the run shows what it comes to without its task
pub closing_does : (s : Setup) (r : Run) (b : Outside) → IsSound r.heap → DoesTask Closing s r r b b None
closing_does s r b sound = record { keeps = keeps_all r sound; comes = λ c q. closed_came s r b c q }
