-- The next task is taken off the stack.
use Rattle.std.proofs.Common.{◌≡◌, [], ◌∷◌, ◌++◌, Option, Some, refl, sym, ap, subst, arith, reverse}
use Rattle.std.specs.Vec.{vec_capacity}
use Rattle.vlt_core.specs.View.{program_of}
use Rattle.vlt_steps.specs.Writing.{Outside}
use Rattle.vlt_steps.specs.declared.stop.Stop.{Stop}
use Rattle.vlt_steps.specs.declared.stop.Stop.TheVariants.{Done}
use Rattle.vlt_interp.specs.declared.tasks.task.Task.{Task}
use Rattle.vlt_interp.specs.declared.tasks.task.Rules.{Rules}
use Rattle.vlt_interp.specs.declared.tasks.task.Run.{Run}
use Rattle.vlt_interp.specs.Tasks.Shown.{tasks_left}
use Rattle.vlt_interp.specs.Tasks.Moves.{Keeps}
use Rattle.vlt_interp.proofs.OfTasks.Staying.{room_kept, keeps_on}
use Rattle.vlt_interp.proofs.OfTasks.Stacks.{next_is}
use Rattle.vlt_interp.proofs.OfTasks.Pushing.{left_shown, taken_shown}
use Rattle.vlt_interp.specs.Going.{CanMove, CanDoTask, GoesTask, Moves}

module _ (rules : Rules) (old mid : Run) (t : Task) (items : old.tasks.items ≡ mid.tasks.items ++ t ∷ []) (room : vec_capacity mid.tasks ≡ vec_capacity old.tasks) (can : CanMove rules old) where
  abbrev taken : Run
  taken = record old { tasks = mid.tasks }

  taken_keeps : Keeps old taken
  taken_keeps = record { sound = can.room.heap; size = record { heap = refl; slots = refl }; width = refl; values = omega arith; tasks = omega (arith, room); line = omega arith }

  pub taken_can : CanDoTask t rules taken
  taken_can = record {
    room = room_kept (program_of rules.program.now) rules.depth old taken can.room taken_keeps;
    has_own = can.has_own;
    conf = can.conf;
    shown = taken_shown old taken refl t can.conf.func can.conf.tasks can.conf.step items can.shown;
    fine = can.fine;
  }

  pub taken_moves : (new : Run) (before after : Outside) (result : Option Stop) → GoesTask t rules taken new before after result → Moves (tasks_left old) rules old new before after result
  taken_moves new before after result h = subst (λ ts. Moves ts rules old new before after result) (sym (next_is mid.tasks.items old.tasks.items t items)) (record {
    keeps = keeps_on old taken new taken_keeps h.keeps;
    comes = λ c q fine. h.comes c (left_shown old taken refl (t ∷ tasks_left taken) (t ∷ tasks_left taken) c.func c.tasks c.tasks c.step q q.shown) fine;
  })

pub none_left : (rules : Rules) (old new : Run) (b : Outside) → old.tasks.items ≡ [] → new.fuel ≡ old.fuel → Moves (tasks_left old) rules old new b b (Some Done)
none_left rules old new b none same = subst (λ ts. Moves ts rules old new b b (Some Done)) (sym (ap reverse none)) (record { done = refl; fuel = same; silent = refl })
