-- The stack of tasks, whose last one is the next.
use Rattle.std.proofs.Common.{◌≡◌, ◌<◌, ◌≤◌, ℕ, List, [], ◌∷◌, ◌++◌, sym, ap, ◌∙◌, subst, arith, slice_get, reverse}
use Rattle.std.proofs.lemmas.List.{reverse-append}
use Rattle.vlt_heap.specs.Items.{Items}
use Rattle.vlt_heap.proofs.Listed.{KeepMade}
use Rattle.vlt_meaning_laws.specs.Machine.Machine as m
use Rattle.vlt_acts.specs.declared.values.values.Values.{Values}
use Rattle.vlt_acts.specs.Frames.Frames.{frame_end, IsBelow, Waits}
use Rattle.vlt_acts.proofs.OfFrames.Standing.{stands_same, stands_kept}
use Rattle.vlt_interp.specs.declared.tasks.task.Task.{Task}
use Rattle.vlt_interp.specs.declared.tasks.task.Task.TheVariants.{List as Listed, Closing, Turn, Unfocus, Back}
use Rattle.vlt_interp.specs.Tasks.Shown.{ShowsTask, base_after, depth_after, ShowsTasks}

-- a task more is the next one
pub next_is : (old new : List Task) (t : Task) → new ≡ old ++ t ∷ [] → reverse new ≡ t ∷ reverse old
next_is old new t e = ap reverse e ∙ reverse-append old (t ∷ [])

-- ---- the tasks that are shown

-- what callers have below the running frame is as it was
pub record IsBelowSame (xs ys : Items) (old new : Values) (base : ℕ) : Type 0 where
  pub keep : KeepMade xs ys
  pub width : new.width ≡ old.width
  pub same : (j : ℕ) → j < base → slice_get new.slots.items j ≡ slice_get old.slots.items j

module _ (xs ys : Items) (old new : Values) where
  caller_ends : (w : _) (k : m.Caller) (base : ℕ) → Waits xs old w base k → frame_end old.width w.base k.func ≡ base
  caller_ends w k base q = subst (λ f. frame_end old.width w.base f ≡ base) q.func.is q.below.ends

  waits_kept : (base : ℕ) (w : _) (k : m.Caller) → IsBelowSame xs ys old new base → Waits xs old w base k → Waits ys new w base k
  waits_kept base w k s q = record {
    func = q.func;
    is = q.is;
    below = subst (λ n. IsBelow w n base) (sym s.width) q.below;
    stands = stands_kept xs ys new k.func w.base k.frame s.keep
        (stands_same xs old new k.func w.base k.frame s.width (λ j l. s.same j (subst (λ n. j < n) (caller_ends w k base q) l)) q.stands);
  }

  task_kept : (base depth : ℕ) (t : Task) (u : m.Task) → IsBelowSame xs ys old new base → ShowsTask xs old base depth t u → ShowsTask ys new base depth t u
  task_kept base depth (Listed ss) (m.list ts) s h = h
  task_kept base depth Closing (m.closing bound) s h = h
  task_kept base depth (Turn e b) (m.turn d body) s h = h
  task_kept base depth (Unfocus f) (m.unfocus g q a n) s h = record { object = s.keep f.object.0 n h.object; adopter = s.keep f.adopter.0 a h.adopter }
  task_kept base depth (Back w) (m.back k) s h = record { waits = waits_kept base w k s h.waits; depth = h.depth }
  task_kept base depth (Listed ss) (m.closing bound) s h = h
  task_kept base depth (Listed ss) (m.turn d body) s h = h
  task_kept base depth (Listed ss) (m.unfocus g q a n) s h = h
  task_kept base depth (Listed ss) (m.back k) s h = h
  task_kept base depth Closing (m.list ts) s h = h
  task_kept base depth Closing (m.turn d body) s h = h
  task_kept base depth Closing (m.unfocus g q a n) s h = h
  task_kept base depth Closing (m.back k) s h = h
  task_kept base depth (Turn e b) (m.list ts) s h = h
  task_kept base depth (Turn e b) (m.closing bound) s h = h
  task_kept base depth (Turn e b) (m.unfocus g q a n) s h = h
  task_kept base depth (Turn e b) (m.back k) s h = h
  task_kept base depth (Unfocus f) (m.list ts) s h = h
  task_kept base depth (Unfocus f) (m.closing bound) s h = h
  task_kept base depth (Unfocus f) (m.turn d body) s h = h
  task_kept base depth (Unfocus f) (m.back k) s h = h
  task_kept base depth (Back w) (m.list ts) s h = h
  task_kept base depth (Back w) (m.closing bound) s h = h
  task_kept base depth (Back w) (m.turn d body) s h = h
  task_kept base depth (Back w) (m.unfocus g q a n) s h = h

  low_after : (base depth : ℕ) (t : Task) (u : m.Task) → ShowsTask xs old base depth t u → base_after base t ≤ base
  low_after base depth (Back w) (m.back k) h = let e = caller_ends w k base h.waits in omega (arith, e)
  low_after base depth (Listed ss) u h = omega arith
  low_after base depth Closing u h = omega arith
  low_after base depth (Turn e b) u h = omega arith
  low_after base depth (Unfocus f) u h = omega arith
  low_after base depth (Back w) (m.list ts) h = absurd h
  low_after base depth (Back w) (m.closing bound) h = absurd h
  low_after base depth (Back w) (m.turn d body) h = absurd h
  low_after base depth (Back w) (m.unfocus g q a n) h = absurd h

  below_after : (base low : ℕ) → low ≤ base → IsBelowSame xs ys old new base → IsBelowSame xs ys old new low
  below_after base low l s = record { keep = s.keep; width = s.width; same = λ j k. s.same j (omega (arith, k, l)) }

  -- the tasks are shown still where objects are known still, and where no slot below the running frame has changed
  pub tasks_kept : (base depth : ℕ) (ts : List Task) (us : List m.Task) → IsBelowSame xs ys old new base → ShowsTasks xs old base depth ts us → ShowsTasks ys new base depth ts us
  tasks_kept base depth [] [] s h = h
  tasks_kept base depth [] (u ∷ us) s h = h
  tasks_kept base depth (t ∷ ts) [] s h = h
  tasks_kept base depth (t ∷ ts) (u ∷ us) s h = (
    task_kept base depth t u s h.0,
    tasks_kept (base_after base t) (depth_after depth t) ts us (below_after base (base_after base t) (low_after base depth t u h.0) s) h.1,
  )
