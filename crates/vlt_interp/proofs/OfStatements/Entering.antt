-- Where statements with blocks come to.
use Rattle.std.proofs.Common.{◌≡◌, inl, inr, ◌<◌, ◌≤◌, ◌-◌, ◌==◌, ℕ, ℤ, Bool, true, false, if◌then◌else◌, List, [], ◌∷◌, ◌++◌, map, Option, Some, None, Result, refl, sym, ap, ◌∙◌, subst, arith}
use Rattle.std.specs.Vec.{vec_capacity}
use Rattle.std.specs.Borrow.{Bor}
use Rattle.std.proofs.lemmas.Bool.Decides.{nat_tests}
use Rattle.vlt_ops.specs.declared.TrapKind.{TrapKind}
use Rattle.vlt_ops.specs.Operator.{is_true}
use Rattle.vlt_core.specs.declared.program.Block.{Block, out-Block}
use Rattle.vlt_core.specs.declared.program.Stmt.{Stmt}
use Rattle.vlt_core.specs.Core as core
use Rattle.vlt_core.specs.Core.{Func}
use Rattle.vlt_core.specs.View.{stmts_of, block_of, tok_of}
use Rattle.vlt_core.proofs.Views.{block_parts}
use Rattle.vlt_heap.specs.Shown.{IsSound, heap_of, slots_of}
use Rattle.vlt_meaning.specs.World.{World, Frame, fuel_end}
use Rattle.vlt_meaning.specs.Values.{number_of}
use Rattle.vlt_meaning.specs.Step.{goes, ends}
use Rattle.vlt_meaning.specs.Run.{Setup}
use Rattle.vlt_meaning_laws.specs.Machine.Machine as m
use Rattle.vlt_meaning_laws.specs.Machine.Machine.{Conf, at, enter_block, turn_on, when_found, spending}
use Rattle.vlt_acts.specs.Values.Shown.{Seen, IsNumber}
use Rattle.vlt_steps.specs.Writing.{Outside}
use Rattle.vlt_acts.proofs.OfHosts.Writing.{silent}
use Rattle.vlt_steps.specs.declared.stop.Stop.{Stop}
use Rattle.vlt_steps.specs.declared.stop.Stop.TheVariants.{FuelEnd}
use Rattle.vlt_interp.specs.declared.tasks.task.Task.TheVariants.{List as Listed, Closing}
use Rattle.vlt_interp.specs.declared.tasks.task.Run.{Run}
use Rattle.vlt_interp.specs.Tasks.Shown.{tasks_left, ShowsConf}
use Rattle.vlt_interp.specs.Tasks.Moves.{Keeps}
use Rattle.vlt_interp.proofs.OfTasks.Staying.{IsGoing, going, step_goes, seen_in}
use Rattle.vlt_interp.proofs.OfTasks.Pushing.{WithTasks, put_shown}
use Rattle.vlt_interp.proofs.OfTasks.Coming.{Came, came_since}

-- ---- the beginning of a block

module _ (block : Block) (old mid new : Run) (first : WithTasks old mid) (last : WithTasks mid new) where
  pub block_entered : (ss : Bor (List Stmt)) → ss.now ≡ (out-Block block).stmts → mid.tasks.items ≡ old.tasks.items ++ Closing ∷ [] → new.tasks.items ≡ mid.tasks.items ++ Listed ss ∷ []
      → (f : Func) (ts : List m.Task) (frame : Frame) (w : World) (b : Outside) → ShowsConf old (at f ts (goes frame w)) → Came w b b None new (enter_block f (block_of block) ts frame w)
  block_entered ss is e g f ts frame w b q = subst (λ k. Came w b b None new (enter_block f k ts frame w)) (sym (block_parts block)) (record { shown = shown; wrote = silent w w b refl })
    where
      bound : List core.Tok
      bound = map tok_of (out-Block block).bound

      closed : ShowsConf mid (at f (m.closing bound ∷ ts) (goes frame w))
      closed = put_shown old mid first Closing f ts (m.closing bound ∷ ts) (goes frame w) e q (tt, q.shown)

      shown : ShowsConf new (at f (m.list (stmts_of (out-Block block).stmts) ∷ m.closing bound ∷ ts) (goes frame w))
      shown = put_shown mid new last (Listed ss) f (m.closing bound ∷ ts) (m.list (stmts_of (out-Block block).stmts) ∷ m.closing bound ∷ ts) (goes frame w) g closed (ap stmts_of is, closed.shown)

-- ---- one or the other

pub if_came : (w : World) (b : Outside) (result : Option Stop) (r : Run) (t u : Bool) (c d : Conf) → t ≡ u → Came w b b result r (if u then c else d) → Came w b b result r (if t then c else d)
if_came w b result r t u c d e h = subst (λ k. Came w b b result r (if k then c else d)) (sym e) h

-- the condition's number, where the run that shows it has these values and this heap
pub number_here : (s : Setup) (e : core.Expr) (r : Run) (x : Result ℤ TrapKind) → ((c : Seen r.heap r.values) → IsNumber x (number_of c.program c.func e c.frame c.objects))
    → (f : Func) (ts : List m.Task) (frame : Frame) (w : World) → ShowsConf r (at f ts (goes frame w)) → IsNumber x (number_of s.program f e frame w.objects)
number_here s e r x h f ts frame w q = h (seen_in s.program r (tasks_left r) f ts frame w q)

-- ---- a unit of fuel

module _ (old new : Run) (is : new ≡ record old { fuel = old.fuel - 1 }) where
  abbrev less : World → World
  less w = record w { fuel = w.fuel - 1 }

  -- the run with a unit less shows the world with a unit less
  pub spent_shown : (f : Func) (ts : List m.Task) (frame : Frame) (w : World) → ShowsConf old (at f ts (goes frame w)) → ShowsConf new (at f ts (goes frame (record w { fuel = w.fuel - 1 })))
  spent_shown f ts frame w q = subst (λ r. ShowsConf r (at f ts (goes frame (less w)))) (sym is) (record {
    items = q.items;
    holds = q.holds;
    func = q.func;
    shown = q.shown;
    step = step_goes q.items (record old { fuel = old.fuel - 1 }) f old.at frame (less w) g.is (record {
      objects = g.runs.objects;
      frame_shown = g.runs.frame_shown;
      names = g.runs.names;
      running = g.runs.running;
      depth = g.runs.depth;
      hosts = record { input = g.runs.hosts.input; answers = g.runs.hosts.answers; taken = g.runs.hosts.taken };
      fuel = ap (λ n. n - 1) g.runs.fuel;
    });
  })
    where
      g : IsGoing q.items old f old.at frame w
      g = going q.items old f old.at frame w q.step

pub out_of_fuel : (w : World) (b : Outside) (r : Run) (f : Func) (ts : List m.Task) (go : World → Conf) → w.fuel ≡ r.fuel → r.fuel ≡ 0 → Came w b b (Some FuelEnd) r (spending f ts w go)
unfolding spending
out_of_fuel w b r f ts go e none = if_came w b (Some FuelEnd) r (w.fuel == 0) true (at f ts (ends fuel_end w)) (go (record w { fuel = w.fuel - 1 })) (zero_is w.fuel (e ∙ none))
    (inr (inl (record { outcome = refl; fuel = e; wrote = silent w w b refl })))
  where
    zero_is : (n : ℕ) → n ≡ 0 → (n == 0) ≡ true
    zero_is n e = grind (arith, nat_tests)

pub fuel_spent : (w : World) (b : Outside) (result : Option Stop) (r : Run) (n : ℕ) (f : Func) (ts : List m.Task) (go : World → Conf) → w.fuel ≡ n → 0 < n → Came (record w { fuel = w.fuel - 1 }) b b result r (go (record w { fuel = w.fuel - 1 })) → Came w b b result r (spending f ts w go)
unfolding spending
fuel_spent w b result r n f ts go e some h = if_came w b result r (w.fuel == 0) false (at f ts (ends fuel_end w)) (go (record w { fuel = w.fuel - 1 })) (some_is w.fuel (omega (arith, e, some)))
    (came_since w (record w { fuel = w.fuel - 1 }) b b r refl result (go (record w { fuel = w.fuel - 1 })) (go (record w { fuel = w.fuel - 1 })).step h)
  where
    some_is : (n : ℕ) → 0 < n → (n == 0) ≡ false
    some_is n l = grind (arith, nat_tests)

-- a turn, once a unit of fuel was spent
abbrev pub turned : Setup → Func → core.Expr → core.Block → List m.Task → Frame → World → Conf
turned s f e body ts frame w = when_found (number_of s.program f e frame w.objects) f ts w (λ z. if is_true z then enter_block f body (m.turn e body ∷ ts) frame w else at f ts (goes frame w))

module _ (s : Setup) (e : core.Expr) (body : core.Block) (w : World) (b : Outside) (r : Run) (f : Func) (ts : List m.Task) (frame : Frame) where
  pub turn_ends : w.fuel ≡ r.fuel → r.fuel ≡ 0 → Came w b b (Some FuelEnd) r (turn_on s f e body ts frame w)
  unfolding turn_on
  turn_ends spent none = out_of_fuel w b r f ts (turned s f e body ts frame) spent none

  pub turn_goes : (result : Option Stop) (n : ℕ) → w.fuel ≡ n → 0 < n → Came (record w { fuel = w.fuel - 1 }) b b result r (turned s f e body ts frame (record w { fuel = w.fuel - 1 })) → Came w b b result r (turn_on s f e body ts frame w)
  unfolding turn_on
  turn_goes result n spent some h = fuel_spent w b result r n f ts (turned s f e body ts frame) spent some h

pub keeps_still : (old new : Run) → IsSound old.heap → new.heap ≡ old.heap → new.values ≡ old.values → new.host ≡ old.host → vec_capacity old.tasks ≤ vec_capacity new.tasks → Keeps old new
keeps_still old new sound heap values host tasks = record {
  sound = subst IsSound (sym heap) sound;
  size = record { heap = ap heap_of heap; slots = ap slots_of heap };
  width = ap (λ v. v.width) values;
  values = let e : vec_capacity new.values.slots ≡ vec_capacity old.values.slots = ap (λ v. vec_capacity v.slots) values in omega (arith, e);
  tasks = tasks;
  line = let e : vec_capacity new.host.line ≡ vec_capacity old.host.line = ap (λ h. vec_capacity h.line) host in omega (arith, e);
}
