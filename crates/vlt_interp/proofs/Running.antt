-- The run goes on, and comes to its end.
use Rattle.std.proofs.Common.{◌≡◌, ◌⊎◌, inl, inr, ⊎_elim, ℕ, zero, suc, ◌<◌, ◌≤◌, ◌+◌, ◌*◌, false, List, [], ◌∷◌, length, Option, Some, None, refl, sym, ap, ◌∙◌, subst, arith}
use Rattle.std.proofs.lemmas.Bool.{false≢true}
use Rattle.std.proofs.lemmas.List.{nil_from_length, length-reverse}
use Rattle.std.proofs.lemmas.Option.{none-some}
use Rattle.vlt_core.specs.View.{program_of}
use Rattle.vlt_core.specs.Core.{Func, Program}
use Rattle.vlt_meaning.specs.World.{line_of, World, Frame, is_fault}
use Rattle.vlt_meaning.specs.Step.{Step, goes, jumps, leaves, ends}
use Rattle.vlt_meaning.specs.Run.{Setup, ran_of}
use Rattle.vlt_meaning_laws.specs.Keeping.{world_after}
use Rattle.vlt_meaning_laws.specs.Machine.Machine as m
use Rattle.vlt_meaning_laws.specs.Machine.Machine.{Conf, at, after_move, moves, first_conf}
use Rattle.vlt_meaning_laws.specs.Machine.Bounds.{Fits}
use Rattle.vlt_meaning_laws.specs.Machine.Laws.{LeadsTo}
use Rattle.vlt_meaning_laws.proofs.OfMachine.Fitting.{suffices, first_fits}
use Rattle.vlt_meaning_laws.proofs.OfMachine.Finishing.{finishes, ending, moves_end}
use Rattle.vlt_meaning_laws.proofs.OfMachine.Halting.{fuel_in, weight}
use Rattle.vlt_heap.specs.Shown.{heap_of}
use Rattle.vlt_steps.specs.Writing.{Outside}
use Rattle.vlt_acts.specs.Hosts.Stops.{Wrote, IsCut, HasStopped}
use Rattle.vlt_steps.specs.declared.stop.Stop.{Stop}
use Rattle.vlt_steps.specs.declared.stop.Stop.TheVariants.{Done, SinkFault}
use Rattle.vlt_interp.specs.declared.tasks.task.At.{At}
use Rattle.vlt_interp.specs.declared.tasks.task.At.TheVariants.{Goes as GoesOn, Jumps, Leaves}
use Rattle.vlt_interp.specs.declared.tasks.task.Task.{Task}
use Rattle.vlt_interp.specs.declared.tasks.task.Rules.{Rules}
use Rattle.vlt_interp.specs.declared.tasks.task.Run.{Run}
use Rattle.vlt_interp.specs.Tasks.Own.{HasOwn, IsOf, IsOwn, AreOwn, IsOwnBlock, AreOwnArms}
use Rattle.vlt_interp.specs.Tasks.Shown.{setup_of, tasks_left, ShowsStep, ShowsWith, ShowsConf}
use Rattle.vlt_interp.specs.Tasks.Moves.{Keeps, world_in, GoneOn, CameTo, IsRight}
use Rattle.vlt_steps.proofs.Writing as writing
use Rattle.vlt_interp.proofs.OfTasks.Staying.{room_kept}
use Rattle.vlt_interp.specs.Owned.{HoldsIn, IsOwnConf}
use Rattle.vlt_interp.specs.Going.{setup_in, IsFine, CanMove, Moves}
use Rattle.vlt_interp.specs.Running.{IsUnderWay, IsRunning, HasCome, HasHalted, ComesOrEnds, or_done, IsFinished}
use Rattle.vlt_interp.specs.Calls.Known.{KnowsNext}
use Rattle.vlt_interp.proofs.Keeping.{IsClosed, moved_holds, first_holds}
use Rattle.vlt_interp.proofs.Later.{Adds, ending_adds, moved_end, ends_there}
use Rattle.vlt_interp.proofs.Likeness.{of_all, own_func}
use Rattle.vlt_interp.proofs.Fitting.{as_many}
use Rattle.vlt_interp.proofs.Fronts.{not_ended}
use Rattle.vlt_interp.proofs.Weighing.{size_of, IsSmallList, IsSmall, IsSmallBlock, AreSmallArms, small_closed, tasks_weight, most_left, measure, weighs, moved_falls}

-- ---- what holds of all that a run comes to

last_move : (r : Setup) (n : ℕ) (c : Conf) → moves r (suc n) c ≡ after_move r (moves r n c)
last_move r zero c = refl
last_move r (suc n) c = last_move r n (after_move r c)

pub own_closed : (p : Program) → HasOwn p → IsClosed p (AreOwn p) (IsOwn p) (IsOwnBlock p) (AreOwnArms p)
own_closed p h = record {
  first_of = λ f place form rest k. k.0;
  rest_of = λ f place form rest k. k.1;
  list_in = λ f ss bound end k. k;
  yes_in = λ f e a b k. k.0;
  no_in = λ f e a b k. k.1;
  loop_in = λ f e b k. k;
  switch_in = λ f v arms end k. k.1;
  arm_in = λ f c vs b rest k. k.1;
  arms_in = λ f c vs b rest k. k.2;
  focus_in = λ f y z b k. k.1;
  scope_in = λ f b k. k;
  body_of = λ f of. (own_func p h f of).body;
}

-- the stack suffices where a function begins
first_fit : (r : Setup) (f : Func) → IsOf r.program f → (frame : Frame) (w : World) → frame.depth ≡ 1 → 1 ≤ r.depth → Fits r (first_conf f frame w)
first_fit r f of frame w first deep =
    of_all r.program (λ f. Fits r (first_conf f frame w)) (λ i f at. first_fits r f i frame w at first deep) f of
    (λ h. record { reach = h.reach; within = h.within; step = h.step; callers = h.callers })

module _ (r : Setup) (c : Conf) (way : IsUnderWay r c) where
  -- what holds at the start and after each move
  along : (P : Conf → Type 0) → ((d : Conf) → P d → P (after_move r d)) → P (first_conf way.func way.frame way.world) → P c
  along P next first = subst P way.is (go way.count (first_conf way.func way.frame way.world) first)
    where
      go : (n : ℕ) (d : Conf) → P d → P (moves r n d)
      go zero d h = h
      go (suc n) d h = go n (after_move r d) (next d h)

  own_there : HasOwn r.program → IsOwnConf r.program c
  own_there h =
      let k = own_closed r.program h in
      along (IsOwnConf r.program) (moved_holds r (AreOwn r.program) (IsOwn r.program) (IsOwnBlock r.program) (AreOwnArms r.program) k)
      (first_holds r (AreOwn r.program) (IsOwn r.program) (IsOwnBlock r.program) (AreOwnArms r.program) k way.func way.of)

  small_there : HasOwn r.program → HoldsIn (IsSmallList (size_of r.program)) (IsSmall (size_of r.program)) r.program c.func c.tasks
  small_there h =
      let n = size_of r.program in
      let k = small_closed r.program in
      along (λ d. HoldsIn (IsSmallList n) (IsSmall n) r.program d.func d.tasks) (moved_holds r (IsSmallList n) (IsSmall n) (IsSmallBlock n) (AreSmallArms n) k)
      (first_holds r (IsSmallList n) (IsSmall n) (IsSmallBlock n) (AreSmallArms n) k way.func way.of)

  fits_there : 1 ≤ r.depth → Fits r c
  fits_there deep = along (Fits r) (λ d h. (suffices r d h).next) (first_fit r way.func way.of way.frame way.world way.first deep)

  knows_there : KnowsNext r.program c
  knows_there = subst (KnowsNext r.program) way.is (way.knows way.count)

  way_on : IsUnderWay r (after_move r c)
  way_on = record {
    func = way.func;
    of = way.of;
    frame = way.frame;
    first = way.first;
    world = way.world;
    count = suc way.count;
    is = last_move r way.count (first_conf way.func way.frame way.world) ∙ ap (after_move r) way.is;
    knows = way.knows;
  }

-- ---- where it ends

done_is : (r : Setup) (f : Func) (ts : List m.Task) (a : Step) → ts ≡ [] → finishes r f ts a ≡ a
done_is r f ts a e = ap (λ us. finishes r f us a) e

leads_ending : (r : Setup) (c : Conf) (goal : Step) → LeadsTo r c goal → ending r c ≡ goal
leads_ending r c goal h =
    let last = moves r h.count c in
    sym (moves_end r h.count c) ∙ done_is r last.func last.tasks last.step h.tasks ∙ h.step

same_world : (a : Step) → world_in a ≡ world_after a
same_world (goes frame w) = refl
same_world (jumps c frame w) = refl
same_world (leaves x kept w) = refl
same_world (ends o w) = refl

ended_world : (a : Step) → (ran_of a).world ≡ world_after a
ended_world (goes frame w) = refl
ended_world (jumps c frame w) = refl
ended_world (leaves x kept w) = refl
ended_world (ends o w) = refl

-- a run that goes right ends in no fault
right_moved : (r : Setup) (c : Conf) (goal : Step) → ending r c ≡ goal → is_fault (ran_of goal).outcome ≡ false → IsRight (after_move r c).step
right_moved r c goal e right o w is = subst (λ a. is_fault (ran_of a).outcome ≡ false) (sym e ∙ ends_there r c o w is) right

-- the fuel of what is shown
shown_fuel : (items : _) (r : Run) (f : Func) (x : At) (a : Step) → ShowsStep items r f x a → (world_after a).fuel ≡ r.fuel
shown_fuel items r f GoesOn (goes frame w) h = h.fuel
shown_fuel items r f GoesOn (jumps c frame w) h = absurd h
shown_fuel items r f GoesOn (leaves b kept w) h = absurd h
shown_fuel items r f GoesOn (ends o w) h = absurd h
shown_fuel items r f (Jumps k) (goes frame w) h = absurd h
shown_fuel items r f (Jumps k) (jumps c frame w) h = h.runs.fuel
shown_fuel items r f (Jumps k) (leaves b kept w) h = absurd h
shown_fuel items r f (Jumps k) (ends o w) h = absurd h
shown_fuel items r f Leaves (goes frame w) h = absurd h
shown_fuel items r f Leaves (jumps c frame w) h = absurd h
shown_fuel items r f Leaves (leaves b kept w) h = h.fuel
shown_fuel items r f Leaves (ends o w) h = absurd h

-- ---- the loop

module _ (rules : Rules) (goal : Step) (w0 : World) (a b c : Outside) (old new : Run) (running : IsRunning rules goal w0 a b old) where
  to_goal : ending (setup_in rules old) running.conf ≡ goal
  to_goal = leads_ending (setup_in rules old) running.conf goal running.leads

  fine : IsFine (setup_in rules old) running.conf
  fine = record {
    right = right_moved (setup_in rules old) running.conf goal to_goal running.right;
    fits = fits_there (setup_in rules old) running.conf running.under_way running.deep;
    own = own_there (setup_in rules old) running.conf running.under_way running.own;
    knows = knows_there (setup_in rules old) running.conf running.under_way;
  }

  pub can_move : CanMove rules old
  can_move = record { room = running.room; has_own = running.own; conf = running.conf; shown = running.shown; fine = fine }

  -- some task is left
  some_task : (t : Task) (ts : List Task) → tasks_left old ≡ t ∷ ts → (us : List m.Task) → running.conf.tasks ≡ us → (P : Type 0) → ((u : m.Task) (vs : List m.Task) → running.conf.tasks ≡ u ∷ vs → P) → P
  some_task t ts is [] e P h =
      let n = as_many running.shown.items old.values old.values.base old.depth (tasks_left old) running.conf.tasks running.shown.shown in
      let k = ap length is in
      let l = ap length e in
      absurd (omega (arith, n, k, l))
  some_task t ts is (u ∷ vs) e P h = h u vs e

  leads_next : (u : m.Task) (vs : List m.Task) → running.conf.tasks ≡ u ∷ vs → LeadsTo (setup_in rules old) (after_move (setup_in rules old) running.conf) goal
  leads_next u vs e = by running.leads.count running.leads.tasks running.leads.step
    where
      filled : (u : m.Task) (vs ts : List m.Task) → ts ≡ u ∷ vs → ts ≡ [] → ⊥
      filled u vs ts e none = let k = ap length e in let l = ap length none in omega (arith, k, l)

      by : (n : ℕ) → (moves (setup_in rules old) n running.conf).tasks ≡ [] → (moves (setup_in rules old) n running.conf).step ≡ goal → LeadsTo (setup_in rules old) (after_move (setup_in rules old) running.conf) goal
      by zero none is = absurd (filled u vs running.conf.tasks e none)
      by (suc n) none is = record { count = n; tasks = none; step = is }

  pub record GoesOnSo : Type 0 where
    pub goes : IsRunning rules goal w0 a c new
    pub falls : measure (program_of rules.program.now) rules.depth new.fuel (tasks_left new) < measure (program_of rules.program.now) rules.depth old.fuel (tasks_left old)

  -- a step that went on
  gone : (x : Step) → IsRight x → CameTo (world_in running.conf.step) b c None new (after_move (setup_in rules old) running.conf) x → GoneOn (world_in running.conf.step) b c new (after_move (setup_in rules old) running.conf) (world_in x)
  gone (ends o w) right h = absurd (false≢true (sym (right o w refl) ∙ h))
  gone (goes frame w) right h = h
  gone (jumps k frame w) right h = h
  gone (leaves x kept w) right h = h

  weight_of : (r : Run) (d : Conf) → ShowsConf r d → r.fuel * (most_left (program_of rules.program.now) rules.depth + 1) + tasks_weight (tasks_left r) ≡ fuel_in d * (most_left (program_of rules.program.now) rules.depth + 1) + weight d.tasks
  weight_of r d q =
      let x = weighs q.items r.values r.values.base r.depth (tasks_left r) d.tasks q.shown in
      let y = shown_fuel q.items r d.func r.at d.step q.step in
      ap (λ n. n * (most_left (program_of rules.program.now) rules.depth + 1) + tasks_weight (tasks_left r)) (sym y) ∙ ap (λ n. fuel_in d * (most_left (program_of rules.program.now) rules.depth + 1) + n) x

  goes_so : (u : m.Task) (vs : List m.Task) → running.conf.tasks ≡ u ∷ vs → Keeps old new → GoneOn (world_in running.conf.step) b c new (after_move (setup_in rules old) running.conf) (world_in (after_move (setup_in rules old) running.conf).step) → GoesOnSo
  goes_so u vs e keeps h =
      let s = setup_in rules old in
      let next = after_move s running.conf in
      let same : setup_in rules new ≡ s = ap (setup_of rules) keeps.size.heap in
      let way = way_on s running.conf running.under_way in
      let fall = moved_falls s running.conf u vs e (suffices s next (suffices s running.conf fine.fits).next).tasks (small_there s next way running.own) in
      record {
        goes = record {
          own = running.own;
          deep = running.deep;
          room = room_kept (program_of rules.program.now) rules.depth old new running.room keeps;
          conf = next;
          shown = h.shown;
          under_way = subst (λ t. IsUnderWay t next) (sym same) way;
          leads = subst (λ t. LeadsTo t next goal) (sym same) (leads_next u vs e);
          right = running.right;
          wrote = writing.wrote_both line_of w0.events (world_in running.conf.step).events (world_in next.step).events a b c running.wrote h.wrote;
        };
        falls = let x = weight_of new next h.shown in let y = weight_of old running.conf running.shown in omega (arith, x, y, fall);
      }

  pub goes_on : Moves (tasks_left old) rules old new b c None → GoesOnSo
  goes_on h = by (tasks_left old) refl h
    where
      by : (ts : List Task) → tasks_left old ≡ ts → Moves ts rules old new b c None → GoesOnSo
      by [] is h = absurd (none-some Done h.done)
      by (t ∷ ts) is h = some_task t ts is running.conf.tasks refl GoesOnSo (λ u vs e.
          goes_so u vs e h.keeps (gone (after_move (setup_in rules old) running.conf).step fine.right (h.comes running.conf (subst (λ l. ShowsWith l old running.conf) is running.shown) fine)))

  -- ---- its end

  goal_world : world_after goal ≡ (ran_of goal).world
  goal_world = sym (ended_world goal)

  abbrev EndsSo : Stop → Type 0
  EndsSo stop = HasHalted goal w0 a c stop new ⊎ IsCut w0 a c stop (ran_of goal).world

  cut_so : (stop : Stop) (v : World) → IsCut (world_in running.conf.step) b c stop v → Adds v (ran_of goal).world → EndsSo stop
  cut_so stop v k more = inr (writing.cut_both line_of SinkFault w0.events (world_in running.conf.step).events v.events (ran_of goal).world.events more.events a b c stop running.wrote k more.are)

  from_next : (x : Step) → (after_move (setup_in rules old) running.conf).step ≡ x → Adds (world_in x) (ran_of goal).world
  from_next x is =
      let s = setup_in rules old in
      let next = after_move s running.conf in
      let adds = ending_adds s next in
      let there : world_after (ending s next) ≡ (ran_of goal).world = ap world_after (moved_end s running.conf ∙ to_goal) ∙ goal_world in
      let here : world_after next.step ≡ world_in x = ap world_after is ∙ sym (same_world x) in
      subst (λ w. Adds w (ran_of goal).world) here (subst (Adds (world_after next.step)) there adds)

  stops_so : (stop : Stop) (x : Step) → (after_move (setup_in rules old) running.conf).step ≡ x → CameTo (world_in running.conf.step) b c (Some stop) new (after_move (setup_in rules old) running.conf) x → EndsSo stop
  stops_so stop (goes frame w) is h = cut_so stop w h (from_next (goes frame w) is)
  stops_so stop (jumps k frame w) is h = cut_so stop w h (from_next (jumps k frame w) is)
  stops_so stop (leaves x kept w) is h = cut_so stop w h (from_next (leaves x kept w) is)
  stops_so stop (ends o w) is h =
      ⊎_elim
      (λ f. absurd (false≢true (sym (fine.right o w is) ∙ f)))
      (λ k. ⊎_elim
      (λ (e : HasStopped (world_in running.conf.step) b c new.fuel stop o w). inl (record {
        outcome = o;
        world = w;
        is = sym (ends_there (setup_in rules old) running.conf o w is) ∙ to_goal;
        stopped = record {
          outcome = e.outcome;
          fuel = e.fuel;
          wrote = writing.wrote_both line_of w0.events (world_in running.conf.step).events w.events a b c running.wrote e.wrote;
        };
      }))
      (λ k. cut_so stop w k (from_next (ends o w) is))
      k)
      h

  -- while something is left to do
  pub ends_so : (stop : Stop) → (tasks_left old ≡ [] → ⊥) → Moves (tasks_left old) rules old new b c (Some stop) → EndsSo stop
  ends_so stop some h = by (tasks_left old) refl h
    where
      by : (ts : List Task) → tasks_left old ≡ ts → Moves ts rules old new b c (Some stop) → EndsSo stop
      by [] is h = absurd (some is)
      by (t ∷ ts) is h = stops_so stop (after_move (setup_in rules old) running.conf).step refl (h.comes running.conf (subst (λ l. ShowsWith l old running.conf) is running.shown) fine)

-- the heap stays as large as it was
pub same_heap : (rules : Rules) (b c : Outside) (old new : Run) (o : Option Stop) → (tasks_left old ≡ [] → ⊥) → Moves (tasks_left old) rules old new b c o → heap_of new.heap ≡ heap_of old.heap
same_heap rules b c old new o some h = by (tasks_left old) refl h
  where
    by : (ts : List Task) → tasks_left old ≡ ts → Moves ts rules old new b c o → heap_of new.heap ≡ heap_of old.heap
    by [] is h = absurd (some is)
    by (t ∷ ts) is h = h.keeps.size.heap

pub some_left : (r : Run) → 0 < length r.tasks.items → tasks_left r ≡ [] → ⊥
some_left r some none = let l = length-reverse r.tasks.items in let k = ap length none in omega (arith, l, k, some)

pub none_left : (r : Run) → length r.tasks.items ≤ 0 → tasks_left r ≡ []
none_left r none = nil_from_length (tasks_left r) (let l = length-reverse r.tasks.items in omega (arith, l, none))

-- with nothing left to do
pub come_so : (rules : Rules) (goal : Step) (w0 : World) (a b : Outside) (old : Run) → IsRunning rules goal w0 a b old → tasks_left old ≡ [] → HasCome rules goal w0 a b old
come_so rules goal w0 a b old running none = record {
  room = running.room;
  none_left = let l = length-reverse old.tasks.items in let k = ap length none in omega (arith, l, k);
  items = running.shown.items;
  holds = running.shown.holds;
  func = running.conf.func;
  step = subst (ShowsStep running.shown.items old running.conf.func old.at) is running.shown.step;
  right = running.right;
  wrote = subst (λ x. Wrote w0 (world_in x) a b) is running.wrote;
}
  where
    empty : (us : List m.Task) → running.conf.tasks ≡ us → running.conf.tasks ≡ []
    empty [] e = e
    empty (u ∷ us) e =
        let n = as_many running.shown.items old.values old.values.base old.depth (tasks_left old) running.conf.tasks running.shown.shown in
        let k = ap length none in
        let l = ap length e in
        absurd (omega (arith, n, k, l))

    is : running.conf.step ≡ goal
    is =
        sym (done_is (setup_in rules old) running.conf.func running.conf.tasks running.conf.step (empty running.conf.tasks refl)) ∙
        leads_ending (setup_in rules old) running.conf goal running.leads

-- ---- its outcome

-- where nothing is left to do the function was left
came_finished : (rules : Rules) (goal : Step) (w0 : World) (a b : Outside) (r : Run) → HasCome rules goal w0 a b r → IsFinished (ran_of goal) w0 a b Done r
came_finished rules goal w0 a b r h = by goal h.step h.right h.wrote
  where
    by : (x : Step) → ShowsStep h.items r h.func r.at x → is_fault (ran_of x).outcome ≡ false → Wrote w0 (world_in x) a b → IsFinished (ran_of x) w0 a b Done r
    by (goes frame w) q right wrote = absurd (false≢true (sym right))
    by (jumps k frame w) q right wrote = absurd (false≢true (sym right))
    by (ends o w) q right wrote = absurd (not_ended h.items r h.func r.at o w q)
    by (leaves x kept w) q right wrote = inl (record { outcome = refl; fuel = shown_fuel h.items r h.func r.at (leaves x kept w) q; wrote = wrote })

halted_finished : (goal : Step) (w0 : World) (a b : Outside) (stop : Stop) (r : Run) → HasHalted goal w0 a b stop r → IsFinished (ran_of goal) w0 a b stop r
halted_finished goal w0 a b stop r h = subst (λ x. IsFinished (ran_of x) w0 a b stop r) h.is (inl h.stopped)

pub finished : (rules : Rules) (goal : Step) (w0 : World) (a b : Outside) (o : Option Stop) (r : Run) → ComesOrEnds rules goal w0 a b o r → IsFinished (ran_of goal) w0 a b (or_done o) r
finished rules goal w0 a b None r h = came_finished rules goal w0 a b r h
finished rules goal w0 a b (Some stop) r h = ⊎_elim (halted_finished goal w0 a b stop r) inr h
