-- What a call writes, and how it ends.
use Rattle.std.proofs.Common.{◌≡◌, ◌⊎◌, inl, inr, ℕ, ◌<◌, ◌≤◌, ◌+◌, ◌-◌, ◌*◌, ◌==◌, nat_lt, Bool, true, false, if◌then◌else◌, List, [], ◌++◌, length, Option, Some, None, Result, Ok, Err, refl, sym, ap, ◌∙◌, subst, arith, append_assoc, append-nil}
use Rattle.std.specs.Prelude.{IfSome}
use Rattle.std.specs.Vec.{vec_capacity}
use Rattle.std.proofs.lemmas.Bool.{false≢true}
use Rattle.std.proofs.lemmas.Bool.Decides.{nat_tests}
use Rattle.std.proofs.lemmas.Option.{none-some}
use Rattle.vlt_io.specs.Outside.{Rose, Grew, GrewByPart}
use Rattle.vlt_core.specs.View.{program_of}
use Rattle.vlt_core.specs.Core.{Func}
use Rattle.vlt_core.specs.Widths.{greatest}
use Rattle.vlt_heap.specs.Items.{Items}
use Rattle.vlt_heap.specs.declared.heap.Heap.{Heap}
use Rattle.vlt_heap.specs.Shown.{heap_of}
use Rattle.vlt_meaning.specs.World.{event_text, Value, World, Outcome, fuel_end, depth_end, fault, no_return, is_fault}
use Rattle.vlt_meaning.specs.Step.{Step, goes, jumps, leaves, ends, with_objects}
use Rattle.vlt_meaning.specs.Run.{Setup, ran_of}
use Rattle.vlt_acts.specs.Hosts.Stops.{outcome_of, Wrote, IsCut}
use Rattle.vlt_steps.specs.declared.stop.Stop.{Stop}
use Rattle.vlt_steps.specs.declared.stop.Stop.TheVariants.{FuelEnd, DepthEnd, SinkFault}
use Rattle.vlt_steps.specs.Writing.{Outside}
use Rattle.vlt_steps.specs.Stops.{IsTold}
use Rattle.vlt_steps.proofs.Writing.{grew_nothing, grew_both, rose_more}
use Rattle.vlt_interp.specs.declared.tasks.task.At.{At}
use Rattle.vlt_interp.specs.declared.tasks.task.At.TheVariants.{Goes as GoesOn, Jumps, Leaves}
use Rattle.vlt_interp.specs.declared.tasks.task.Run.{Run}
use Rattle.vlt_interp.specs.Tasks.Shown.{WasLeft, ShowsStep}
use Rattle.vlt_interp.specs.Tasks.Moves.{world_in}
use Rattle.vlt_interp.specs.Running.{HasCome, HasHalted}
use Rattle.vlt_interp.specs.Tasks.Sizes.{line_length}
use Rattle.vlt_interp.proofs.OfTasks.Sizes.{greatest_at}
use Rattle.vlt_interp.proofs.Fronts.{not_ended}
use Rattle.vlt_host_acts.specs.declared.values.HostValue.{HostValue}
use Rattle.vlt_host_meaning.specs.Calls.{Argument}
use Rattle.vlt_host_meaning.specs.Lines.{call_line, result_line}
use Rattle.vlt_host_meaning.specs.OneCall.{CallEnd, came_back, stopped, end_of_body, body_does, world_inside, held_by_host, spent, host_calls}
use Rattle.vlt_host_acts.specs.declared.permits.held.Held.{Held}
use Rattle.vlt_host.specs.declared.machine.called.Supply.{Supply}
use Rattle.vlt_host.specs.declared.machine.calling.Calling.{Calling}
use Rattle.vlt_host.specs.declared.machine.tables.Tables.{Tables}
use Rattle.vlt_host.specs.Machine.Called.{HasEnded, EndsIn}
use Rattle.vlt_host.specs.Machine.Calling.{setup_for, func_in, args_in, rules_for, IsOfProgram, CanMake, ShowsNow, HasLeftBody}
use Rattle.vlt_host.specs.Machine.Made.{HasAnnounced, Made}
use Rattle.vlt_host.specs.Machine.Settled.{Settles}

-- ---- texts

abbrev text_of : CallEnd → List ℕ
text_of (came_back text a w) = text
text_of (stopped text o w) = text

-- a part of the beginning is a part of the beginning of more
part_more : (a b : Option (List ℕ)) (x y : List ℕ) → GrewByPart a b x → GrewByPart a b (x ++ y)
part_more a b x y h = (h.0, h.1 ++ y, ap (λ l. l ++ y) h.2 ∙ append_assoc h.0 h.1 y, h.3)

-- a whole text, then a part of another
part_after : (a b c : Option (List ℕ)) (x y : List ℕ) → Grew a b x → GrewByPart b c y → GrewByPart a c (x ++ y)
part_after a b c x y first h = (x ++ h.0, h.1, ap (λ l. x ++ l) h.2 ∙ sym (append_assoc x h.0 h.1), grew_both a b c x h.0 first h.3)

-- the sink failed within the text
fault_so : (e : CallEnd) (before after : Outside) (left : ℕ) → GrewByPart before.written after.written (text_of e) → Rose before.faults after.faults → before.faults ≤ after.faults → EndsIn e before after left SinkFault
fault_so (came_back text a w) before after left part rose counted = record { outcome = tt; told = part; fuel = tt; cause = λ e. rose; counted = counted }
fault_so (stopped text o w) before after left part rose counted = record { outcome = tt; told = part; fuel = tt; cause = λ e. rose; counted = counted }

faulted : (e : CallEnd) (before after : Outside) (left : ℕ) (stop : Stop) → stop ≡ SinkFault → GrewByPart before.written after.written (text_of e) → Rose before.faults after.faults → before.faults ≤ after.faults → EndsIn e before after left stop
faulted e before after left stop is part rose counted = subst (EndsIn e before after left) (sym is) (fault_so e before after left part rose counted)

-- a stop with an outcome
ended_so : (text : List ℕ) (o : Outcome) (rest : ℕ) (before after : Outside) (left : ℕ) (stop : Stop) → outcome_of stop ≡ Some o → Grew before.written after.written text → left ≡ rest → before.faults ≤ after.faults →
    HasEnded text (Some o) rest before after left stop
ended_so text o rest before after left stop is grew fuel counted = record {
  outcome = subst (λ x. IfSome x (λ p. Some o ≡ Some p)) (sym is) refl;
  told = subst (λ x. IsTold x text before.written after.written) (sym is) grew;
  fuel = subst (λ x. IfSome x (λ p. left ≡ rest)) (sym is) fuel;
  cause = λ e. absurd (none-some o (sym (ap outcome_of e) ∙ is));
  counted = counted;
}

-- ---- before the body

-- the line has room
pub line_room : (c : Calling) (n cap : ℕ) → IsOfProgram c → n ≡ length (func_in c).name → greatest line_length (program_of c.program.now).fns ≤ cap → n + length c.args.now * 42 + 2 ≤ cap
line_room c n cap of is all =
    let l = greatest_at line_length (program_of c.program.now).fns of.number (func_in c) of.at in
    let k = of.few in
    omega (arith, l, k, is, all)

module _ (r : Setup) (f : Func) (args : List Argument) (w : World) where
  pub no_fuel : w.fuel ≡ 0 → host_calls r f args w ≡ stopped [] fuel_end w
  unfolding host_calls
  no_fuel e =
      let t : (w.fuel == 0) ≡ true = grind (arith, nat_tests, e) in
      ap (λ b. if b then stopped [] fuel_end w else if nat_lt 0 r.depth then end_of_body (call_line f.name args) (body_does r f args (spent w)) else stopped (call_line f.name args) depth_end (spent w)) t

  pub no_depth : 0 < w.fuel → r.depth ≡ 0 → host_calls r f args w ≡ stopped (call_line f.name args) depth_end (spent w)
  unfolding host_calls
  no_depth some e =
      let t : (w.fuel == 0) ≡ false = grind (arith, nat_tests, some) in
      let d : nat_lt 0 r.depth ≡ false = grind (arith, nat_tests, e) in
      ap (λ b. if b then stopped [] fuel_end w else if nat_lt 0 r.depth then end_of_body (call_line f.name args) (body_does r f args (spent w)) else stopped (call_line f.name args) depth_end (spent w)) t ∙
      ap (λ b. if b then end_of_body (call_line f.name args) (body_does r f args (spent w)) else stopped (call_line f.name args) depth_end (spent w)) d

  pub body_made : 0 < w.fuel → 0 < r.depth → host_calls r f args w ≡ end_of_body (call_line f.name args) (body_does r f args (spent w))
  unfolding host_calls
  body_made some deep =
      let t : (w.fuel == 0) ≡ false = grind (arith, nat_tests, some) in
      let d : nat_lt 0 r.depth ≡ true = grind (arith, nat_tests, deep) in
      ap (λ b. if b then stopped [] fuel_end w else if nat_lt 0 r.depth then end_of_body (call_line f.name args) (body_does r f args (spent w)) else stopped (call_line f.name args) depth_end (spent w)) t ∙
      ap (λ b. if b then end_of_body (call_line f.name args) (body_does r f args (spent w)) else stopped (call_line f.name args) depth_end (spent w)) d

-- the text of a body's end begins with the line
module _ (line : List ℕ) where
  pub body_text : (x : Step) → (rest : List ℕ) × (text_of (end_of_body line x) ≡ line ++ rest)
  unfolding end_of_body
  body_text (leaves a kept w) = (event_text w.events ++ result_line a, append_assoc line (event_text w.events) (result_line a))
  body_text (ends o w) = (event_text w.events, refl)
  body_text (goes frame w) = (event_text w.events, refl)
  body_text (jumps k frame w) = (event_text w.events, refl)

module _ (c : Calling) (w : World) where
  abbrev r : Setup
  r = setup_for c

  abbrev e : CallEnd
  e = host_calls (setup_for c) (func_in c) (args_in c) w

  abbrev line : List ℕ
  line = call_line (func_in c).name (args_in c)

  -- the text of a call for which there is fuel begins with its line
  call_text : 0 < w.fuel → (rest : List ℕ) × (text_of e ≡ line ++ rest)
  call_text some = by (nat_lt 0 r.depth) refl
    where
      by : (b : Bool) → nat_lt 0 r.depth ≡ b → (rest : List ℕ) × (text_of e ≡ line ++ rest)
      by true t =
          let deep : 0 < r.depth = grind (arith, nat_tests, t) in
          let q = body_text line (body_does r (func_in c) (args_in c) (spent w)) in
          (q.0, ap text_of (body_made r (func_in c) (args_in c) w some deep) ∙ q.1)
      by false t =
          let none : r.depth ≡ 0 = grind (arith, nat_tests, t) in
          ([], ap text_of (no_depth r (func_in c) (args_in c) w some none) ∙ sym (append-nil line))

  pub ends_without_fuel : (b : Outside) (left : ℕ) → left ≡ w.fuel → w.fuel ≡ 0 → EndsIn e b b left FuelEnd
  ends_without_fuel b left is none =
      subst (λ x. EndsIn x b b left FuelEnd) (sym (no_fuel r (func_in c) (args_in c) w none))
      (ended_so [] fuel_end w.fuel b b left FuelEnd refl (grew_nothing b.written) is (omega arith))

  pub ends_at_line : (before after : Outside) (left : ℕ) → 0 < w.fuel → GrewByPart before.written after.written line → Rose before.faults after.faults → before.faults ≤ after.faults → EndsIn e before after left SinkFault
  ends_at_line before after left some part rose counted =
      let q = call_text some in
      fault_so e before after left (subst (GrewByPart before.written after.written) (sym q.1) (part_more before.written after.written line q.0 part)) rose counted

  pub ends_without_depth : (before after : Outside) (left : ℕ) → 0 < w.fuel → c.budgets.depth ≡ 0 → left ≡ w.fuel - 1 → Grew before.written after.written line → before.faults ≤ after.faults → EndsIn e before after left DepthEnd
  ends_without_depth before after left some none is grew counted =
      subst (λ x. EndsIn x before after left DepthEnd) (sym (no_depth r (func_in c) (args_in c) w some none))
      (ended_so line depth_end (w.fuel - 1) before after left DepthEnd refl grew is counted)

-- ---- the body

-- its events are all that the world has
its_events : (v : World) (before after : Outside) (w : World) → w.events ≡ [] → Wrote w v before after → Grew before.written after.written (event_text v.events)
its_events v before after w none h =
    subst (λ es. Grew before.written after.written (event_text es)) (sym (h.added ∙ ap (λ l. l ++ h.events) none)) h.grew

cut_events : (v : World) (before after : Outside) (stop : Stop) (w : World) → w.events ≡ [] → IsCut w before after stop v → GrewByPart before.written after.written (event_text v.events)
cut_events v before after stop w none h =
    subst (λ es. GrewByPart before.written after.written (event_text es)) (sym (h.added ∙ ap (λ l. l ++ h.events) none)) h.grew

-- the text after the line begins with the events
events_first : (x : Step) → (rest : List ℕ) × (text_of (end_of_body [] x) ≡ event_text (ran_of x).world.events ++ rest)
unfolding end_of_body
events_first (leaves a kept w) = (result_line a, refl)
events_first (ends o w) = ([], sym (append-nil (event_text w.events)))
events_first (goes frame w) = ([], sym (append-nil (event_text w.events)))
events_first (jumps k frame w) = ([], sym (append-nil (event_text w.events)))

body_ends : (o : Outcome) (v : World) → end_of_body [] (ends o v) ≡ stopped (event_text v.events) o v
unfolding end_of_body
body_ends o v = refl

pub body_leaves : (line : List ℕ) (a : Option Value) (kept : List ℕ) (v : World) →
    end_of_body line (leaves a kept v) ≡ came_back (line ++ event_text v.events ++ result_line a) a (with_objects v (held_by_host kept v.objects))
unfolding end_of_body
body_leaves line a kept v = refl

-- the run stopped within the body
pub body_stopped : (goal : Step) (w : World) (before after : Outside) (stop : Stop) (run : Run) → w.events ≡ [] →
    HasHalted goal w before after stop run ⊎ IsCut w before after stop (ran_of goal).world → EndsIn (end_of_body [] goal) before after run.fuel stop
body_stopped goal w before after stop run none (inl h) =
    subst (λ x. EndsIn (end_of_body [] x) before after run.fuel stop) h.is
    (subst (λ x. EndsIn x before after run.fuel stop) (sym (body_ends h.outcome h.world))
    (ended_so (event_text h.world.events) h.outcome h.world.fuel before after run.fuel stop h.stopped.outcome (its_events h.world before after w none h.stopped.wrote) (sym h.stopped.fuel) h.stopped.wrote.counted))
body_stopped goal w before after stop run none (inr h) =
    let q = events_first goal in
    faulted (end_of_body [] goal) before after run.fuel stop h.fault
    (subst (GrewByPart before.written after.written) (sym q.1) (part_more before.written after.written (event_text (ran_of goal).world.events) q.0 (cut_events (ran_of goal).world before after stop w none h)))
    h.rose h.counted

-- ---- the line, then the body

told_more : (o : Option Outcome) (line text : List ℕ) (a b c : Option (List ℕ)) → Grew a b line → IsTold o text b c → IsTold o (line ++ text) a c
told_more None line text a b c grew h = part_after a b c line text grew h
told_more (Some o) line text a b c grew h = grew_both a b c line text grew h

more_ended : (line text : List ℕ) (o : Option Outcome) (rest : ℕ) (before mid after : Outside) (left : ℕ) (stop : Stop) → Grew before.written mid.written line → before.faults ≤ mid.faults →
    HasEnded text o rest mid after left stop → HasEnded (line ++ text) o rest before after left stop
more_ended line text o rest before mid after left stop grew counted h = record {
  outcome = h.outcome;
  told = told_more (outcome_of stop) line text before.written mid.written after.written grew h.told;
  fuel = h.fuel;
  cause = λ e. rose_more before.faults mid.faults after.faults counted (h.cause e);
  counted = omega (arith, counted, h.counted);
}

-- the same end with a line before it
pub line_before : (c : Calling) (line : List ℕ) (x : Step) (before mid after : Outside) (fuel : ℕ) (s : Supply) (q : Result (Tables × Option HostValue) Stop) →
    Grew before.written mid.written line → before.faults ≤ mid.faults → Made c (end_of_body [] x) mid after fuel s q → Made c (end_of_body line x) before after fuel s q
unfolding end_of_body
line_before c line (leaves a kept w) before mid after fuel s (Ok q) grew counted h = record {
  wrote = subst (Grew before.written after.written) (sym (append_assoc line (event_text w.events) (result_line a))) (grew_both before.written mid.written after.written line (event_text w.events ++ result_line a) grew h.wrote);
  counted = omega (arith, counted, h.counted);
  value = h.value;
  ready = h.ready;
  shows = h.shows;
}
line_before c line (ends o w) before mid after fuel s (Ok q) grew counted h = absurd h
line_before c line (goes frame w) before mid after fuel s (Ok q) grew counted h = absurd h
line_before c line (jumps k frame w) before mid after fuel s (Ok q) grew counted h = absurd h
line_before c line (leaves a kept w) before mid after fuel s (Err stop) grew counted h =
    subst (λ t. HasEnded t None w.fuel before after fuel stop) (sym (append_assoc line (event_text w.events) (result_line a)))
    (more_ended line (event_text w.events ++ result_line a) None w.fuel before mid after fuel stop grew counted h)
line_before c line (ends o w) before mid after fuel s (Err stop) grew counted h = more_ended line (event_text w.events) (Some o) w.fuel before mid after fuel stop grew counted h
line_before c line (goes frame w) before mid after fuel s (Err stop) grew counted h = more_ended line (event_text w.events) (Some (fault no_return None)) w.fuel before mid after fuel stop grew counted h
line_before c line (jumps k frame w) before mid after fuel s (Err stop) grew counted h = more_ended line (event_text w.events) (Some (fault no_return None)) w.fuel before mid after fuel stop grew counted h

-- ---- back from the body

-- where nothing is left to do the function was left
pub record IsLeaving (goal : Step) (w : World) (before after : Outside) (run : Run) (items : Items) (g : Func) : Type 0 where
  pub value : Option Value
  pub kept : List ℕ
  pub world : World
  pub is : goal ≡ leaves value kept world
  pub left : WasLeft items run g value kept world
  pub wrote : Wrote w world before after

pub leaving : (c : Calling) (goal : Step) (w : World) (before after : Outside) (run : Run) → (h : HasCome (rules_for c) goal w before after run) → IsLeaving goal w before after run h.items h.func
leaving c goal w before after run h = by goal refl h.step h.right h.wrote
  where
    of_leaves : (x : At) (a : Option Value) (kept : List ℕ) (v : World) → ShowsStep h.items run h.func x (leaves a kept v) → WasLeft h.items run h.func a kept v
    of_leaves GoesOn a kept v q = absurd q
    of_leaves (Jumps k) a kept v q = absurd q
    of_leaves Leaves a kept v q = q

    by : (x : Step) → goal ≡ x → ShowsStep h.items run h.func run.at x → is_fault (ran_of x).outcome ≡ false → Wrote w (world_in x) before after → IsLeaving goal w before after run h.items h.func
    by (goes frame v) is q right wrote = absurd (false≢true (sym right))
    by (jumps k frame v) is q right wrote = absurd (false≢true (sym right))
    by (ends o v) is q right wrote = absurd (not_ended h.items run h.func run.at o v q)
    by (leaves a kept v) is q right wrote = record { value = a; kept = kept; world = v; is = is; left = of_leaves run.at a kept v q; wrote = wrote }

module _ (c : Calling) (t : Tables) (can : CanMake c t) (deep : 1 ≤ c.budgets.depth) (fuel : ℕ) (s : Supply) (w : World) (some : 0 < w.fuel) (q : ShowsNow c t.start.heap t.held t.start.values.width fuel s (spent w))
    (before mid : Outside) (run : Run) (heap : heap_of run.heap ≡ c.budgets.heap)
    (come : HasCome (rules_for c) (body_does (setup_for c) (func_in c) (args_in c) (spent w)) (world_inside (func_in c) (args_in c) (spent w)) before mid run) where
  abbrev at : IsLeaving (body_does (setup_for c) (func_in c) (args_in c) (spent w)) (world_inside (func_in c) (args_in c) (spent w)) before mid run come.items come.func
  at = leaving c (body_does (setup_for c) (func_in c) (args_in c) (spent w)) (world_inside (func_in c) (args_in c) (spent w)) before mid run come

  abbrev pub left_body : HasLeftBody c t.held run w
  left_body = record {
    callable = can.begin.callable;
    allowed = can.begin.allowed w.objects q.objects;
    left_by = q.objects.left;
    some_fuel = some;
    some_depth = omega (arith, deep);
    numbers = q.objects.shows.numbers;
    sound = can.begin.sound;
    held_room = can.held_room;
    room = come.room;
    none_left = come.none_left;
    budget = heap;
    value = at.value;
    kept = at.kept;
    after = at.world;
    is = at.is;
    items = come.items;
    holds = come.holds;
    of = come.func;
    left = at.left;
  }

  -- the events, then the line of the result
  pub settled_made : (after : Outside) (x : Result (Tables × Option HostValue) Stop) → Settles c t.held run w left_body mid after x →
      Made c (end_of_body [] (body_does (setup_for c) (func_in c) (args_in c) (spent w))) before after run.fuel (record { input = run.host.input; answers = run.host.answers; taken = run.host.taken }) x
  settled_made after x h =
      subst (λ y. Made c (end_of_body [] y) before after run.fuel (record { input = run.host.input; answers = run.host.answers; taken = run.host.taken }) x) (sym at.is)
      (subst (λ y. Made c y before after run.fuel (record { input = run.host.input; answers = run.host.answers; taken = run.host.taken }) x) (sym (body_leaves [] at.value at.kept at.world)) (by x h))
    where
      grew : Grew before.written mid.written (event_text at.world.events)
      grew = its_events at.world before mid (world_inside (func_in c) (args_in c) (spent w)) refl at.wrote

      by : (x : Result (Tables × Option HostValue) Stop) → Settles c t.held run w left_body mid after x →
          Made c (came_back (event_text at.world.events ++ result_line at.value) at.value (with_objects at.world (held_by_host at.kept at.world.objects))) before after run.fuel (record { input = run.host.input; answers = run.host.answers; taken = run.host.taken }) x
      by (Ok y) h = record {
        wrote = grew_both before.written mid.written after.written (event_text at.world.events) (result_line at.value) grew h.wrote;
        counted = let k = at.wrote.counted in omega (arith, k, h.counted);
        value = h.value;
        ready = h.ready;
        shows = record {
          objects = h.shows;
          fuel = at.left.fuel;
          input = at.left.hosts.input;
          answers = at.left.hosts.answers;
          taken = at.left.hosts.taken;
        };
      }
      by (Err stop) h =
          let k = at.wrote.counted in
          faulted (came_back (event_text at.world.events ++ result_line at.value) at.value (with_objects at.world (held_by_host at.kept at.world.objects))) before after run.fuel stop h.fault
          (part_after before.written mid.written after.written (event_text at.world.events) (result_line at.value) grew h.grew)
          (rose_more before.faults mid.faults after.faults k h.rose) (omega (arith, k, h.counted))

-- ---- the whole call

-- with a line of more room
pub can_still : (c : Calling) (t u : Tables) → CanMake c t → u ≡ record t { start = record t.start { line = u.start.line } } → vec_capacity t.start.line ≤ vec_capacity u.start.line → CanMake c u
can_still c t u can is more = subst (CanMake c) (sym is) (record {
  begin = record {
    callable = can.begin.callable;
    room = record {
      wide = can.begin.room.wide;
      sound = can.begin.room.sound;
      budget = can.begin.room.budget;
      cells = can.begin.room.cells;
      table = can.begin.room.table;
      no_values = can.begin.room.no_values;
      values = can.begin.room.values;
      no_tasks = can.begin.room.no_tasks;
      tasks = can.begin.room.tasks;
      line = let l = can.begin.room.line in omega (arith, l, more);
    };
    sound = can.begin.sound;
    objects = can.begin.objects;
    shows = can.begin.shows;
    allowed = can.begin.allowed;
  };
  held_room = can.held_room;
  result_line = can.result_line;
})

-- a unit of fuel less is left
pub spent_now : (c : Calling) (heap : Heap) (held : Held) (width fuel left : ℕ) (s : Supply) (w : World) → ShowsNow c heap held width fuel s w → left ≡ fuel - 1 → ShowsNow c heap held width left s (spent w)
spent_now c heap held width fuel left s w q is = record {
  objects = q.objects;
  fuel = ap (λ n. n - 1) q.fuel ∙ sym is;
  input = q.input;
  answers = q.answers;
  taken = q.taken;
}

pub call_made : (c : Calling) (w : World) (before mid after : Outside) (fuel left last : ℕ) (s : Supply) (x : Result (Tables × Option HostValue) Stop) → w.fuel ≡ fuel → HasAnnounced c fuel before mid left →
    (0 < w.fuel → Made c (end_of_body [] (body_does (setup_for c) (func_in c) (args_in c) (spent w))) mid after last s x) →
    Made c (host_calls (setup_for c) (func_in c) (args_in c) w) before after last s x
call_made c w before mid after fuel left last s x is said made =
    let some : 0 < w.fuel = let k = said.some in omega (arith, is, k) in
    subst (λ e. Made c e before after last s x) (sym (body_made (setup_for c) (func_in c) (args_in c) w some (let d = said.deep in omega (arith, d))))
    (line_before c (call_line (func_in c).name (args_in c)) (body_does (setup_for c) (func_in c) (args_in c) (spent w)) before mid after last s x said.wrote said.counted (made some))
