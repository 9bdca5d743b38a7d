-- The start of a run.
use Rattle.std.proofs.Common.{◌≡◌, inl, ℕ, ◌≤◌, ◌+◌, ◌*◌, ◌==◌, true, false, if◌then◌else◌, ℤ, List, [], ◌∷◌, ◌++◌, Option, Some, None, refl, sym, ap, ◌∙◌, subst, arith, slice_get, reverse}
use Rattle.std.specs.Vec.{vec_capacity}
use Rattle.std.specs.Borrow.{Bor}
use Rattle.std.specs.Option.{option_map}
use Rattle.std.proofs.lemmas.Option.{none-some, slice_get-map}
use Rattle.std.proofs.lemmas.List.{nil_from_length}
use Rattle.std.proofs.lemmas.Bool.{false≢true}
use Rattle.std.proofs.lemmas.Bool.Decides.{nat_tests}
use Rattle.vlt_base.specs.declared.Budgets.{Budgets}
use Rattle.vlt_numbers.specs.declared.answers.Answers.{Answers}
use Rattle.vlt_numbers.specs.HostAnswers.{lists_of}
use Rattle.vlt_core.specs.declared.program.Program.{Program as CodeProgram}
use Rattle.vlt_core.specs.declared.program.Func.{Func as CodeFunc}
use Rattle.vlt_core.specs.declared.program.Stmt.{Stmt}
use Rattle.vlt_core.specs.View.{func_of, stmts_of, program_of}
use Rattle.vlt_core.specs.Core.{Program}
use Rattle.vlt_heap.specs.Items.{Items}
use Rattle.vlt_meaning.specs.World as model
use Rattle.vlt_meaning.specs.World.{line_of, is_fault}
use Rattle.vlt_meaning.specs.Step.{Step, ends}
use Rattle.vlt_meaning.specs.Run.{Setup, first_frame, start, ran_of, main_run, run}
use Rattle.vlt_meaning.specs.Does.{does}
use Rattle.vlt_meaning_laws.specs.Machine.Machine as m
use Rattle.vlt_meaning_laws.specs.Machine.Machine.{Conf, at, moves, first_conf}
use Rattle.vlt_meaning_laws.specs.Machine.Laws.{LeadsTo}
use Rattle.vlt_meaning_laws.proofs.OfMachine.Theorem.{machine_is_the_run}
use Rattle.vlt_acts.specs.declared.values.values.Values.{Values}
use Rattle.vlt_acts.specs.Values.Shown.{ShowsFrame}
use Rattle.vlt_acts.specs.Frames.Frames.{frame_end, IsRunning as HasFrame}
use Rattle.vlt_steps.specs.Writing.{Outside}
use Rattle.vlt_acts.specs.Hosts.Stops.{outcome_of}
use Rattle.vlt_steps.proofs.Ending.{finished_ends}
use Rattle.vlt_acts.proofs.OfHosts.Writing.{silent}
use Rattle.vlt_interp.specs.declared.rooms.start.Start.{Start}
use Rattle.vlt_interp.specs.Rooms.Start.{IsSet}
use Rattle.vlt_steps.specs.declared.stop.Stop.{Stop}
use Rattle.vlt_steps.specs.declared.stop.Stop.TheVariants.{DepthEnd, SinkFault}
use Rattle.vlt_interp.specs.declared.tasks.task.At.TheVariants.{Goes as GoesOn}
use Rattle.vlt_interp.specs.declared.tasks.task.Task.TheVariants.{List as Listed}
use Rattle.vlt_interp.specs.declared.tasks.task.Rules.{Rules}
use Rattle.vlt_interp.specs.declared.tasks.task.Run.{Run}
use Rattle.vlt_interp.specs.Tasks.Sizes.{frame_slots, IsWide}
use Rattle.vlt_interp.specs.Tasks.Shown.{setup_of, tasks_left, ShowsTasks, ShowsConf}
use Rattle.vlt_interp.specs.Tasks.Moves.{HasRoom}
use Rattle.vlt_meaning_laws.specs.Machine.Reached.{IsReached}
use Rattle.vlt_interp.specs.Reached.{IsRunnable}
use Rattle.vlt_interp.specs.Going.{setup_in}
use Rattle.vlt_interp.specs.Running.{start_of, goal_of, IsUnderWay, IsRunning, HasGoal, ComesOrEnds, or_done, IsFinished}
use Rattle.vlt_interp.specs.Start.{run_within, EndsAs}
use Rattle.vlt_acts.proofs.OfFrames.Like.{like_itself}
use Rattle.vlt_interp.proofs.Likeness.{of_itself}
use Rattle.vlt_interp.proofs.Fitting.{frame_fits}
use Rattle.vlt_interp.proofs.Running.{finished}

-- a program that never goes wrong has a first function
pub has_main : (p : Program) → IsRunnable p → slice_get p.fns p.main ≡ None → ⊥
has_main p h none = false≢true (sym (h.never 0 0 1 [] []) ∙ ap (λ o. is_fault (ran_of (main_run (record { program = p; heap = 0; depth = 1 }) 0 o (start 0 [] []))).outcome) none)

-- the first function, where the code finds it
pub main_is : (p : CodeProgram) (o : Option CodeFunc) → o ≡ slice_get p.fns p.main.0 → slice_get (program_of p).fns (program_of p).main ≡ option_map func_of o
main_is p o e = slice_get-map func_of p.fns p.main.0 ∙ ap (option_map func_of) (sym e)

-- without any depth
pub no_depth : (p : CodeProgram) (b : Budgets) (input : List ℤ) (answers : List (List ℤ)) (x : Outside) → b.depth ≡ 0 → EndsAs (run_within p b input answers) x x (record { stop = DepthEnd; fuel = b.fuel })
no_depth p b input answers x none =
    let zero : (b.depth == 0) ≡ true = grind (arith, nat_tests) in
    let w = start b.fuel input answers in
    let r : Setup = record { program = program_of p; heap = b.heap; depth = b.depth } in
    let is : run_within p b input answers ≡ ran_of (ends model.depth_end w) = ap (λ t. ran_of (if t then ends model.depth_end w else main_run r b.fuel (slice_get (program_of p).fns (program_of p).main) w)) zero in
    subst (λ y. EndsAs y x x (record { stop = DepthEnd; fuel = b.fuel })) (sym is)
    (finished_ends outcome_of SinkFault refl line_of x x model.depth_end w.fuel w.events DepthEnd b.fuel (inl (record { outcome = refl; fuel = refl; wrote = silent w w x refl })))

module _ (b : Budgets) (s : Start) (input : Bor (List ℤ)) (answers : Bor Answers) (program : Bor CodeProgram) (runnable : IsRunnable (program_of program.now)) (set : IsSet (program_of program.now) b s) (deep : 1 ≤ b.depth)
    (main : Bor CodeFunc) (is_main : slice_get (program_of program.now).fns (program_of program.now).main ≡ Some (func_of main.now)) where
  main_wide : frame_end s.values.width 0 (func_of main.now) ≤ frame_slots (program_of program.now) s.values.width
  main_wide = let k = frame_fits (program_of program.now) s.values.width (func_of main.now) (of_itself (program_of program.now) (program_of program.now).main (func_of main.now) is_main) in omega (arith, k)

  pub start_room : frame_end s.values.width 0 (func_of main.now) ≤ vec_capacity s.values.slots
  start_room =
      let wide = main_wide in
      let all = set.values.parts in
      let more : (b.depth + 1) * frame_slots (program_of program.now) s.values.width ≡ b.depth * frame_slots (program_of program.now) s.values.width + frame_slots (program_of program.now) s.values.width = omega arith in
      omega (arith, wide, all, more)

  module _ (values : Values) (run : Run) (body : Bor (List Stmt)) (width : values.width ≡ s.values.width) (base : values.base ≡ 0) (has_frame : HasFrame values (func_of main.now) 0)
      (shows : (items : Items) (depth : ℕ) → ShowsFrame items values (first_frame depth)) (values_room : vec_capacity s.values.slots ≤ vec_capacity values.slots)
      (tasks : run.tasks.items ≡ s.tasks.items ++ Listed body ∷ []) (body_is : body.now ≡ main.now.body) (tasks_room : vec_capacity s.tasks ≤ vec_capacity run.tasks)
      (run_is : run ≡ record { func = main; tasks = run.tasks; at = GoesOn; depth = 1; fuel = b.fuel; values = values; heap = s.heap; host = record { input = input; answers = answers; taken = 0; line = s.line } }) where
    abbrev rules : Rules
    rules = record { program = program; depth = b.depth }

    abbrev begun : Run
    begun = record { func = main; tasks = run.tasks; at = GoesOn; depth = 1; fuel = b.fuel; values = values; heap = s.heap; host = record { input = input; answers = answers; taken = 0; line = s.line } }

    begun_room : HasRoom (program_of program.now) b.depth begun
    begun_room = record {
      wide = subst (IsWide (program_of program.now)) (sym width) set.wide;
      heap = set.heap;
      cells = λ t. let k = set.cells.fields t in rw width k;
      fields = set.cells.few;
      values = let k = set.values.parts in rw width (omega (arith, k, values_room));
      operands = λ t. let k = set.values.fields t in rw width (omega (arith, k, values_room));
      tasks = let k = set.tasks in omega (arith, k, tasks_room);
      line = set.line;
    }

    left : tasks_left begun ≡ Listed body ∷ []
    left = ap reverse (tasks ∙ ap (λ l. l ++ Listed body ∷ []) (nil_from_length s.tasks.items set.no_tasks))

    first : Conf
    first = first_conf (func_of main.now) (first_frame 1) (start_of begun)

    begun_shown : ShowsConf begun (first_conf (func_of main.now) (first_frame 1) (start_of begun))
    begun_shown = record {
      items = [];
      holds = set.no_objects;
      func = like_itself (func_of main.now);
      shown = subst (λ l. ShowsTasks [] values values.base 1 l (m.list (func_of main.now).body ∷ [])) (sym left) (ap stmts_of body_is, (base, refl));
      step = record {
        objects = record { long = refl; each = λ n x o there. absurd (none-some x there) };
        frame_shown = shows [] 1;
        names = λ k n e. absurd (none-some n e);
        running = has_frame;
        depth = refl;
        hosts = record { input = refl; answers = refl; taken = refl };
        fuel = refl;
      };
    }

    begun_reached : (n : ℕ) → IsReached (setup_in rules begun) (moves (setup_in rules begun) n (first_conf (func_of main.now) (first_frame 1) (start_of begun)))
    begun_reached n = record { main = func_of main.now; is_main = is_main; fuel = b.fuel; input = input.now; answers = lists_of answers.now; count = n; is = refl }

    begun_way : IsUnderWay (setup_in rules begun) (first_conf (func_of main.now) (first_frame 1) (start_of begun))
    begun_way = record {
      func = func_of main.now;
      of = of_itself (program_of program.now) (program_of program.now).main (func_of main.now) is_main;
      frame = first_frame 1;
      first = refl;
      world = start_of begun;
      count = 0;
      is = refl;
      knows = λ n. runnable.calls (setup_in rules begun) (moves (setup_in rules begun) n (first_conf (func_of main.now) (first_frame 1) (start_of begun))) refl (begun_reached n);
    }

    goal_is : goal_of rules begun ≡ does (setup_in rules begun) (func_of main.now) (func_of main.now).body (first_frame 1) (start_of begun)
    unfolding does
    goal_is = ap (λ o. main_run (setup_in rules begun) b.fuel o (start_of begun)) is_main

    -- a run of some depth is that of main
    ran_is : run_within program.now b input.now (lists_of answers.now) ≡ ran_of (goal_of rules begun)
    ran_is =
        let some : (b.depth == 0) ≡ false = grind (arith, nat_tests) in
        let w = start b.fuel input.now (lists_of answers.now) in
        let r : Setup = record { program = program_of program.now; heap = b.heap; depth = b.depth } in
        ap (λ t. ran_of (if t then ends model.depth_end w else main_run r b.fuel (slice_get (program_of program.now).fns (program_of program.now).main) w)) some
        ∙ ap (λ h. ran_of (main_run (setup_of rules h) b.fuel (slice_get (program_of program.now).fns (program_of program.now).main) w)) (sym set.budget)

    begun_running : (x : Outside) → IsRunning rules (goal_of rules begun) (start_of begun) x x begun
    begun_running x = record {
      own = runnable.own;
      deep = deep;
      room = begun_room;
      conf = first_conf (func_of main.now) (first_frame 1) (start_of begun);
      shown = begun_shown;
      under_way = begun_way;
      leads = subst (LeadsTo (setup_in rules begun) (first_conf (func_of main.now) (first_frame 1) (start_of begun))) (sym goal_is) (machine_is_the_run (setup_in rules begun) (func_of main.now) (first_frame 1) (start_of begun));
      right = subst (λ y. is_fault y.outcome ≡ false) ran_is (runnable.never b.fuel b.heap b.depth input.now (lists_of answers.now));
      wrote = silent (start_of begun) (start_of begun) x refl;
    }

    first_running : (x : Outside) → IsRunning rules (goal_of rules run) (start_of run) x x run
    first_running x = subst (λ r. IsRunning rules (goal_of rules r) (start_of r) x x r) (sym run_is) (begun_running x)

    pub first_goal : HasGoal rules run
    first_goal = record { goal = goal_of rules run; world = start_of run; running = first_running }

    pub first_ended : (before after : Outside) (o : Option Stop) (stop : Stop) (last : Run) → stop ≡ or_done o
        → ((goal : Step) (w : model.World) → ((b : Outside) → IsRunning rules goal w b b run) → ComesOrEnds rules goal w before after o last)
        → EndsAs (run_within program.now b input.now (lists_of answers.now)) before after (record { stop = stop; fuel = last.fuel })
    first_ended before after o stop last is comes =
        let h = subst (λ s. IsFinished (ran_of (goal_of rules run)) (start_of run) before after s last) (sym is) (finished rules (goal_of rules run) (start_of run) before after o last (comes (goal_of rules run) (start_of run) first_running)) in
        let k = subst (λ r. IsFinished (ran_of (goal_of rules r)) (start_of r) before after stop last) run_is h in
        subst (λ y. EndsAs y before after (record { stop = stop; fuel = last.fuel })) (sym ran_is)
        (let ran = ran_of (goal_of rules begun) in
        finished_ends outcome_of SinkFault refl line_of before after ran.outcome ran.world.fuel ran.world.events stop last.fuel k)
