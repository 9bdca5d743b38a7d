-- The body of a permitted call begins.
use Rattle.std.proofs.Common.{◌≡◌, ℕ, zero, suc, ◌<◌, ◌≤◌, ◌+◌, ◌-◌, ◌*◌, ◌^◌, true, false, List, [], ◌∷◌, ◌++◌, map, length, take, drop, Option, None, Ok, Err, refl, sym, ap, ◌∙◌, subst, arith, slice_get, reverse, if◌then◌else◌}
use Rattle.std.specs.Vec.{vec_capacity}
use Rattle.std.specs.Borrow.{Bor}
use Rattle.std.specs.Option.{option_map, option_and_then}
use Rattle.std.proofs.Math.Path.{fun_ext}
use Rattle.std.proofs.lemmas.Bool.{false≢true}
use Rattle.std.proofs.lemmas.List.{nil_from_length, length-map}
use Rattle.vlt_core.specs.declared.program.Stmt.{Stmt}
use Rattle.vlt_core.specs.View.{stmts_of, program_of}
use Rattle.vlt_core.specs.Core.{VarDecl, Func, Program}
use Rattle.vlt_core.specs.Instances.{bound_in}
use Rattle.vlt_core.specs.KindedHeads.{parameters_of}
use Rattle.vlt_numbers.specs.HostAnswers.{lists_of}
use Rattle.vlt_heap.specs.Shown as heaps
use Rattle.vlt_heap.specs.Shown.{heap_of}
use Rattle.vlt_meaning.specs.World.{World, Frame, Object, is_fault}
use Rattle.vlt_meaning.specs.Found.{Found}
use Rattle.vlt_meaning.specs.Step.{Step, with_found}
use Rattle.vlt_meaning.specs.Calls.{state_under, passed_objects, callee_frame}
use Rattle.vlt_meaning.specs.Run.{Setup, ran_of}
use Rattle.vlt_meaning.specs.Does.{does}
use Rattle.vlt_meaning_laws.specs.Machine.Machine as m
use Rattle.vlt_meaning_laws.specs.Machine.Machine.{first_conf}
use Rattle.vlt_meaning_laws.specs.Machine.Laws.{LeadsTo}
use Rattle.vlt_meaning_laws.proofs.OfMachine.Theorem.{machine_is_the_run}
use Rattle.vlt_acts.specs.declared.values.values.Values.{Values}
use Rattle.vlt_acts.specs.Values.Shown.{ShowsFrame, ShowObjects}
use Rattle.vlt_acts.specs.Frames.Frames.{IsLike, frame_end, IsRunning as HasFrame}
use Rattle.vlt_acts.proofs.OfFrames.Like.{instance_like, running_like}
use Rattle.vlt_acts.proofs.OfValues.Touching.{OrFault}
use Rattle.vlt_acts.proofs.OfFrames.Callees.{handed_shown}
use Rattle.vlt_acts.proofs.OfHosts.Writing.{silent}
use Rattle.vlt_externals.proofs.OfHostCalls.Instances.{same_new}
use Rattle.vlt_externals.proofs.OfHostCalls.Calling.{passed_fault}
use Rattle.vlt_steps.specs.Writing.{Outside}
use Rattle.vlt_interp.specs.declared.rooms.start.Start.{Start}
use Rattle.vlt_interp.specs.declared.tasks.task.At.TheVariants.{Goes as GoesOn}
use Rattle.vlt_interp.specs.declared.tasks.task.Task.TheVariants.{List as Listed}
use Rattle.vlt_interp.specs.declared.tasks.task.Run.{Run}
use Rattle.vlt_interp.specs.Tasks.Sizes.{frame_slots, IsWide}
use Rattle.vlt_interp.specs.Tasks.Own.{IsOwnFunc}
use Rattle.vlt_interp.specs.Tasks.Shown.{tasks_left, ShowsTasks, ShowsConf, setup_of}
use Rattle.vlt_interp.specs.Tasks.Moves as moving
use Rattle.vlt_interp.specs.Going.{setup_in}
use Rattle.vlt_interp.specs.Running.{IsUnderWay, IsRunning, HasGoal}
use Rattle.vlt_interp.proofs.Likeness.{of_itself, of_instance}
use Rattle.vlt_interp.proofs.Fitting.{frame_fits}
use Rattle.vlt_host_meaning.specs.Calls.{Argument, value_of_argument}
use Rattle.vlt_host_meaning.specs.Tables.{argument_of}
use Rattle.vlt_host_meaning.specs.HostFrame.{host_frame}
use Rattle.vlt_host_meaning.specs.Permitted.{arguments_fit, host_keys}
use Rattle.vlt_host_meaning.specs.OneCall.{host_instance, instance_does, body_does, without_events, world_inside, spent}
use Rattle.vlt_host_laws.specs.Calls.{GoesRight}
use Rattle.vlt_host_acts.specs.declared.permits.held.Held.{Held}
use Rattle.vlt_host_acts.specs.declared.permits.hosted.Hosted.{Hosted}
use Rattle.vlt_host_acts.specs.Permits.Held.{IsSound}
use Rattle.vlt_host_acts.specs.Permits.Hosted.{ShowsHeld, IsHosted}
use Rattle.vlt_host_acts.proofs.Called.{called_key}
use Rattle.vlt_host.specs.declared.machine.called.Supply.{Supply}
use Rattle.vlt_host.specs.declared.machine.calling.Calling.{Calling}
use Rattle.vlt_host.proofs.OfMachine.Allowed.{IsFit, is_fit, args_long}
use Rattle.vlt_host.specs.Machine.Calling.{setup_for, func_in, args_in, rules_for, IsOfProgram, IsAllowed, CanBegin, ShowsNow}

-- ---- what the body does

-- an outcome that is no fault isn't that of a test
passed_so : (x : Found (List ℕ)) → OrFault x → (w : World) (go : List ℕ → Step) → is_fault (ran_of (with_found x w go)).outcome ≡ false → (ns : List ℕ) × (x ≡ Ok ns)
unfolding with_found
passed_so (Ok ns) f w go right = (ns, refl)
passed_so (Err o) f w go right = absurd (false≢true (sym right ∙ f))

found_so : (x : Found (List ℕ)) (ns : List ℕ) → x ≡ Ok ns → (w : World) (s : Step) → with_found x w (λ ns. s) ≡ s
unfolding with_found
found_so x ns e w s = ap (λ y. with_found y w (λ ns. s)) e

-- the body of the function itself, and the objects that it has
record IsBody (r : Setup) (f : Func) (args : List Argument) (v : World) : Type 0 where
  numbers : List ℕ
  passed : passed_objects r.program f (host_keys f args v.objects) (host_frame v.objects) v.objects f.clause ≡ Ok numbers
  is : instance_does r f args v ≡ does r f f.body (callee_frame f (host_keys f args v.objects) (map value_of_argument args) (host_frame v.objects)) (world_inside f args v)

body_of : (r : Setup) (f : Func) (args : List Argument) (v : World) → is_fault (ran_of (instance_does r f args v)).outcome ≡ false → IsBody r f args v
unfolding instance_does
body_of r f args v right =
    let x = passed_objects r.program f (host_keys f args v.objects) (host_frame v.objects) v.objects f.clause in
    let s = does r f f.body (callee_frame f (host_keys f args v.objects) (map value_of_argument args) (host_frame v.objects)) (world_inside f args v) in
    let q = passed_so x (passed_fault r.program f (host_keys f args v.objects) (host_frame v.objects) v.objects f.clause) (without_events v) (λ ns. s) right in
    record { numbers = q.0; passed = q.1; is = found_so x q.0 q.1 (without_events v) s }

-- there are no more parameters than variables
params_long : (n : ℕ) (ds : List VarDecl) → length (map {A = VarDecl} (λ d. d.ty) (take n ds)) ≤ length ds
params_long zero ds = omega arith
params_long (suc n) [] = omega arith
params_long (suc n) (d ∷ ds) = let l = params_long n ds in omega (arith, l)

params_few : (n : ℕ) (ds : List VarDecl) → length (map {A = VarDecl} (λ d. d.ty) (take n ds)) ≤ n
params_few zero ds = omega arith
params_few (suc n) [] = omega arith
params_few (suc n) (d ∷ ds) = let l = params_few n ds in omega (arith, l)

-- ---- the run

module _ (c : Calling) (start : Start) (held : Held) (fuel : ℕ) (s : Supply) (can : CanBegin c start held) where
  abbrev p : Program
  p = program_of c.program.now

  abbrev f : Func
  f = func_in c

  abbrev r : Setup
  r = setup_for c

  first_allowed : IsAllowed c can.objects
  first_allowed = can.allowed can.objects can.shows

  first_fit : IsFit f (args_in c) can.objects
  first_fit = is_fit p first_allowed.number f (args_in c) can.objects first_allowed.permitted

  its_own : IsOwnFunc p f
  its_own = can.callable.own.all first_allowed.number f first_allowed.at

  pub few_vars : length f.vars < 2 ^ 32
  few_vars = its_own.few

  pub count : length c.args.now ≤ length f.vars
  count =
      let l = args_long can.objects (parameters_of f) (args_in c) first_fit.fit in
      let n = length-map c.args.now argument_of in
      let k = params_long f.params f.vars in
      omega (arith, l, n, k)

  pub of_program : IsOfProgram c
  of_program = record {
    number = first_allowed.number;
    at = first_allowed.at;
    few =
        let l = args_long can.objects (parameters_of f) (args_in c) first_fit.fit in
        let n = length-map c.args.now argument_of in
        let k = params_few f.params f.vars in
        omega (arith, l, n, k);
  }

  pub wide : 1 ≤ start.values.width
  wide = can.room.wide.some

  pub frame_room : frame_end start.values.width 0 f ≤ vec_capacity start.values.slots
  frame_room =
      let k = frame_fits p start.values.width f (of_itself p first_allowed.number f first_allowed.at) in
      let all = can.room.values.parts in
      let more : (c.budgets.depth + 1) * frame_slots p start.values.width ≡ c.budgets.depth * frame_slots p start.values.width + frame_slots p start.values.width = omega arith in
      omega (arith, k, all, more)

  pub task_room : length start.tasks.items < vec_capacity start.tasks
  task_room = let n = can.room.no_tasks in let k = can.room.tasks in omega (arith, n, k)

  pub is_hosted : (h : Hosted) → h.heap.now ≡ start.heap → h.held.now ≡ held → h.places ≡ c.budgets.heap → IsHosted h
  is_hosted h heap held_is places = record {
    heap = subst heaps.IsSound (sym heap) can.room.sound;
    held = subst IsSound (sym held_is) can.sound;
    places = let b : heap_of h.heap.now ≡ c.budgets.heap = subst (λ g. heap_of g ≡ c.budgets.heap) (sym heap) can.room.budget in omega (arith, b, places);
    objects = can.objects;
    shown = subst (λ g. ShowsHeld g h.held.now can.objects) (sym heap) (subst (λ g. ShowsHeld start.heap g can.objects) (sym held_is) can.shows.shows);
  }

  -- what the code made
  pub record IsBegun (values : Values) (body : Bor (List Stmt)) (run : Run) : Type 0 where
    pub base : values.base ≡ 0
    pub width : values.width ≡ start.values.width
    pub running : HasFrame values f 0
    pub values_room : vec_capacity start.values.slots ≤ vec_capacity values.slots
    pub shows : (objects : List Object) (q : ShowsHeld start.heap held objects) → arguments_fit objects (parameters_of f) (args_in c) ≡ true →
        ShowsFrame q.items values (callee_frame f (host_keys f (args_in c) objects) (map value_of_argument (args_in c)) (host_frame objects))
    pub tasks : run.tasks.items ≡ start.tasks.items ++ Listed body ∷ []
    pub tasks_room : vec_capacity start.tasks ≤ vec_capacity run.tasks
    pub body_is : body.now ≡ c.func.now.body
    pub run_is : run ≡ record { func = c.func; tasks = run.tasks; at = GoesOn; depth = 1; fuel = fuel; values = values; heap = start.heap; host = record { input = s.input; answers = s.answers; taken = s.taken; line = start.line } }

  module _ (values : Values) (body : Bor (List Stmt)) (run : Run) (did : IsBegun values body run) (deep : 1 ≤ c.budgets.depth) where
    abbrev begun : Run
    begun = record { func = c.func; tasks = run.tasks; at = GoesOn; depth = 1; fuel = fuel; values = values; heap = start.heap; host = record { input = s.input; answers = s.answers; taken = s.taken; line = start.line } }

    same_setup : setup_in (rules_for c) begun ≡ r
    same_setup = ap (setup_of (rules_for c)) can.room.budget

    begun_room : moving.HasRoom p c.budgets.depth begun
    begun_room = record {
      wide = subst (IsWide p) (sym did.width) can.room.wide;
      heap = can.room.sound;
      cells = λ t. let k = can.room.cells.fields t in rw did.width k;
      fields = can.room.cells.few;
      values = let k = can.room.values.parts in let l = did.values_room in rw did.width (omega (arith, k, l));
      operands = λ t. let k = can.room.values.fields t in let l = did.values_room in rw did.width (omega (arith, k, l));
      tasks = let k = can.room.tasks in let l = did.tasks_room in omega (arith, k, l);
      line = can.room.line;
    }

    left : tasks_left begun ≡ Listed body ∷ []
    left = ap reverse (did.tasks ∙ ap (λ l. l ++ Listed body ∷ []) (nil_from_length start.tasks.items can.room.no_tasks))

    module _ (w : World) (q : ShowsNow c start.heap held start.values.width fuel s (spent w)) where
      allowed : IsAllowed c w.objects
      allowed = can.allowed w.objects q.objects

      goes : GoesRight r f (args_in c) w
      goes = can.callable.takes.goes r w allowed.number f (args_in c) refl q.objects.left allowed.at allowed.permitted

      -- the origin of the instance that runs
      abbrev origin : Option ℕ
      origin = option_map (λ b. state_under (host_keys f (args_in c) w.objects) (host_frame w.objects) w.objects b.key) (bound_in f.clause)

      abbrev i : Func
      i = host_instance p f (args_in c) w.objects

      like : IsLike f i
      like = instance_like p f origin

      abbrev goal : Step
      goal = body_does r f (args_in c) (spent w)

      body_is : IsBody r i (args_in c) (spent w)
      body_is = body_of r i (args_in c) (spent w) goes.right

      abbrev frame : Frame
      frame = callee_frame i (host_keys i (args_in c) w.objects) (map value_of_argument (args_in c)) (host_frame w.objects)

      -- the frame is that of the function itself
      same_frame : callee_frame f (host_keys f (args_in c) w.objects) (map value_of_argument (args_in c)) (host_frame w.objects) ≡ frame
      same_frame =
          let keys = host_keys f (args_in c) w.objects in
          ap {A = ℕ → Option ℕ} {B = Frame} (λ names. record { depth = suc (host_frame w.objects).depth; vars = slice_get (map value_of_argument (args_in c)); keys = names })
          (fun_ext (λ j. ap (λ b. if b then None else option_and_then (host_frame w.objects).keys (slice_get keys j)) (sym (same_new p f origin j))))

      abbrev inside : World
      inside = world_inside i (args_in c) (spent w)

      fit : arguments_fit w.objects (parameters_of f) (args_in c) ≡ true
      fit = (is_fit p allowed.number f (args_in c) w.objects allowed.permitted).fit

      begun_shown : ShowsConf begun (first_conf i frame inside)
      begun_shown = record {
        items = q.objects.shows.items;
        holds = q.objects.shows.holds;
        func = like;
        shown = subst (λ l. ShowsTasks q.objects.shows.items values values.base 1 l (m.list i.body ∷ [])) (sym left) (ap stmts_of did.body_is, (did.base, refl));
        step = record {
          objects =
              handed_shown q.objects.shows.items values.width p i (host_keys i (args_in c) w.objects) (host_frame w.objects) w.objects i.clause body_is.numbers body_is.passed
              (subst (λ n. ShowObjects q.objects.shows.items n w.objects) (q.objects.wide ∙ sym did.width) q.objects.shows.shown);
          frame_shown = subst (ShowsFrame q.objects.shows.items values) same_frame (did.shows w.objects q.objects.shows fit);
          names = λ k n e. (called_key i (args_in c) w.objects k n e).within;
          running = running_like values f i 0 like did.running;
          depth = refl;
          hosts = record { input = q.input; answers = q.answers; taken = q.taken };
          fuel = q.fuel;
        };
      }

      begun_way : IsUnderWay r (first_conf i frame inside)
      begun_way = record {
        func = i;
        of = of_instance p f origin (of_itself p allowed.number f allowed.at);
        frame = frame;
        first = refl;
        world = inside;
        count = 0;
        is = refl;
        knows = λ n. can.callable.knows r w allowed.number f (args_in c) refl q.objects.left allowed.at allowed.permitted n;
      }

      begun_leads : LeadsTo r (first_conf i frame inside) goal
      begun_leads = subst (LeadsTo r (first_conf i frame inside)) (sym body_is.is) (machine_is_the_run r i frame inside)

      begun_running : (b : Outside) → IsRunning (rules_for c) goal (world_inside f (args_in c) (spent w)) b b begun
      begun_running b = record {
        own = can.callable.own;
        deep = deep;
        room = begun_room;
        conf = first_conf i frame inside;
        shown = begun_shown;
        under_way = subst (λ t. IsUnderWay t (first_conf i frame inside)) (sym same_setup) begun_way;
        leads = subst (λ t. LeadsTo t (first_conf i frame inside) goal) (sym same_setup) begun_leads;
        right = goes.right;
        wrote = silent (world_inside f (args_in c) (spent w)) inside b refl;
      }

      pub begins : (b : Outside) → IsRunning (rules_for c) goal (world_inside f (args_in c) (spent w)) b b run
      begins b = subst (IsRunning (rules_for c) goal (world_inside f (args_in c) (spent w)) b b) (sym did.run_is) (begun_running b)

  -- ---- some world

  abbrev pub some_world : World
  some_world = record { objects = can.objects; fuel = fuel + 1; input = s.input.now; answers = drop s.taken (lists_of s.answers.now); taken = s.taken; events = [] }

  pub shows_some : ShowsNow c start.heap held start.values.width fuel s (spent some_world)
  shows_some = record { objects = can.shows; fuel = omega arith; input = refl; answers = refl; taken = refl }

  pub some_goal : (run : Run) → ((w : World) → ShowsNow c start.heap held start.values.width fuel s (spent w) → (b : Outside) → IsRunning (rules_for c) (body_does r f (args_in c) (spent w)) (world_inside f (args_in c) (spent w)) b b run) → HasGoal (rules_for c) run
  some_goal run begins = record { goal = body_does r f (args_in c) (spent some_world); world = world_inside f (args_in c) (spent some_world); running = begins some_world shows_some }
