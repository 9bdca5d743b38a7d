-- The rooms of a run.
use Rattle.std.proofs.Common.{◌≡◌, ℕ, ◌+◌, ◌*◌, ◌<◌, ◌≤◌, Bool, true, false, List, ◌∷◌, length, Some, sym, ◌∙◌, subst, arith, vec_capacity}
use Rattle.std.specs.Option.{option_map}
use Rattle.std.proofs.lemmas.List.{length-map}
use Rattle.c_syntax.specs.declared.program.CName.{CName}
use Rattle.c_syntax.specs.View.{program_of}
use Rattle.c_syntax.specs.C as c
use Rattle.c_syntax.specs.C.{Stmt, Stmts, Program}
use Rattle.c_meaning.specs.World as model
use Rattle.c_meaning.specs.Run.{Numbered, function_of}
use Rattle.c_machine.specs.Machine as m
use Rattle.c_machine.specs.Machine.{Conf}
use Rattle.c_machine.specs.Bounds.{sizes_of, Fits, FitsNext, width_in}
use Rattle.c_meaning.specs.Widths.{width_of, value_slots}
use Rattle.c_machine.specs.Within.{longest_name, measure, AreWithin, FallsTo}
use Rattle.c_machine.proofs.Fitting.{tasks_within, slots_within}
use Rattle.c_machine.proofs.Starting.{functions_small}
use Rattle.c_machine.proofs.Theorems.{they_suffice}
use Rattle.c_machine.proofs.Within.{IsWithin, function_within, moved_falls}
use Rattle.c_values.specs.Shown.{value_view}
use Rattle.c_primitives.specs.declared.world.World.{World}
use Rattle.c_primitives.specs.Shown.{IsReady, KeepsRoom}
use Rattle.c_interp.specs.declared.rules.Rules.{Rules}
use Rattle.c_interp.specs.declared.frames.Frames.{Frames}
use Rattle.c_interp.specs.declared.task.Task.{Task}
use Rattle.c_interp.specs.Shown.{tasks_of, state_of, setup_of, HasRoom, HasRoomToDo}
use Rattle.c_interp.proofs.Tasks.{length_of}
use Rattle.c_interp.proofs.Pushing.{some_world}

one_more : (d v : ℕ) → (d + 1) * v ≡ d * v + v
one_more d v = omega arith

module _ (r : Rules) (items : List Task) (size : ℕ) (f : Frames) (s : World) (room : HasRoom r items size f s) where
  pub room_tasks : length items + 2 ≤ size
  room_tasks =
      let a = tasks_within (sizes_of (program_of r.program.now)) r.depth (tasks_of items) (state_of f some_world) (room.fits some_world) in
      let b = length_of items in
      omega (arith, a, b, room.tasks)

  pub room_slots : length f.values.items + value_slots (program_of r.program.now) ≤ vec_capacity f.values
  room_slots =
      let a = slots_within (sizes_of (program_of r.program.now)) r.depth (tasks_of items) (state_of f some_world) (room.fits some_world) in
      let b = length-map f.values.items (option_map value_view) in
      let d = one_more r.depth (value_slots (program_of r.program.now)) in
      omega (arith, a, b, d, room.slots)

  pub room_top : f.base ≤ length f.values.items
  room_top = let a = (room.fits some_world).top in let b = length-map f.values.items (option_map value_view) in omega (arith, a, b)

  -- the first statement of the next task can be done
  pub room_to_do : (n : ℕ) (x : Stmt) (rest : Stmts) (ts : List m.Task) (long size' : ℕ) → tasks_of items ≡ m.list n (c.next x rest) ∷ ts → long ≤ length items → size ≤ size' → HasRoomToDo r n x long size' f s
  room_to_do n x rest ts long size' is less more =
      let within = subst (AreWithin r.count (longest_name (program_of r.program.now))) is room.within in
      let fits = subst (λ l. Fits (sizes_of (program_of r.program.now)) r.depth l (state_of f some_world)) is (room.fits some_world) in
      let number = within.0 in
      let name = within.1 in
      let cells = fits.small.0 in
      record {
        rules = room.rules;
        number = omega (arith, number);
        tasks = (let k = room_tasks in omega (arith, k, less, more));
        top = room_top;
        slots = room_slots;
        cells = λ some. (let k = room.cells some in omega (arith, k, cells));
        name = omega (arith, name, room.name);
        heap = room.heap;
        ready = room.ready;
      }

  -- ---- after a move

  falls : (w : model.World) → FallsTo r.count (longest_name (program_of r.program.now)) (measure r.count w.fuel (tasks_of items)) (m.move_of (setup_of r) (tasks_of items) (state_of f w))
  falls w = moved_falls r.count (longest_name (program_of r.program.now)) (setup_of r) (λ g k is. subst (λ n. IsWithin n (longest_name (program_of r.program.now)) k) (sym room.rules.count) (function_within (program_of r.program.now) g k is)) (tasks_of items) (state_of f w) room.within

  pub room_next : (w v : model.World) (new : List Task) (size' : ℕ) (g : Frames) (q : World) (conf : Conf) → m.move_of (setup_of r) (tasks_of items) (state_of f w) ≡ m.goes conf → conf.tasks ≡ tasks_of new → conf.state ≡ state_of g v
      → size ≤ size' → vec_capacity f.values ≤ vec_capacity g.values → KeepsRoom s q → IsReady q → HasRoom r new size' g q
  room_next w v new size' g q conf is tasks state more slots keeps ready =
      let p = program_of r.program.now in
      let next = (they_suffice (setup_of r) (tasks_of items) (state_of f w) (room.fits w)).next in
      let at : Fits (sizes_of p) r.depth conf.tasks conf.state = subst (λ x. FitsNext (sizes_of p) r.depth x) is next in
      let here : Fits (sizes_of p) r.depth (tasks_of new) (state_of g v) = subst (λ l. Fits (sizes_of p) r.depth l (state_of g v)) tasks (subst (λ x. Fits (sizes_of p) r.depth conf.tasks x) state at) in
      let fall = subst (FallsTo r.count (longest_name (program_of r.program.now)) _) is (falls w) in
      record {
        rules = room.rules;
        fits = λ u. record { frame = here.frame; within = here.within; top = here.top; slots = here.slots; callers = here.callers; small = here.small };
        within = subst (AreWithin r.count (longest_name (program_of r.program.now))) tasks fall.0;
        tasks = omega (arith, room.tasks, more);
        slots = omega (arith, room.slots, slots);
        cells = λ some. (let k = room.cells (omega (arith, some, keeps.heap)) in omega (arith, k, keeps.cells));
        name = omega (arith, room.name, keeps.line);
        heap = keeps.heap ∙ room.heap;
        ready = ready;
      }

  -- the measure of the loop falls
  pub measure_falls : (w v : model.World) (new : List Task) (g : Frames) (fuel fuel' : ℕ) (conf : Conf) → m.move_of (setup_of r) (tasks_of items) (state_of f w) ≡ m.goes conf → conf.tasks ≡ tasks_of new → conf.state ≡ state_of g v → w.fuel ≡ fuel → v.fuel ≡ fuel'
      → measure r.count fuel' (tasks_of new) < measure r.count fuel (tasks_of items)
  measure_falls w v new g fuel fuel' conf is tasks state e e' =
      let fall = subst (FallsTo r.count (longest_name (program_of r.program.now)) _) is (falls w) in
      let less : measure r.count v.fuel (tasks_of new) < measure r.count w.fuel (tasks_of items) =
      subst (λ l. measure r.count v.fuel l < measure r.count w.fuel (tasks_of items)) tasks (subst (λ x. measure r.count x.world.fuel conf.tasks < measure r.count w.fuel (tasks_of items)) state fall.1) in
      subst (λ n. measure r.count n (tasks_of new) < measure r.count fuel (tasks_of items)) e' (subst (λ n. measure r.count v.fuel (tasks_of new) < measure r.count n (tasks_of items)) e less)

-- a function that is called is no wider than the table allows
pub room_callee : (p : Program) (f : CName) (k : Numbered) → function_of p f ≡ Some k → width_of k.func ≤ value_slots p
room_callee p f k is = by f.glue (functions_small p 0 f k is).width
  where
    by : (t : Bool) → width_of k.func ≤ width_in (sizes_of p) t → width_of k.func ≤ value_slots p
    by true l = omega (arith, l)
    by false l = omega (arith, l)
