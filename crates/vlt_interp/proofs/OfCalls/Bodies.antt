-- A function with a body is entered.
use Rattle.std.proofs.Common.{◌≡◌, inl, inr, ◌<◌, ◌≤◌, ◌+◌, ◌*◌, ◌-◌, ℕ, suc, nat_lt, true, false, List, [], ◌∷◌, ◌++◌, length, Option, None, Some, Ok, Err, refl, sym, ap, ◌∙◌, subst, arith, slice_get, if◌then◌else◌}
use Rattle.std.specs.Vec.{vec_capacity}
use Rattle.std.specs.Borrow.{Bor}
use Rattle.std.specs.Option.{option_map}
use Rattle.std.proofs.lemmas.Bool.Decides.{nat_tests}
use Rattle.vlt_base.specs.declared.ids.VarId.{VarId}
use Rattle.vlt_core.specs.declared.program.Stmt.{Stmt}
use Rattle.vlt_core.specs.Core.{Func, Program}
use Rattle.vlt_core.specs.Instances.{bound_in}
use Rattle.vlt_core.specs.View.{func_of, keys_of, stmts_of, program_of}
use Rattle.vlt_heap.specs.Shown.{Holds, IsSound}
use Rattle.vlt_meaning.specs.World.{Value, World, Frame, depth_end}
use Rattle.vlt_meaning.specs.Found.{Found}
use Rattle.vlt_meaning.specs.Step.{goes, ends, with_objects}
use Rattle.vlt_meaning.specs.Calls.{state_under, called_instance, passed_objects, handed_over, callee_frame}
use Rattle.vlt_meaning_laws.specs.Machine.Machine as m
use Rattle.vlt_meaning_laws.specs.Machine.Machine.{Caller, at, when_found, enter_body}
use Rattle.vlt_acts.proofs.OfValues.Touching.{OrFault}
use Rattle.vlt_acts.specs.declared.frames.waiting.Waiting.{Waiting}
use Rattle.vlt_acts.specs.Frames.Frames.{IsLike, frame_end, IsRunning, Stands, IsBelow, Waits}
use Rattle.vlt_acts.specs.Frames.Entered.{HasEntered, Enters}
use Rattle.vlt_acts.proofs.OfFrames.Like.{moved, instance_like, running_like}
use Rattle.vlt_acts.proofs.OfFrames.Standing.{running_names}
use Rattle.vlt_acts.specs.Hosts.Hosts.{ShowsHost}
use Rattle.vlt_steps.specs.Writing.{Outside}
use Rattle.vlt_acts.proofs.OfHosts.Writing.{silent}
use Rattle.vlt_externals.proofs.OfHostCalls.Calling.{passed_fault}
use Rattle.vlt_steps.specs.declared.stop.Stop.TheVariants.{DepthEnd}
use Rattle.vlt_interp.specs.declared.tasks.task.Task.{Task}
use Rattle.vlt_interp.specs.declared.tasks.task.Task.TheVariants.{List as Listed, Back}
use Rattle.vlt_interp.specs.declared.tasks.task.Rules.{Rules}
use Rattle.vlt_interp.specs.declared.tasks.task.Run.{Run}
use Rattle.vlt_interp.specs.Tasks.Sizes.{frame_slots}
use Rattle.vlt_interp.specs.Tasks.Own.{IsOf}
use Rattle.vlt_interp.specs.Tasks.Shown.{tasks_left, ShowsTasks}
use Rattle.vlt_interp.specs.Tasks.Moves.{HasRoom, Keeps}
use Rattle.vlt_interp.proofs.OfTasks.Stacks.{next_is, tasks_kept}
use Rattle.vlt_interp.proofs.OfTasks.Staying.{keeps_all, step_goes}
use Rattle.vlt_interp.proofs.OfTasks.Coming.{Came, wrong_came}
use Rattle.vlt_interp.specs.Calls.Called.{ShowsCall, entering_body, DoesIn}
use Rattle.vlt_interp.proofs.OfCalls.Sizes.{slots_at}
use Rattle.vlt_interp.proofs.OfCalls.Outside.{seen_call}

deep : (d n : ℕ) → n ≤ d → nat_lt d n ≡ false
deep d n l = grind (arith, nat_tests)

shallow : (d n : ℕ) → d < n → nat_lt d n ≡ true
shallow d n l = grind (arith, nat_tests)

-- ---- the depth doesn't allow it

module _ (rules : Rules) (old : Run) (g : Func) (target : Option ℕ) (keys : List ℕ) where
  pub too_deep : (b : Outside) → rules.depth ≤ old.depth → IsSound old.heap → DoesIn (entering_body target keys g) g keys rules old old b b (Some DepthEnd)
  unfolding enter_body
  too_deep b low sound = record {
    keeps = keeps_all old sound;
    comes = λ f ts args frame w q known.
        let e : nat_lt frame.depth rules.depth ≡ false = deep frame.depth rules.depth (let d = q.args_shown.depth in omega (arith, d, low)) in
        let i = called_instance (program_of rules.program.now) g keys frame w.objects in
        subst (λ t. Came w b b (Some DepthEnd) old (if t then when_found (passed_objects (program_of rules.program.now) i keys frame w.objects i.clause) f ts w (λ ns.
        at i (m.list i.body ∷ m.back (record { func = f; frame = frame; target = target; keys = keys }) ∷ ts)
        (goes (callee_frame i keys args frame) (with_objects w (handed_over keys frame i.clause w.objects)))) else at f ts (ends depth_end w))) (sym e)
        (inr (inl (record { outcome = refl; fuel = q.args_shown.fuel; wrote = silent w w b refl })));
  }

-- ---- it is entered

-- what the code did
pub record HasPut (old new : Run) (waiting : Waiting) (body : Bor (List Stmt)) (mid : List Task) : Type 0 where
  pub first : mid ≡ old.tasks.items ++ Back waiting ∷ []
  pub last : new.tasks.items ≡ mid ++ Listed body ∷ []
  pub going : new.at ≡ old.at
  pub depth : new.depth ≡ old.depth + 1
  pub fuel : new.fuel ≡ old.fuel
  pub heap : new.heap ≡ old.heap
  pub host : new.host ≡ old.host

pub record IsWaiting (old new : Run) (given : Option VarId) (ks : List ℕ) (waiting : Waiting) : Type 0 where
  pub below : IsBelow waiting new.values.width new.values.base
  pub base : waiting.base ≡ old.values.base
  pub func : waiting.func.now ≡ old.func.now
  pub target : waiting.target ≡ given
  pub keys : keys_of waiting.keys.now ≡ ks

module _ (rules : Rules) (old new : Run) (g : Func) (target : Option VarId) (keys : List ℕ) (waiting : Waiting) (body : Bor (List Stmt)) (mid : List Task) (put : HasPut old new waiting body mid) (waits : IsWaiting old new target keys waiting)
    (running : IsRunning new.values g 0) (width : new.values.width ≡ old.values.width) (same : (k : ℕ) → k < length old.values.slots.items → slice_get new.values.slots.items k ≡ slice_get old.values.slots.items k)
    (callee : func_of new.func.now ≡ g) (is_body : stmts_of body.now ≡ g.body) where
  abbrev caller : Func → Frame → Caller
  caller f frame = record { func = f; frame = frame; target = option_map (λ v. v.0) target; keys = keys }

  -- an instance of the function runs then
  pub entered : (i : Func) → IsLike g i → (f : Func) (ts : List m.Task) (args : List Value) (frame : Frame) (w : World) (b : Outside) (q : ShowsCall old f ts g args frame w) → HasEntered f i keys old.heap old.values new.values (seen_call (program_of rules.program.now) old f ts g args frame w q) w args
      → Came w b b None new (at i (m.list i.body ∷ m.back (caller f frame) ∷ ts) (goes (callee_frame i keys args frame) (with_objects w (handed_over keys frame i.clause w.objects))))
  entered i like f ts args frame w b q h = record {
    shown = record {
      items = q.items;
      holds = subst (λ k. Holds k q.items) (sym put.heap) q.holds;
      func = subst (λ k. IsLike k i) (sym callee) like;
      shown = subst (λ l. ShowsTasks q.items new.values new.values.base new.depth l (m.list i.body ∷ m.back (caller f frame) ∷ ts)) (sym left)
          (moved (λ k. stmts_of body.now ≡ k.body) g i like is_body, (record { waits = waiting_is; depth = deeper }, rest));
      step = step_goes q.items new i new.at (callee_frame i keys args frame) (with_objects w (handed_over keys frame i.clause w.objects)) (put.going ∙ q.going) (record {
        objects = h.shows.objects_shown;
        frame_shown = h.shows.frame_shown;
        names = running_names q.items new.values i (callee_frame i keys args frame) (running_like new.values g i 0 like running) h.shows.frame_shown;
        running = running_like new.values g i 0 like running;
        depth = ap suc q.args_shown.depth ∙ one_more ∙ sym put.depth;
        hosts = subst (λ k. ShowsHost k (with_objects w (handed_over keys frame i.clause w.objects))) (sym put.host) (let s = q.args_shown.hosts in record { input = s.input; answers = s.answers; taken = s.taken });
        fuel = q.args_shown.fuel ∙ sym put.fuel;
      });
    };
    wrote = silent w (with_objects w (handed_over keys frame i.clause w.objects)) b refl;
  }
    where
      one_more : suc old.depth ≡ old.depth + 1
      one_more = omega arith

      left : tasks_left new ≡ Listed body ∷ Back waiting ∷ tasks_left old
      left = next_is mid new.tasks.items (Listed body) put.last ∙ ap (λ l. Listed body ∷ l) (next_is old.tasks.items mid (Back waiting) put.first)

      deeper : new.depth ≡ suc frame.depth
      deeper = put.depth ∙ sym one_more ∙ ap suc (sym q.args_shown.depth)

      waiting_is : Waits q.items new.values waiting new.values.base (caller f frame)
      waiting_is = record {
        func = subst (λ k. IsLike (func_of k) f) (sym waits.func) q.func;
        is = rw (waits.target, waits.keys) refl;
        below = waits.below;
        stands = subst (λ k. Stands q.items new.values f k frame) (sym waits.base) h.stands;
      }

      low : (j : ℕ) → j < old.values.base → j < length old.values.slots.items
      low j l = let k = q.args_shown.running.long in omega (arith, l, k)

      rest : ShowsTasks q.items new.values waiting.base (new.depth - 1) (tasks_left old) ts
      rest = subst (λ k. ShowsTasks q.items new.values k (new.depth - 1) (tasks_left old) ts) (sym waits.base)
          (subst (λ n. ShowsTasks q.items new.values old.values.base n (tasks_left old) ts) (sym (let d = put.depth in omega (arith, d)))
          (tasks_kept q.items q.items old.values new.values old.values.base old.depth (tasks_left old) ts (record { keep = λ k n made. made; width = width; same = λ j l. same j (low j l) }) q.tasks))

  pub enters_body : (b : Outside) → Keeps old new → old.depth < rules.depth → ((f i : Func) → IsLike (func_of old.func.now) f → IsLike g i → Enters f i keys old.values new.values)
      → DoesIn (entering_body (option_map (λ v. v.0) target) keys g) g keys rules old new b b None
  unfolding enter_body when_found
  enters_body b keeps room enters = record {
    keeps = keeps;
    comes = λ f ts args frame w q known.
        let e : nat_lt frame.depth rules.depth ≡ true = shallow frame.depth rules.depth (let d = q.args_shown.depth in omega (arith, d, room)) in
        let p = program_of rules.program.now in
        let i = called_instance p g keys frame w.objects in
        subst (λ t. Came w b b None new (if t then when_found (passed_objects p i keys frame w.objects i.clause) f ts w (λ ns.
        at i (m.list i.body ∷ m.back (caller f frame) ∷ ts) (goes (callee_frame i keys args frame) (with_objects w (handed_over keys frame i.clause w.objects)))) else at f ts (ends depth_end w))) (sym e)
        (by i (instance_like p g (option_map (λ b. state_under keys frame w.objects b.key) (bound_in g.clause))) f ts args frame w q (passed_objects p i keys frame w.objects i.clause) refl (passed_fault p i keys frame w.objects i.clause));
  }
    where
      by : (i : Func) → IsLike g i → (f : Func) (ts : List m.Task) (args : List Value) (frame : Frame) (w : World) (q : ShowsCall old f ts g args frame w) (x : Found (List ℕ)) → passed_objects (program_of rules.program.now) i keys frame w.objects i.clause ≡ x → OrFault x
          → Came w b b None new (when_found x f ts w (λ ns. at i (m.list i.body ∷ m.back (caller f frame) ∷ ts) (goes (callee_frame i keys args frame) (with_objects w (handed_over keys frame i.clause w.objects)))))
      by i like f ts args frame w q (Ok ns) is fine = entered i like f ts args frame w b q
          (enters f i q.func like old.heap (seen_call (program_of rules.program.now) old f ts g args frame w q) w args (record {
            caller = refl;
            objects = refl;
            names = q.args_shown.names;
            count = moved (λ k. length args ≡ k.params) g i like q.args_shown.count;
            values_at = q.args_shown.values_at;
            numbers = ns;
            passed = is;
          }))
      by i like f ts args frame w q (Err o) is fine = wrong_came w b b None new (at f ts (ends o w)) o w fine

-- ---- room

pub body_room : (p : Program) (g : Func) (of : IsOf p g) (depth : ℕ) (r : Run) (room : HasRoom p depth r) (f : Func) → IsRunning r.values f (g.params * r.values.width) → length r.values.slots.items ≤ depth * frame_slots p r.values.width + g.params * r.values.width
    → frame_end r.values.width (frame_end r.values.width r.values.base f) g ≤ vec_capacity r.values.slots
body_room p g of depth r room f running values =
    let a = slots_at p g of r.values.width in
    let b : (depth + 1) * frame_slots p r.values.width ≡ depth * frame_slots p r.values.width + frame_slots p r.values.width = omega arith in
    let c = room.values in
    let d = running.long in
    omega (arith, a, b, c, d, values)
