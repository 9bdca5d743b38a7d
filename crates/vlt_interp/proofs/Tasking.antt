-- Where tasks lead.
use Rattle.std.proofs.Common.{◌≡◌, ◌<◌, ◌≤◌, ◌+◌, ◌*◌, ◌-◌, ℕ, Bool, true, false, List, [], ◌∷◌, length, None, refl, sym, ap, ◌∙◌, subst, arith}
use Rattle.std.specs.Vec.{vec_capacity}
use Rattle.std.specs.Borrow.{Bor}
use Rattle.std.proofs.Math.Nat.{mul-le-mul_right}
use Rattle.std.proofs.lemmas.List.{length-reverse}
use Rattle.vlt_core.specs.declared.program.Stmt.{Stmt}
use Rattle.vlt_core.specs.declared.program.Expr.{Expr as CodeExpr}
use Rattle.vlt_core.specs.declared.program.Block.{Block as CodeBlock}
use Rattle.vlt_core.specs.View.{func_of, program_of, stmts_of}
use Rattle.vlt_core.specs.Core.{Tok, Stmts, done, next, Func}
use Rattle.vlt_meaning.specs.World.{Frame, World, left_behind}
use Rattle.vlt_meaning.specs.Step.{Step, goes, jumps, leaves, ends, where_so, left_block, are_unused}
use Rattle.vlt_meaning.specs.Run.{Setup}
use Rattle.vlt_meaning_laws.specs.Machine.Machine as m
use Rattle.vlt_meaning_laws.specs.Machine.Machine.{at, list_moves, after_move}
use Rattle.vlt_meaning_laws.specs.Machine.Bounds.{tall_of, frames}
use Rattle.vlt_meaning_laws.proofs.OfMachine.Fitting.{suffices}
use Rattle.vlt_steps.specs.Writing.{Outside}
use Rattle.vlt_acts.proofs.OfHosts.Writing.{silent}
use Rattle.vlt_interp.specs.declared.tasks.task.At.TheVariants.{Jumps, Leaves}
use Rattle.vlt_interp.specs.declared.tasks.task.Task.{Task}
use Rattle.vlt_interp.specs.declared.tasks.task.Task.TheVariants.{List as Listed, Closing, Turn}
use Rattle.vlt_interp.specs.declared.tasks.task.Rules.{Rules}
use Rattle.vlt_interp.specs.declared.tasks.task.Run.{Run}
use Rattle.vlt_interp.specs.Tasks.Sizes.{frame_slots}
use Rattle.vlt_interp.specs.Tasks.Own.{IsOwn, AreOwn, IsOf}
use Rattle.vlt_interp.specs.Tasks.Shown.{tasks_left, Runs, ShowsWith, ShowsConf}
use Rattle.vlt_interp.specs.Tasks.Moves.{world_in, CameTo}
use Rattle.vlt_acts.proofs.OfFrames.Like.{like_back}
use Rattle.vlt_interp.proofs.Likeness.{of_like}
use Rattle.vlt_interp.proofs.OfTasks.Staying.{keeps_all}
use Rattle.vlt_interp.proofs.OfTasks.Coming.{Came}
use Rattle.vlt_interp.specs.Going.{setup_in, IsFine, CanDoTask, GoesTask}
use Rattle.vlt_interp.proofs.Fitting.{frame_fits, low, as_many}
use Rattle.vlt_interp.proofs.Fronts.{by_list, by_closing, by_jumps, by_leaves, not_ended}

-- ---- a step that is passed on

-- what is shown is come to, and nothing is written
pub stays_here : (b : Outside) (r : Run) (f : Func) (us : List m.Task) (a : Step) → ShowsConf r (at f us a) → Came (world_in a) b b None r (at f us a)
stays_here b r f us (goes frame w) q = record { shown = q; wrote = silent w w b refl }
stays_here b r f us (jumps c frame w) q = record { shown = q; wrote = silent w w b refl }
stays_here b r f us (leaves x kept w) q = record { shown = q; wrote = silent w w b refl }
stays_here b r f us (ends o w) q = absurd (not_ended q.items r f r.at o w q.step)

-- what is after a task of the running function
abbrev pub after_list : (r : Run) (left : List Task) (ss : Bor (List Stmt)) (f : Func) (u : m.Task) (us : List m.Task) (a : Step) → ShowsWith (Listed ss ∷ left) r (at f (u ∷ us) a) → ShowsWith left r (at f us a)
after_list r left ss f u us a q = record { items = q.items; holds = q.holds; func = q.func; shown = q.shown.1; step = q.step }

abbrev pub after_closing : (r : Run) (left : List Task) (f : Func) (u : m.Task) (us : List m.Task) (a : Step) → ShowsWith (Closing ∷ left) r (at f (u ∷ us) a) → ShowsWith left r (at f us a)
after_closing r left f u us a q = record { items = q.items; holds = q.holds; func = q.func; shown = q.shown.1; step = q.step }

abbrev pub after_turn : (r : Run) (left : List Task) (e : Bor CodeExpr) (b : Bor CodeBlock) (f : Func) (u : m.Task) (us : List m.Task) (a : Step) → ShowsWith (Turn e b ∷ left) r (at f (u ∷ us) a) → ShowsWith left r (at f us a)
after_turn r left e b f u us a q = record { items = q.items; holds = q.holds; func = q.func; shown = q.shown.1; step = q.step }

-- ---- the end of a block

left_came : (b : Outside) (r : Run) (f : Func) (bound : List Tok) (us : List m.Task) (a : Step) → ShowsConf r (at f us a) → Came (world_in a) b b None r (at f us (left_block bound a))
unfolding left_block where_so
left_came b r f bound us (goes frame w) q = by (are_unused bound frame w)
  where
    by : (x : Bool) → Came w b b None r (at f us (where_so x left_behind None w (λ w. goes frame w)))
    by true = stays_here b r f us (goes frame w) q
    by false = refl
left_came b r f bound us (jumps c frame w) q = by (are_unused bound frame w)
  where
    by : (x : Bool) → Came w b b None r (at f us (where_so x left_behind None w (λ w. jumps c frame w)))
    by true = stays_here b r f us (jumps c frame w) q
    by false = refl
left_came b r f bound us (leaves x kept w) q = stays_here b r f us (leaves x kept w) q
left_came b r f bound us (ends o w) q = stays_here b r f us (ends o w) q

pub closing_goes : (rules : Rules) (r : Run) (b : Outside) → CanDoTask Closing rules r → GoesTask Closing rules r r b b None
closing_goes rules r b can = record {
  keeps = keeps_all r can.room.heap;
  comes = by_closing r (tasks_left r) (λ c. IsFine (setup_in rules r) c → CameTo (world_in c.step) b b None r (after_move (setup_in rules r) c) (after_move (setup_in rules r) c).step)
      (λ f bound us a q fine. left_came b r f bound us a (after_closing r (tasks_left r) f (m.closing bound) us a q));
}

-- ---- what a statement finds

-- the slots up to the frame's end, and fewer tasks than there can be
pub record IsFit (rules : Rules) (r : Run) : Type 0 where
  pub func : IsOf (program_of rules.program.now) (func_of r.func.now)
  pub tasks : length r.tasks.items + 1 ≤ rules.depth * (tall_of (program_of rules.program.now) + 1)
  pub values : length r.values.slots.items ≤ rules.depth * frame_slots (program_of rules.program.now) r.values.width

module _ (rules : Rules) (r : Run) (t : Task) (f : Func) (u : m.Task) (us : List m.Task) (a : Step) (q : ShowsWith (t ∷ tasks_left r) r (at f (u ∷ us) a)) (fine : IsFine (setup_in rules r) (at f (u ∷ us) a)) where
  fit : (frame : Frame) (w : World) → frame.depth ≡ frames (u ∷ us) → Runs q.items r f frame w → IsFit rules r
  fit frame w deep runs =
      let p = program_of rules.program.now in
      let few = (suffices (setup_in rules r) (at f (u ∷ us) a) fine.fits).tasks in
      let many = as_many q.items r.values r.values.base r.depth (t ∷ tasks_left r) (u ∷ us) q.shown in
      let long = length-reverse r.tasks.items in
      let below = low p (AreOwn p) (IsOwn p) q.items r.values r.values.base r.depth (t ∷ tasks_left r) (u ∷ us) f q.shown fine.own.tasks in
      let wide = frame_fits p r.values.width f fine.own.func in
      let here : r.values.vars * r.values.width ≡ length f.vars * r.values.width = ap (λ n. n * r.values.width) runs.running.vars in
      let end = runs.running.long in
      let deeper : r.depth ≤ rules.depth = (let x = runs.depth in let y = fine.fits.within in omega (arith, x, y, deep)) in
      let all : r.depth * frame_slots p r.values.width ≤ rules.depth * frame_slots p r.values.width = mul-le-mul_right (frame_slots p r.values.width) deeper in
      let one : (r.depth - 1) * frame_slots p r.values.width + frame_slots p r.values.width ≡ r.depth * frame_slots p r.values.width = one_less r.depth (frame_slots p r.values.width) below.some in
      record {
        func = of_like p f (func_of r.func.now) fine.own.func (like_back (func_of r.func.now) f q.func);
        tasks = omega (arith, few, many, long);
        values = omega (arith, end, here, wide, below.low, one, all);
      }
    where
      one_less : (d s : ℕ) → 1 ≤ d → (d - 1) * s + s ≡ d * s
      one_less d s e = let k : d ≡ d - 1 + 1 = omega (arith, e) in let l : (d - 1 + 1) * s ≡ (d - 1) * s + s = omega arith in sym l ∙ ap (λ n. n * s) (sym k)

pub goes_fit : (rules : Rules) (r : Run) (t : Task) (f : Func) (u : m.Task) (us : List m.Task) (frame : Frame) (w : World) (q : ShowsWith (t ∷ tasks_left r) r (at f (u ∷ us) (goes frame w))) → IsFine (setup_in rules r) (at f (u ∷ us) (goes frame w)) → Runs q.items r f frame w → IsFit rules r
goes_fit rules r t f u us frame w q fine runs = fit rules r t f u us (goes frame w) q fine frame w fine.fits.step runs

pub jumps_fit : (rules : Rules) (r : Run) (t : Task) (f : Func) (u : m.Task) (us : List m.Task) (c : Bool) (frame : Frame) (w : World) (q : ShowsWith (t ∷ tasks_left r) r (at f (u ∷ us) (jumps c frame w))) → IsFine (setup_in rules r) (at f (u ∷ us) (jumps c frame w)) → Runs q.items r f frame w → IsFit rules r
jumps_fit rules r t f u us c frame w q fine runs = fit rules r t f u us (jumps c frame w) q fine frame w fine.fits.step runs

-- there is room for the task again
pub few_tasks : (rules : Rules) (r : Run) (t : Task) → CanDoTask t rules r → length r.tasks.items < vec_capacity r.tasks
few_tasks rules r t can =
    let few = (suffices (setup_in rules r) can.conf can.fine.fits).tasks in
    let many = as_many can.shown.items r.values r.values.base r.depth (t ∷ tasks_left r) can.conf.tasks can.shown.shown in
    let long = length-reverse r.tasks.items in
    let room = can.room.tasks in
    omega (arith, few, many, long, room)

-- ---- lists

-- with no statement left
list_over : (s : Setup) (b : Outside) (r : Run) (f : Func) (us : List m.Task) (a : Step) → ShowsConf r (at f us a) → Came (world_in a) b b None r (list_moves s f done us a)
list_over s b r f us (goes frame w) q = stays_here b r f us (goes frame w) q
list_over s b r f us (jumps c frame w) q = stays_here b r f us (jumps c frame w) q
list_over s b r f us (leaves x kept w) q = stays_here b r f us (leaves x kept w) q
list_over s b r f us (ends o w) q = stays_here b r f us (ends o w) q

pub list_ends : (rules : Rules) (r : Run) (ss : Bor (List Stmt)) (b : Outside) → ss.now ≡ [] → CanDoTask (Listed ss) rules r → GoesTask (Listed ss) rules r r b b None
list_ends rules r ss b none can = record {
  keeps = keeps_all r can.room.heap;
  comes = by_list r (tasks_left r) ss (λ c. IsFine (setup_in rules r) c → CameTo (world_in c.step) b b None r (after_move (setup_in rules r) c) (after_move (setup_in rules r) c).step)
      (λ f ts us a e q fine. subst (λ xs. Came (world_in a) b b None r (list_moves (setup_in rules r) f xs us a)) (ap stmts_of (sym none) ∙ e) (list_over (setup_in rules r) b r f us a (after_list r (tasks_left r) ss f (m.list ts) us a q)));
}

-- a jump and a leave pass all statements
jump_passes : (s : Setup) (f : Func) (ts : Stmts) (us : List m.Task) (c : Bool) (frame : Frame) (w : World) → list_moves s f ts us (jumps c frame w) ≡ at f us (jumps c frame w)
jump_passes s f done us c frame w = refl
jump_passes s f (next place form rest) us c frame w = refl

leave_passes : (s : Setup) (f : Func) (ts : Stmts) (us : List m.Task) (x : _) (kept : _) (w : World) → list_moves s f ts us (leaves x kept w) ≡ at f us (leaves x kept w)
leave_passes s f done us x kept w = refl
leave_passes s f (next place form rest) us x kept w = refl

pub list_jumps : (rules : Rules) (r : Run) (ss : Bor (List Stmt)) (b : Outside) (k : Bool) → r.at ≡ Jumps k → CanDoTask (Listed ss) rules r → GoesTask (Listed ss) rules r r b b None
list_jumps rules r ss b k is can = record {
  keeps = keeps_all r can.room.heap;
  comes = by_list r (tasks_left r) ss (λ c. IsFine (setup_in rules r) c → CameTo (world_in c.step) b b None r (after_move (setup_in rules r) c) (after_move (setup_in rules r) c).step)
      (λ f ts us a e q. by_jumps q.items r f (λ x. ShowsConf r (at f us x) → IsFine (setup_in rules r) (at f (m.list ts ∷ us) x) → Came (world_in x) b b None r (list_moves (setup_in rules r) f ts us x)) r.at k is
      (λ c frame w h here fine. subst (λ y. Came w b b None r y) (sym (jump_passes (setup_in rules r) f ts us c frame w)) (stays_here b r f us (jumps c frame w) here)) a q.step (after_list r (tasks_left r) ss f (m.list ts) us a q));
}

pub list_leaves : (rules : Rules) (r : Run) (ss : Bor (List Stmt)) (b : Outside) → r.at ≡ Leaves → CanDoTask (Listed ss) rules r → GoesTask (Listed ss) rules r r b b None
list_leaves rules r ss b is can = record {
  keeps = keeps_all r can.room.heap;
  comes = by_list r (tasks_left r) ss (λ c. IsFine (setup_in rules r) c → CameTo (world_in c.step) b b None r (after_move (setup_in rules r) c) (after_move (setup_in rules r) c).step)
      (λ f ts us a e q. by_leaves q.items r f (λ x. ShowsConf r (at f us x) → IsFine (setup_in rules r) (at f (m.list ts ∷ us) x) → Came (world_in x) b b None r (list_moves (setup_in rules r) f ts us x)) r.at is
      (λ x kept w h here fine. subst (λ y. Came w b b None r y) (sym (leave_passes (setup_in rules r) f ts us x kept w)) (stays_here b r f us (leaves x kept w) here)) a q.step (after_list r (tasks_left r) ss f (m.list ts) us a q));
}
