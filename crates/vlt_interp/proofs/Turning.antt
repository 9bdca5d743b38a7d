-- Where the tasks lead that do statements: a list, a loop and a return.
use Rattle.std.proofs.Common.{◌≡◌, ◌≤◌, ◌+◌, Bool, true, false, List, [], ◌∷◌, ◌++◌, length, Option, None, refl, sym, ap, ◌∙◌, subst, arith}
use Rattle.std.specs.Vec.{vec_capacity}
use Rattle.std.specs.Borrow.{Bor}
use Rattle.std.proofs.lemmas.List.{length-append}
use Rattle.std.proofs.lemmas.Bool.{false≢true}
use Rattle.vlt_core.specs.declared.program.Stmt.{Stmt}
use Rattle.vlt_core.specs.declared.program.Expr.{Expr as CodeExpr}
use Rattle.vlt_core.specs.declared.program.Block.{Block as CodeBlock}
use Rattle.vlt_core.specs.View.{func_of, program_of, stmts_of, form_of, expr_of, block_of}
use Rattle.vlt_core.proofs.Views.{stmt_parts}
use Rattle.vlt_core.specs.Core.{Expr, loop, Block, next, Func}
use Rattle.vlt_meaning.specs.World.{Frame, World, fault, no_return}
use Rattle.vlt_meaning.specs.Step.{Step, goes, jumps, leaves}
use Rattle.vlt_meaning.specs.Calls.{back_in}
use Rattle.vlt_meaning.specs.Run.{Setup}
use Rattle.vlt_meaning_laws.specs.Machine.Machine as m
use Rattle.vlt_meaning_laws.specs.Machine.Machine.{Conf, at, turn_moves, turn_on, after_move}
use Rattle.vlt_acts.specs.declared.frames.waiting.Waiting.{Waiting}
use Rattle.vlt_steps.specs.Writing.{Outside}
use Rattle.vlt_steps.specs.declared.stop.Stop.{Stop}
use Rattle.vlt_acts.proofs.OfFrames.Like.{like_back, moved}
use Rattle.vlt_interp.specs.declared.tasks.task.At.TheVariants.{Goes as GoesOn, Jumps, Leaves}
use Rattle.vlt_interp.specs.declared.tasks.task.Task.{Task}
use Rattle.vlt_interp.specs.declared.tasks.task.Task.TheVariants.{List as Listed, Turn, Back}
use Rattle.vlt_interp.specs.declared.tasks.task.Rules.{Rules}
use Rattle.vlt_interp.specs.declared.tasks.task.Run.{Run}
use Rattle.vlt_interp.specs.Tasks.Own.{IsOwn}
use Rattle.vlt_interp.specs.Calls.Called.{Acts}
use Rattle.vlt_interp.specs.Calls.Known.{IsKnownCall}
use Rattle.vlt_interp.specs.Tasks.Shown.{IsTurn, tasks_left, Runs, ShowsStep, ShowsWith, ShowsConf}
use Rattle.vlt_interp.specs.Tasks.Moves.{HasRoom, Keeps, world_in, CameTo, IsRight, doing, MayDo, Does, IsRightTask, DoesTask}
use Rattle.vlt_interp.proofs.OfTasks.Staying.{room_kept, keeps_all, keeps_on, going}
use Rattle.vlt_interp.proofs.OfTasks.Pushing.{put_shown}
use Rattle.vlt_interp.proofs.OfTasks.Coming.{Came}
use Rattle.vlt_interp.specs.Going.{setup_in, IsFine, CanDoTask, GoesTask, CanAct}
use Rattle.vlt_interp.proofs.Fronts.{by_list, by_turn, by_back, by_goes, by_jumps, by_leaves}
use Rattle.vlt_interp.proofs.Tasking.{stays_here, after_list, after_turn, IsFit, goes_fit, jumps_fit}

-- ---- a statement of a list

head_is : (x : Stmt) (rest : List Stmt) → stmts_of (x ∷ rest) ≡ next x.at (form_of x.form) (stmts_of rest)
head_is x rest = ap (λ p. next p.0 p.1 (stmts_of rest)) (stmt_parts x)

-- the rest of a list is put back
module _ (rules : Rules) (old mid : Run) (ss rest : Bor (List Stmt)) (x : Stmt) (items : mid.tasks.items ≡ old.tasks.items ++ Listed rest ∷ []) (more : vec_capacity old.tasks ≤ vec_capacity mid.tasks)
    (is : ss.now ≡ x ∷ rest.now) (on : old.at ≡ GoesOn) (can : CanDoTask (Listed ss) rules old) where
  abbrev put : Run
  put = record old { tasks = mid.tasks }

  put_keeps : Keeps old put
  put_keeps = record { sound = can.room.heap; size = record { heap = refl; slots = refl }; width = refl; values = omega arith; tasks = more; line = omega arith }

  -- the list's configuration, with its first statement
  from_list : (P : Conf → Type 0) → ((f : Func) (us : List m.Task) (frame : Frame) (w : World) →
      ShowsWith (Listed ss ∷ tasks_left old) old (at f (m.list (next x.at (form_of x.form) (stmts_of rest.now)) ∷ us) (goes frame w)) → P (at f (m.list (next x.at (form_of x.form) (stmts_of rest.now)) ∷ us) (goes frame w))) →
      (c : Conf) → ShowsWith (Listed ss ∷ tasks_left old) old c → P c
  from_list P h = by_list old (tasks_left old) ss P (λ f ts us a e q.
      subst (λ xs. ShowsWith (Listed ss ∷ tasks_left old) old (at f (m.list xs ∷ us) a) → P (at f (m.list xs ∷ us) a)) (sym (head_is x rest.now) ∙ sym (ap stmts_of is) ∙ e)
      (λ q. by_goes q.items old f (λ y. ShowsWith (Listed ss ∷ tasks_left old) old (at f (m.list (next x.at (form_of x.form) (stmts_of rest.now)) ∷ us) y) → P (at f (m.list (next x.at (form_of x.form) (stmts_of rest.now)) ∷ us) y)) old.at on
      (λ frame w runs q. h f us frame w q) a q.step q) q)

  -- after the statement the rest is shown
  put_front : (f : Func) (us : List m.Task) (frame : Frame) (w : World) → ShowsWith (Listed ss ∷ tasks_left old) old (at f (m.list (next x.at (form_of x.form) (stmts_of rest.now)) ∷ us) (goes frame w)) → ShowsConf put (at f (m.list (stmts_of rest.now) ∷ us) (goes frame w))
  put_front f us frame w q = put_shown old put refl (Listed rest) f us (m.list (stmts_of rest.now) ∷ us) (goes frame w) items (after_list old (tasks_left old) ss f _ us (goes frame w) q) (refl, q.shown.1)

  known : (f : Func) (us : List m.Task) (frame : Frame) (w : World) → IsFine (setup_in rules old) (at f (m.list (next x.at (form_of x.form) (stmts_of rest.now)) ∷ us) (goes frame w)) → IsKnownCall (program_of rules.program.now) f (form_of x.form) frame w
  known f us frame w fine = fine.knows (form_of x.form) frame w (record { place = x.at; rest = stmts_of rest.now; tasks = us; are = refl; step = refl })

  pub list_can : CanAct (form_of x.form) rules put
  list_can = from_list (λ c. IsFine (setup_in rules old) c → CanAct (form_of x.form) rules put) (λ f us frame w q fine.
      let fit = goes_fit rules old (Listed ss) f _ us frame w q fine (going q.items old f old.at frame w q.step).runs in
      let l = length-append old.tasks.items (Listed rest ∷ []) in
      let n = ap length items in
      record {
        ready = record {
          room = room_kept (program_of rules.program.now) rules.depth old put can.room put_keeps;
          own = can.has_own;
          func = fit.func;
          tasks = omega (arith, fit.tasks, l, n);
          values = fit.values;
        };
        own = moved (λ g. IsOwn (program_of rules.program.now) g (form_of x.form)) f (func_of old.func.now) (like_back (func_of old.func.now) f q.func) fine.own.tasks.0.0;
        func = f;
        tasks = m.list (stmts_of rest.now) ∷ us;
        frame = frame;
        world = w;
        shown = put_front f us frame w q;
        right = fine.right;
        lists = (known f us frame w fine).lists;
        known = (known f us frame w fine).known;
      }) can.conf can.shown can.fine

  pub list_acts : (new : Run) (before after : Outside) (result : Option Stop) → Acts (form_of x.form) rules put new before after result → GoesTask (Listed ss) rules old new before after result
  list_acts new before after result acts = record {
    keeps = keeps_on old put new put_keeps acts.keeps;
    comes = from_list (λ c. IsFine (setup_in rules old) c → CameTo (world_in c.step) before after result new (after_move (setup_in rules old) c) (after_move (setup_in rules old) c).step) (λ f us frame w q fine.
        acts.comes f (m.list (stmts_of rest.now) ∷ us) frame w (put_front f us frame w q) (known f us frame w fine).known);
  }

-- ---- turns

module _ (rules : Rules) (r : Run) (e : Bor CodeExpr) (b : Bor CodeBlock) (can : CanDoTask (Turn e b) rules r) where
  abbrev on_run : Run
  on_run = record r { at = GoesOn }

  on_room : HasRoom (program_of rules.program.now) rules.depth on_run
  on_room = record { wide = can.room.wide; heap = can.room.heap; cells = can.room.cells; fields = can.room.fields; values = can.room.values; operands = can.room.operands; tasks = can.room.tasks; line = can.room.line }

  -- it goes on with a turn
  on_shown : (f : Func) (d : Expr) (body : Block) (us : List m.Task) (a : Step) (frame : Frame) (w : World) (q : ShowsWith (Turn e b ∷ tasks_left r) r (at f (m.turn d body ∷ us) a)) → Runs q.items r f frame w → ShowsConf on_run (at f us (goes frame w))
  on_shown f d body us a frame w q runs = record {
    items = q.items;
    holds = q.holds;
    func = q.func;
    shown = q.shown.1;
    step = record { objects = runs.objects; frame_shown = runs.frame_shown; names = runs.names; running = runs.running; depth = runs.depth; hosts = runs.hosts; fuel = runs.fuel };
  }

  abbrev Turned : Setup → Func → List m.Task → Frame → World → Conf
  Turned s f us frame w = doing (loop (expr_of e.now) (block_of b.now)) s f us frame w

  turned_is : (s : Setup) (f : Func) (d : Expr) (body : Block) (us : List m.Task) (frame : Frame) (w : World) → IsTurn e.now b.now d body → turn_on s f d body us frame w ≡ Turned s f us frame w
  turned_is s f d body us frame w t = ap (λ y. turn_on s f y body us frame w) (sym t.condition) ∙ ap (λ y. turn_on s f (expr_of e.now) y us frame w) (sym t.body)

  own_turn : (f : Func) (d : Expr) (body : Block) → IsTurn e.now b.now d body → IsOwn (program_of rules.program.now) f (loop d body) → IsOwn (program_of rules.program.now) f (loop (expr_of e.now) (block_of b.now))
  own_turn f d body t h = subst (λ y. IsOwn (program_of rules.program.now) f (loop (expr_of e.now) y)) (sym t.body) (subst (λ y. IsOwn (program_of rules.program.now) f (loop y body)) (sym t.condition) h)

  can_turn : (f : Func) (d : Expr) (body : Block) (us : List m.Task) (a : Step) (frame : Frame) (w : World) (q : ShowsWith (Turn e b ∷ tasks_left r) r (at f (m.turn d body ∷ us) a)) → Runs q.items r f frame w → IsTurn e.now b.now d body → IsFit rules r
      → IsOwn (program_of rules.program.now) f (loop d body) → IsRight (turn_on (setup_in rules r) f d body us frame w).step → MayDo (loop (expr_of e.now) (block_of b.now)) on_run
  can_turn f d body us a frame w q runs t fit own right = record {
    rules = rules;
    can = record {
      ready = record {
        room = on_room;
        own = can.has_own;
        func = fit.func;
        tasks = let n = fit.tasks in omega (arith, n);
        values = fit.values;
      };
      own = moved (λ g. IsOwn (program_of rules.program.now) g (loop (expr_of e.now) (block_of b.now))) f (func_of r.func.now) (like_back (func_of r.func.now) f q.func) (own_turn f d body t own);
      right = record {
        func = f;
        tasks = us;
        frame = frame;
        world = w;
        shown = on_shown f d body us a frame w q runs;
        right = subst (λ c. IsRight c.step) (turned_is (setup_in rules r) f d body us frame w t) right;
      };
    };
  }

  -- ---- from the end of the body

  pub goes_can : r.at ≡ GoesOn → MayDo (loop (expr_of e.now) (block_of b.now)) r
  goes_can is = subst (MayDo (loop (expr_of e.now) (block_of b.now))) (sym (ap (λ x. record r { at = x }) is))
      (by_turn r (tasks_left r) e b (λ c. IsFine (setup_in rules r) c → MayDo (loop (expr_of e.now) (block_of b.now)) on_run) (λ f d body us a t q.
      by_goes q.items r f (λ y. ShowsWith (Turn e b ∷ tasks_left r) r (at f (m.turn d body ∷ us) y) → IsFine (setup_in rules r) (at f (m.turn d body ∷ us) y) → MayDo (loop (expr_of e.now) (block_of b.now)) on_run) r.at is
      (λ frame w old q fine.
      let runs = (going q.items r f r.at frame w q.step).runs in
      can_turn f d body us (goes frame w) frame w q runs t (goes_fit rules r (Turn e b) f _ us frame w q fine runs) fine.own.tasks.0 fine.right) a q.step q) can.conf can.shown can.fine)

  pub goes_turn : r.at ≡ GoesOn → (new : Run) (x : Outside) (result : Option Stop) → ((s : Setup) → Does (doing (loop (expr_of e.now) (block_of b.now))) s r new x x result) → GoesTask (Turn e b) rules r new x x result
  goes_turn is new x result does = record {
    keeps = (does (setup_in rules r)).keeps;
    comes = by_turn r (tasks_left r) e b (λ c. IsFine (setup_in rules r) c → CameTo (world_in c.step) x x result new (after_move (setup_in rules r) c) (after_move (setup_in rules r) c).step) (λ f d body us a t q.
        by_goes q.items r f (λ y. ShowsWith (Turn e b ∷ tasks_left r) r (at f (m.turn d body ∷ us) y) → IsFine (setup_in rules r) (at f (m.turn d body ∷ us) y) → Came (world_in y) x x result new (turn_moves (setup_in rules r) f d body us y)) r.at is
        (λ frame w old q fine. subst (Came w x x result new) (sym (turned_is (setup_in rules r) f d body us frame w t)) ((does (setup_in rules r)).comes f us frame w (after_turn r (tasks_left r) e b f _ us (goes frame w) q))) a q.step q);
  }

  -- ---- from a jump

  -- the step is a jump of this kind
  from_jump : (k : Bool) → r.at ≡ Jumps k → (P : Conf → Type 0) → ((f : Func) (d : Expr) (body : Block) (us : List m.Task) (frame : Frame) (w : World) → IsTurn e.now b.now d body
      → (q : ShowsWith (Turn e b ∷ tasks_left r) r (at f (m.turn d body ∷ us) (jumps k frame w))) → Runs q.items r f frame w → P (at f (m.turn d body ∷ us) (jumps k frame w))) → (c : Conf) → ShowsWith (Turn e b ∷ tasks_left r) r c → P c
  from_jump k is P h = by_turn r (tasks_left r) e b P (λ f d body us a t q.
      by_jumps q.items r f (λ y. ShowsWith (Turn e b ∷ tasks_left r) r (at f (m.turn d body ∷ us) y) → P (at f (m.turn d body ∷ us) y)) r.at k is
      (λ c frame w old. subst (λ z. ShowsWith (Turn e b ∷ tasks_left r) r (at f (m.turn d body ∷ us) (jumps z frame w)) → P (at f (m.turn d body ∷ us) (jumps z frame w))) old.same
      (λ q. h f d body us frame w t q (jumped q.items f frame w (subst (λ y. ShowsStep q.items r f y (jumps k frame w)) is q.step)))) a q.step q)
    where
      jumped : (items : _) (f : Func) (frame : Frame) (w : World) → ShowsStep items r f (Jumps k) (jumps k frame w) → Runs items r f frame w
      jumped items f frame w h = h.runs

  pub jumps_can : r.at ≡ Jumps true → MayDo (loop (expr_of e.now) (block_of b.now)) on_run
  jumps_can is = from_jump true is (λ c. IsFine (setup_in rules r) c → MayDo (loop (expr_of e.now) (block_of b.now)) on_run) (λ f d body us frame w t q runs fine.
      can_turn f d body us (jumps true frame w) frame w q runs t (jumps_fit rules r (Turn e b) f _ us true frame w q fine runs) fine.own.tasks.0 fine.right) can.conf can.shown can.fine

  on_keeps : (new : Run) → Keeps on_run new → Keeps r new
  on_keeps new k = record { sound = k.sound; size = k.size; width = k.width; values = k.values; tasks = k.tasks; line = k.line }

  pub jumps_turn : r.at ≡ Jumps true → (new : Run) (x : Outside) (result : Option Stop) → ((s : Setup) → Does (doing (loop (expr_of e.now) (block_of b.now))) s on_run new x x result) → GoesTask (Turn e b) rules r new x x result
  jumps_turn is new x result does = record {
    keeps = on_keeps new (does (setup_in rules r)).keeps;
    comes = from_jump true is (λ c. IsFine (setup_in rules r) c → CameTo (world_in c.step) x x result new (after_move (setup_in rules r) c) (after_move (setup_in rules r) c).step) (λ f d body us frame w t q runs fine.
        subst (Came w x x result new) (sym (turned_is (setup_in rules r) f d body us frame w t)) ((does (setup_in rules r)).comes f us frame w (on_shown f d body us (jumps true frame w) frame w q runs)));
  }

  -- the loop ends
  pub jumps_out : r.at ≡ Jumps false → (x : Outside) → GoesTask (Turn e b) rules r on_run x x None
  jumps_out is x = record {
    keeps = on_keeps on_run (keeps_all on_run can.room.heap);
    comes = from_jump false is (λ c. IsFine (setup_in rules r) c → CameTo (world_in c.step) x x None on_run (after_move (setup_in rules r) c) (after_move (setup_in rules r) c).step) (λ f d body us frame w t q runs fine.
        stays_here x on_run f us (goes frame w) (on_shown f d body us (jumps false frame w) frame w q runs));
  }

  pub leaves_loop : r.at ≡ Leaves → (x : Outside) → GoesTask (Turn e b) rules r r x x None
  leaves_loop is x = record {
    keeps = keeps_all r can.room.heap;
    comes = by_turn r (tasks_left r) e b (λ c. IsFine (setup_in rules r) c → CameTo (world_in c.step) x x None r (after_move (setup_in rules r) c) (after_move (setup_in rules r) c).step) (λ f d body us a t q.
        by_leaves q.items r f (λ y. ShowsWith (Turn e b ∷ tasks_left r) r (at f (m.turn d body ∷ us) y) → IsFine (setup_in rules r) (at f (m.turn d body ∷ us) y) → Came (world_in y) x x None r (turn_moves (setup_in rules r) f d body us y)) r.at is
        (λ z kept w old q fine. stays_here x r f us (leaves z kept w) (after_turn r (tasks_left r) e b f _ us (leaves z kept w) q)) a q.step q);
  }

-- ---- returns

module _ (rules : Rules) (r : Run) (w : Waiting) (can : CanDoTask (Back w) rules r) where
  -- a function comes back to its caller only from where it was left
  pub back_not_goes : r.at ≡ GoesOn → ⊥
  unfolding back_in
  back_not_goes is = by_back r (tasks_left r) w (λ c. IsFine (setup_in rules r) c → ⊥) (λ f k us a q.
      by_goes q.items r f (λ y. IsFine (setup_in rules r) (at f (m.back k ∷ us) y) → ⊥) r.at is
      (λ frame v runs fine. false≢true (sym (fine.right (fault no_return None) v refl))) a q.step) can.conf can.shown can.fine

  pub back_not_jumps : (j : Bool) → r.at ≡ Jumps j → ⊥
  unfolding back_in
  back_not_jumps j is = by_back r (tasks_left r) w (λ c. IsFine (setup_in rules r) c → ⊥) (λ f k us a q.
      by_jumps q.items r f (λ y. IsFine (setup_in rules r) (at f (m.back k ∷ us) y) → ⊥) r.at j is
      (λ c frame v runs fine. false≢true (sym (fine.right (fault no_return None) v refl))) a q.step) can.conf can.shown can.fine

-- a task of which nothing is asked but that it is right
pub right_task : (rules : Rules) (r : Run) (t : Task) → CanDoTask t rules r → IsRightTask t r
right_task rules r t can = record { setup = setup_in rules r; conf = can.conf; shown = can.shown; right = can.fine.right }

pub task_goes : (rules : Rules) (old new : Run) (t : Task) (before after : Outside) (result : Option Stop) → ((s : Setup) → DoesTask t s old new before after result) → GoesTask t rules old new before after result
task_goes rules old new t before after result does = record { keeps = (does (setup_in rules old)).keeps; comes = λ c q fine. (does (setup_in rules old)).comes c q }
