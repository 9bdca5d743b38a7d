-- Places change nothing: without them each move is one of the machine of vlt_meaning_laws.
use Rattle.std.proofs.Common.{◌≡◌, ℕ, zero, suc, ◌==◌, ◌-◌, nat_lt, Bool, true, false, if◌then◌else◌, List, [], ◌∷◌, length, map, Option, Ok, Err, slice_get, refl, ap, ◌∙◌}
use Rattle.vlt_ops.specs.Operator.{is_true}
use Rattle.vlt_core.specs.Core.{Operand, Expr, Form, Block, block, Stmts, done, next, Arms, no_arms, arm, simple, call, choose, loop, switch, focus, scope, return, jump, Func}
use Rattle.vlt_core.specs.Lookups.{reference_of, guarded_of, variant_of, case_keys}
use Rattle.vlt_meaning.specs.World.{Value, one, World, Frame, missing, Reason}
use Rattle.vlt_meaning.specs.Found.{Found, or_fault}
use Rattle.vlt_meaning.specs.Values.{held_object, guarded_object, number_of}
use Rattle.vlt_meaning.specs.Step.{Step, goes, jumps, leaves, ends}
use Rattle.vlt_meaning.specs.Operands.{Case, case_in, with_empty_variable}
use Rattle.vlt_meaning.specs.Calls.{called_instance, passed_objects}
use Rattle.vlt_meaning.specs.Run.{Setup}
use Rattle.vlt_meaning_laws.specs.Machine.Got.{Got, got, stopped, operands_got, opened_got, filled_got}
use Rattle.vlt_meaning_laws.specs.Machine.Machine as m
use Rattle.vlt_trace_meaning.specs.Machine.{Task, list, closing, turn, unfocus, back, Conf, when_found, when_got, when_so, spending, enter_block, enter_arm, enter_body, enter_by, enter, turn_on, act, list_moves, turn_moves, task_moves, moved_in, after_move, end_of}
use Rattle.vlt_trace_meaning.specs.Laws.{task_of, conf_of, PlacesChangeNothing}

found_same : {A : Type 0} (x : Found A) (f : Func) (l : ℕ) (ts : List Task) (w : World) (go : A → Conf) (on : A → m.Conf) → ((a : A) → conf_of (go a) ≡ on a) → conf_of (when_found x f l ts w go) ≡ m.when_found x f (map task_of ts) w on
unfolding when_found m.when_found
found_same (Ok a) f l ts w go on h = h a
found_same (Err o) f l ts w go on h = refl

got_same : {A : Type 0} (x : Got A) (f : Func) (l : ℕ) (ts : List Task) (go : A → Frame → World → Conf) (on : A → Frame → World → m.Conf) → ((a : A) (frame : Frame) (w : World) → conf_of (go a frame w) ≡ on a frame w) → conf_of (when_got x f l ts go) ≡ m.when_got x f (map task_of ts) on
unfolding when_got m.when_got
got_same (got a frame w) f l ts go on h = h a frame w
got_same (stopped o w) f l ts go on h = refl

so_same : (b : Bool) (reason : Reason) (f : Func) (l : ℕ) (ts : List Task) (w : World) (x : Conf) (y : m.Conf) → conf_of x ≡ y → conf_of (when_so b reason f l ts w x) ≡ m.when_so b reason f (map task_of ts) w y
unfolding when_so m.when_so
so_same true reason f l ts w x y h = h
so_same false reason f l ts w x y h = refl

if_same : (b : Bool) (x y : Conf) (u v : m.Conf) → conf_of x ≡ u → conf_of y ≡ v → conf_of (if b then x else y) ≡ (if b then u else v)
if_same true x y u v h k = h
if_same false x y u v h k = k

spend_same : (f : Func) (l : ℕ) (ts : List Task) (w : World) (go : World → Conf) (on : World → m.Conf) → ((w : World) → conf_of (go w) ≡ on w) → conf_of (spending f l ts w go) ≡ m.spending f (map task_of ts) w on
unfolding spending m.spending
spend_same f l ts w go on h = if_same (w.fuel == 0) _ _ _ _ refl (h (record w { fuel = w.fuel - 1 }))

block_same : (f : Func) (l : ℕ) (b : Block) (ts : List Task) (frame : Frame) (w : World) → conf_of (enter_block f l b ts frame w) ≡ m.enter_block f b (map task_of ts) frame w
block_same f l (block ss bound end) ts frame w = refl

arm_same : (f : Func) (l : ℕ) (c : Case) (arms : Arms) (ts : List Task) (frame : Frame) (w : World) → conf_of (enter_arm f l c arms ts frame w) ≡ m.enter_arm f c arms (map task_of ts) frame w
arm_same f l c no_arms ts frame w = refl
arm_same f l c (arm n vs body rest) ts frame w =
    if_same (c.number == n)
    (when_got (filled_got f vs (map one c.parts) frame w) f l ts (λ u frame2 v. enter_block f l body ts frame2 w)) (enter_arm f l c rest ts frame w)
    (m.when_got (filled_got f vs (map one c.parts) frame w) f (map task_of ts) (λ u frame2 v. m.enter_block f body (map task_of ts) frame2 w)) (m.enter_arm f c rest (map task_of ts) frame w)
    (got_same (filled_got f vs (map one c.parts) frame w) f l ts (λ u frame2 v. enter_block f l body ts frame2 w) (λ u frame2 v. m.enter_block f body (map task_of ts) frame2 w) (λ u frame2 v. block_same f l body ts frame2 w))
    (arm_same f l c rest ts frame w)

module _ (r : Setup) where
  body_same : (f : Func) (l : ℕ) (target : Option ℕ) (keys : List ℕ) (g : Func) (args : List Value) (ts : List Task) (frame : Frame) (w : World) → conf_of (enter_body r f l target keys g args ts frame w) ≡ m.enter_body r f target keys g args (map task_of ts) frame w
  unfolding enter_body m.enter_body
  body_same f l target keys g args ts frame w =
      if_same (nat_lt frame.depth r.depth) _ _ _ _
      (found_same (passed_objects r.program g keys frame w.objects g.clause) f l ts w _ _ (λ ns. refl))
      refl

  by_same : (external : Bool) (f : Func) (l : ℕ) (target : Option ℕ) (keys : List ℕ) (g : Func) (args : List Value) (ts : List Task) (frame : Frame) (w : World) → conf_of (enter_by external r f l target keys g args ts frame w) ≡ m.enter_by external r f target keys g args (map task_of ts) frame w
  unfolding enter_by m.enter_by
  by_same true f l target keys g args ts frame w = refl
  by_same false f l target keys g args ts frame w = body_same f l target keys g args ts frame w

  enter_same : (f : Func) (l : ℕ) (target : Option ℕ) (keys : List ℕ) (g : Func) (args : List Operand) (ts : List Task) (frame : Frame) (w : World) → conf_of (enter r f l target keys g args ts frame w) ≡ m.enter r f target keys g args (map task_of ts) frame w
  unfolding enter m.enter
  enter_same f l target keys g args ts frame w =
      so_same (length args == g.params) missing f l ts w _ _
      (got_same (operands_got r.program f args frame w) f l ts _ _ (λ values frame2 v.
      spend_same f l ts v _ _ (λ u. by_same g.external f l target keys (called_instance r.program g keys frame2 u.objects) values ts frame2 u)))

  turn_same : (f : Func) (l : ℕ) (e : Expr) (b : Block) (ts : List Task) (frame : Frame) (w : World) → conf_of (turn_on r f l e b ts frame w) ≡ m.turn_on r f e b (map task_of ts) frame w
  unfolding turn_on m.turn_on
  turn_same f l e b ts frame w =
      spend_same f l ts w _ _ (λ v.
      found_same (number_of r.program f e frame v.objects) f l ts v _ _ (λ z.
      if_same (is_true z) _ _ _ _ (block_same f l b (turn l e b ∷ ts) frame v) refl))

  act_same : (f : Func) (l : ℕ) (s : Form) (ts : List Task) (frame : Frame) (w : World) → conf_of (act r f l s ts frame w) ≡ m.act r f s (map task_of ts) frame w
  act_same f l (simple s) ts frame w = refl
  act_same f l (call g target keys args) ts frame w =
      found_same (or_fault missing (slice_get r.program.fns g)) f l ts w _ _ (λ g. enter_same f l target keys g args ts frame w)
  act_same f l (choose e a b) ts frame w =
      found_same (number_of r.program f e frame w.objects) f l ts w _ _ (λ z.
      if_same (is_true z) _ _ _ _ (block_same f l a ts frame w) (block_same f l b ts frame w))
  act_same f l (loop e b) ts frame w = turn_same f l e b ts frame w
  act_same f l (switch v arms end) ts frame w =
      found_same (or_fault missing (variant_of f v)) f l ts w _ _ (λ t.
      found_same (case_in (frame.vars v)) f l ts w _ _ (λ c.
      got_same (opened_got (case_keys r.program t c.number) c.keys frame w) f l ts _ _ (λ u same v2.
      arm_same f l c arms ts (with_empty_variable f v frame) v2)))
  act_same f l (focus y z body) ts frame w =
      found_same (or_fault missing (guarded_of f y)) f l ts w _ _ (λ g.
      found_same (or_fault missing (reference_of f z)) f l ts w _ _ (λ q.
      found_same (held_object g.key frame w.objects) f l ts w _ _ (λ a.
      found_same (guarded_object g y frame w.objects) f l ts w _ _ (λ n.
      block_same f l body (unfocus g q a.number n.number (end_of body) ∷ ts) _ _))))
  act_same f l (scope body) ts frame w = block_same f l body ts frame w
  act_same f l (return value) ts frame w = refl
  act_same f l (jump c) ts frame w = refl

  list_same : (f : Func) (l : ℕ) (ss : Stmts) (ts : List Task) (a : Step) → conf_of (list_moves r f l ss ts a) ≡ m.list_moves r f ss (map task_of ts) a
  list_same f l done ts (goes frame w) = refl
  list_same f l (next place form rest) ts (goes frame w) = act_same f place form (list rest ∷ ts) frame w
  list_same f l done ts (jumps c frame w) = refl
  list_same f l done ts (leaves a kept w) = refl
  list_same f l done ts (ends o w) = refl
  list_same f l (next place form rest) ts (jumps c frame w) = refl
  list_same f l (next place form rest) ts (leaves a kept w) = refl
  list_same f l (next place form rest) ts (ends o w) = refl

  turns_same : (f : Func) (l place : ℕ) (e : Expr) (b : Block) (ts : List Task) (a : Step) → conf_of (turn_moves r f l place e b ts a) ≡ m.turn_moves r f e b (map task_of ts) a
  turns_same f l place e b ts (goes frame w) = turn_same f place e b ts frame w
  turns_same f l place e b ts (jumps true frame w) = turn_same f place e b ts frame w
  turns_same f l place e b ts (jumps false frame w) = refl
  turns_same f l place e b ts (leaves a kept w) = refl
  turns_same f l place e b ts (ends o w) = refl

  task_same : (f : Func) (l : ℕ) (t : Task) (ts : List Task) (a : Step) → conf_of (task_moves r f l t ts a) ≡ m.task_moves r f (task_of t) (map task_of ts) a
  task_same f l (list ss) ts a = list_same f l ss ts a
  task_same f l (closing bound end) ts a = refl
  task_same f l (turn place e b) ts a = turns_same f l place e b ts a
  task_same f l (unfocus g q a n end) ts b = refl
  task_same f l (back k) ts a = refl

  move_same : (f : Func) (l : ℕ) (ts : List Task) (a : Step) → conf_of (moved_in r f l ts a) ≡ m.moved_in r f (map task_of ts) a
  move_same f l [] a = refl
  move_same f l (t ∷ ts) a = task_same f l t ts a

pub places_change_nothing : PlacesChangeNothing
places_change_nothing r zero c = refl
places_change_nothing r (suc n) c = places_change_nothing r n (after_move r c) ∙ ap (m.moves r n) (move_same r c.func c.place c.tasks c.step)
