-- What holds of all statements that are left holds of them after each move.
use Rattle.std.proofs.Common.{◌≡◌, ℕ, ◌==◌, nat_lt, Bool, true, false, if◌then◌else◌, List, [], ◌∷◌, length, map, Option, Some, None, Ok, Err, slice_get, refl, ap}
use Rattle.std.specs.Option.{option_map}
use Rattle.vlt_ops.specs.Operator.{is_true}
use Rattle.vlt_core.specs.Core.{Operand, Expr, Form, Block, block, Stmts, done, next, Arms, no_arms, arm, simple, call, choose, loop, switch, focus, scope, return, jump, Func, Program}
use Rattle.vlt_core.specs.Instances.{bound_in}
use Rattle.vlt_core.specs.Lookups.{reference_of, guarded_of, variant_of, case_keys}
use Rattle.vlt_meaning.specs.World.{Value, one, World, Frame, missing, Reason}
use Rattle.vlt_meaning.specs.Found.{Found, or_fault}
use Rattle.vlt_meaning.specs.Values.{held_object, guarded_object, number_of}
use Rattle.vlt_meaning.specs.Step.{Step, goes, jumps, leaves, ends}
use Rattle.vlt_meaning.specs.Operands.{Case, case_in, with_empty_variable}
use Rattle.vlt_meaning.specs.Calls.{state_under, called_instance, passed_objects}
use Rattle.vlt_meaning.specs.Run.{Setup}
use Rattle.vlt_meaning_laws.proofs.Keeping.{err-ok}
use Rattle.vlt_meaning_laws.specs.Machine.Got.{Got, got, stopped, operands_got, opened_got, filled_got}
use Rattle.vlt_meaning_laws.specs.Machine.Machine.{Task, list, closing, turn, unfocus, back, Conf, when_found, when_got, when_so, spending, enter_block, enter_arm, enter_body, enter_by, enter, turn_on, act, list_moves, turn_moves, moved_in, after_move}
use Rattle.vlt_interp.specs.Tasks.Own.{IsOf}
use Rattle.vlt_interp.specs.Owned.{HoldsIn}
use Rattle.vlt_interp.proofs.Likeness.{of_itself, of_instance}

found_is : (x : Option Func) (g : Func) → or_fault missing x ≡ Ok g → x ≡ Some g
found_is None g e = absurd (err-ok e)
found_is (Some y) g e = ap Some (same_ok y g e)
  where
    same_ok : (y g : Func) → ◌≡◌ {A = Found Func} (Ok y) (Ok g) → y ≡ g
    same_ok y g e = cc

-- where it holds of a statement it holds of the parts, and it holds of the body of each function and of its instances
pub record IsClosed (p : Program) (L : Func → Stmts → Type 0) (F : Func → Form → Type 0) (B : Func → Block → Type 0) (A : Func → Arms → Type 0) : Type 0 where
  pub first_of : (f : Func) (place : ℕ) (form : Form) (rest : Stmts) → L f (next place form rest) → F f form
  pub rest_of : (f : Func) (place : ℕ) (form : Form) (rest : Stmts) → L f (next place form rest) → L f rest
  pub list_in : (f : Func) (ss : Stmts) (bound : _) (end : ℕ) → B f (block ss bound end) → L f ss
  pub yes_in : (f : Func) (e : Expr) (a b : Block) → F f (choose e a b) → B f a
  pub no_in : (f : Func) (e : Expr) (a b : Block) → F f (choose e a b) → B f b
  pub loop_in : (f : Func) (e : Expr) (b : Block) → F f (loop e b) → B f b
  pub switch_in : (f : Func) (v : ℕ) (arms : Arms) (end : ℕ) → F f (switch v arms end) → A f arms
  pub arm_in : (f : Func) (c : ℕ) (vs : List ℕ) (b : Block) (rest : Arms) → A f (arm c vs b rest) → B f b
  pub arms_in : (f : Func) (c : ℕ) (vs : List ℕ) (b : Block) (rest : Arms) → A f (arm c vs b rest) → A f rest
  pub focus_in : (f : Func) (y z : ℕ) (b : Block) → F f (focus y z b) → B f b
  pub scope_in : (f : Func) (b : Block) → F f (scope b) → B f b
  pub body_of : (f : Func) → IsOf p f → L f f.body

module _ (r : Setup) (L : Func → Stmts → Type 0) (F : Func → Form → Type 0) (B : Func → Block → Type 0) (A : Func → Arms → Type 0) (k : IsClosed r.program L F B A) where
  abbrev In : Func → List Task → Type 0
  In f ts = HoldsIn L F r.program f ts

  abbrev Holds : Conf → Type 0
  Holds c = In c.func c.tasks

  found_holds : {X : Type 0} (x : Found X) (f : Func) (ts : List Task) (w : World) (conf : X → Conf) → In f ts → ((a : X) → x ≡ Ok a → Holds (conf a)) → Holds (when_found x f ts w conf)
  unfolding when_found
  found_holds (Ok a) f ts w conf s h = h a refl
  found_holds (Err o) f ts w conf s h = s

  so_holds : (b : Bool) (reason : Reason) (f : Func) (ts : List Task) (w : World) (c : Conf) → In f ts → Holds c → Holds (when_so b reason f ts w c)
  unfolding when_so
  so_holds true reason f ts w c s h = h
  so_holds false reason f ts w c s h = s

  if_holds : (b : Bool) (c d : Conf) → Holds c → Holds d → Holds (if b then c else d)
  if_holds true c d h k = h
  if_holds false c d h k = k

  spend_holds : (f : Func) (ts : List Task) (w : World) (conf : World → Conf) → In f ts → ((v : World) → Holds (conf v)) → Holds (spending f ts w conf)
  unfolding spending
  spend_holds f ts w conf s h = if_holds (w.fuel == 0) _ _ s (h _)

  got_holds : {X : Type 0} (x : Got X) (f : Func) (ts : List Task) (conf : X → Frame → World → Conf) → In f ts → ((a : X) (frame : Frame) (w : World) → Holds (conf a frame w)) → Holds (when_got x f ts conf)
  unfolding when_got
  got_holds (got a frame w) f ts conf s h = h a frame w
  got_holds (stopped o w) f ts conf s h = s

  block_holds : (f : Func) (b : Block) (ts : List Task) (frame : Frame) (w : World) → In f ts → B f b → Holds (enter_block f b ts frame w)
  block_holds f (block ss bound end) ts frame w s h = record { func = s.func; tasks = (k.list_in f ss bound end h, s.tasks) }

  arm_holds : (f : Func) (c : Case) (arms : Arms) (ts : List Task) (frame : Frame) (w : World) → In f ts → A f arms → Holds (enter_arm f c arms ts frame w)
  arm_holds f c no_arms ts frame w s h = s
  arm_holds f c (arm n vs body rest) ts frame w s h =
      if_holds (c.number == n) _ _
      (got_holds (filled_got f vs (map one c.parts) frame w) f ts _ s (λ u frame2 v. block_holds f body ts frame2 w s (k.arm_in f n vs body rest h)))
      (arm_holds f c rest ts frame w s (k.arms_in f n vs body rest h))

  turn_holds : (f : Func) (e : Expr) (b : Block) (ts : List Task) (frame : Frame) (w : World) → In f ts → F f (loop e b) → Holds (turn_on r f e b ts frame w)
  unfolding turn_on
  turn_holds f e b ts frame w s h =
      spend_holds f ts w _ s (λ v. found_holds (number_of r.program f e frame v.objects) f ts v _ s (λ z is.
      if_holds (is_true z) _ _ (block_holds f b (turn e b ∷ ts) frame v (record { func = s.func; tasks = (h, s.tasks) }) (k.loop_in f e b h)) s))

  body_holds : (f : Func) (target : Option ℕ) (keys : List ℕ) (g : Func) (args : List Value) (ts : List Task) (frame : Frame) (w : World) → In f ts → IsOf r.program g → Holds (enter_body r f target keys g args ts frame w)
  unfolding enter_body
  body_holds f target keys g args ts frame w s o =
      if_holds (nat_lt frame.depth r.depth) _ _
      (found_holds (passed_objects r.program g keys frame w.objects g.clause) f ts w _ s (λ ns is.
      record { func = o; tasks = (k.body_of g o, (s.func, s.tasks)) }))
      s

  by_holds : (external : Bool) (f : Func) (target : Option ℕ) (keys : List ℕ) (g : Func) (args : List Value) (ts : List Task) (frame : Frame) (w : World) → In f ts → IsOf r.program g → Holds (enter_by external r f target keys g args ts frame w)
  unfolding enter_by
  by_holds true f target keys g args ts frame w s o = s
  by_holds false f target keys g args ts frame w s o = body_holds f target keys g args ts frame w s o

  call_holds : (f : Func) (target : Option ℕ) (keys : List ℕ) (g : Func) (args : List Operand) (ts : List Task) (frame : Frame) (w : World) → In f ts → IsOf r.program g → Holds (enter r f target keys g args ts frame w)
  unfolding enter
  call_holds f target keys g args ts frame w s o =
      so_holds (length args == g.params) missing f ts w _ s
      (got_holds (operands_got r.program f args frame w) f ts _ s (λ values frame2 v. spend_holds f ts v _ s (λ u.
      by_holds g.external f target keys (called_instance r.program g keys frame2 u.objects) values ts frame2 u s
      (of_instance r.program g (option_map (λ b. state_under keys frame2 u.objects b.key) (bound_in g.clause)) o))))

  act_holds : (f : Func) (form : Form) (ts : List Task) (frame : Frame) (w : World) → In f ts → F f form → Holds (act r f form ts frame w)
  act_holds f (simple x) ts frame w s h = s
  act_holds f (call g target keys args) ts frame w s h =
      found_holds (or_fault missing (slice_get r.program.fns g)) f ts w _ s (λ x is. call_holds f target keys x args ts frame w s (of_itself r.program g x (found_is (slice_get r.program.fns g) x is)))
  act_holds f (choose x a b) ts frame w s h =
      found_holds (number_of r.program f x frame w.objects) f ts w _ s (λ z is.
      if_holds (is_true z) _ _ (block_holds f a ts frame w s (k.yes_in f x a b h)) (block_holds f b ts frame w s (k.no_in f x a b h)))
  act_holds f (loop x b) ts frame w s h = turn_holds f x b ts frame w s h
  act_holds f (switch v arms end) ts frame w s h =
      found_holds (or_fault missing (variant_of f v)) f ts w _ s (λ t is.
      found_holds (case_in (frame.vars v)) f ts w _ s (λ c is2.
      got_holds (opened_got (case_keys r.program t c.number) c.keys frame w) f ts _ s (λ u same w2. arm_holds f c arms ts (with_empty_variable f v frame) w2 s (k.switch_in f v arms end h))))
  act_holds f (focus y z body) ts frame w s h =
      found_holds (or_fault missing (guarded_of f y)) f ts w _ s (λ g is.
      found_holds (or_fault missing (reference_of f z)) f ts w _ s (λ q is2.
      found_holds (held_object g.key frame w.objects) f ts w _ s (λ a is3.
      found_holds (guarded_object g y frame w.objects) f ts w _ s (λ n is4.
      block_holds f body (unfocus g q a.number n.number ∷ ts) _ _ (record { func = s.func; tasks = s.tasks }) (k.focus_in f y z body h)))))
  act_holds f (scope body) ts frame w s h = block_holds f body ts frame w s (k.scope_in f body h)
  act_holds f (return value) ts frame w s h = s
  act_holds f (jump c) ts frame w s h = s

  -- ---- moves

  following : (f : Func) (ss : Stmts) (ts : List Task) → In f (list ss ∷ ts) → In f ts
  following f ss ts s = record { func = s.func; tasks = s.tasks.1 }

  list_holds : (f : Func) (ss : Stmts) (ts : List Task) (a : Step) → In f (list ss ∷ ts) → Holds (list_moves r f ss ts a)
  list_holds f done ts (goes frame w) s = following f done ts s
  list_holds f (next place form rest) ts (goes frame w) s =
      act_holds f form (list rest ∷ ts) frame w (record { func = s.func; tasks = (k.rest_of f place form rest s.tasks.0, s.tasks.1) }) (k.first_of f place form rest s.tasks.0)
  list_holds f done ts (jumps c frame w) s = following f done ts s
  list_holds f (next place form rest) ts (jumps c frame w) s = following f (next place form rest) ts s
  list_holds f done ts (leaves a kept w) s = following f done ts s
  list_holds f (next place form rest) ts (leaves a kept w) s = following f (next place form rest) ts s
  list_holds f done ts (ends o w) s = following f done ts s
  list_holds f (next place form rest) ts (ends o w) s = following f (next place form rest) ts s

  again_holds : (f : Func) (e : Expr) (b : Block) (ts : List Task) (a : Step) → In f ts → F f (loop e b) → Holds (turn_moves r f e b ts a)
  again_holds f e b ts (goes frame w) s h = turn_holds f e b ts frame w s h
  again_holds f e b ts (jumps true frame w) s h = turn_holds f e b ts frame w s h
  again_holds f e b ts (jumps false frame w) s h = s
  again_holds f e b ts (leaves a kept w) s h = s
  again_holds f e b ts (ends o w) s h = s

  move_holds : (f : Func) (ts : List Task) (a : Step) → In f ts → Holds (moved_in r f ts a)
  move_holds f [] a s = s
  move_holds f (list ss ∷ ts) a s = list_holds f ss ts a s
  move_holds f (closing bound ∷ ts) a s = record { func = s.func; tasks = s.tasks }
  move_holds f (turn e b ∷ ts) a s = again_holds f e b ts a (record { func = s.func; tasks = s.tasks.1 }) s.tasks.0
  move_holds f (unfocus g q m n ∷ ts) a s = record { func = s.func; tasks = s.tasks }
  move_holds f (back c ∷ ts) a s = record { func = s.tasks.0; tasks = s.tasks.1 }

  -- each move keeps it
  pub moved_holds : (c : Conf) → Holds c → Holds (after_move r c)
  moved_holds c h = move_holds c.func c.tasks c.step h

  -- and it holds where a function begins
  pub first_holds : (f : Func) → IsOf r.program f → In f (list f.body ∷ [])
  first_holds f of = record { func = of; tasks = (k.body_of f of, tt) }
