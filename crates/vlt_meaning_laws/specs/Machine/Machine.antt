-- A machine for core programs on plain data: a stack of what is left to do, and where the last step came to. It is a tool of
-- the proof of `vlt_interp`.
use Rattle.std.specs.Prelude.{ℕ, zero, suc, ◌==◌, ◌-◌, nat_lt, Bool, true, false, if◌then◌else◌, List, [], ◌∷◌, length, map, Option, Some, None, slice_get, Ok, Err}
use Rattle.vlt_ops.specs.Operator.{is_true}
use Rattle.vlt_core.specs.Core.{Operand, Expr, Tok, Form, Block, block, Stmts, done, next, Arms, no_arms, arm, simple, call, choose, loop, switch, focus, scope, return, jump, Func}
use Rattle.vlt_core.specs.Lookups.{Reference, reference_of, guarded_of, variant_of, case_keys}
use Rattle.vlt_meaning.specs.World.{reference, Value, one, World, Frame, fuel_end, depth_end, fault, missing, held, lent, Reason}
use Rattle.vlt_meaning.specs.Found.{Found, or_fault}
use Rattle.vlt_meaning.specs.Objects.{with_owner}
use Rattle.vlt_meaning.specs.Values.{held_object, guarded_object, number_of}
use Rattle.vlt_meaning.specs.Step.{Step, goes, jumps, ends, with_changed, with_objects, with_var, with_key, left_block}
use Rattle.vlt_meaning.specs.Operands.{Case, case_in, with_empty_variable}
use Rattle.vlt_meaning.specs.Calls.{called_instance, passed_objects, handed_over, callee_frame, back_in, with_returned}
use Rattle.vlt_meaning.specs.Externals.{call_external}
use Rattle.vlt_meaning.specs.Run.{Setup, does_simple, left_function, focus_end}
use Rattle.vlt_meaning_laws.specs.Machine.Got.{Got, got, stopped, operands_got, opened_got, filled_got}

-- a function that waits for a call's return: its frame, and of the call the target and the caller's keys
pub record Caller : Type 0 where
  pub func : Func
  pub frame : Frame
  pub target : Option ℕ
  pub keys : List ℕ

pub data Task : Type 0 where
  -- statements of the running function
  list : Stmts → Task
  -- the end of a block that bound these tokens
  closing : List Tok → Task
  -- a loop, whose body was begun
  turn : Expr → Block → Task
  -- the end of a focus
  unfocus : (guard key : Reference) → (adopter number : ℕ) → Task
  back : Caller → Task

-- the running function, what is left to do, the next one first, and where the last step came to
pub record Conf : Type 0 where
  pub func : Func
  pub tasks : List Task
  pub step : Step

abbrev pub at : Func → List Task → Step → Conf
at f ts a = record { func = f; tasks = ts; step = a }

-- ---- parts of a move

unfoldable pub when_found : {A : Type 0} → Found A → Func → List Task → World → (A → Conf) → Conf
when_found (Ok a) f ts w go = go a
when_found (Err o) f ts w go = at f ts (ends o w)

unfoldable pub when_got : {A : Type 0} → Got A → Func → List Task → (A → Frame → World → Conf) → Conf
when_got (got a frame w) f ts go = go a frame w
when_got (stopped o w) f ts go = at f ts (ends o w)

unfoldable pub when_so : Bool → Reason → Func → List Task → World → Conf → Conf
when_so true reason f ts w x = x
when_so false reason f ts w x = at f ts (ends (fault reason None) w)

unfoldable pub spending : Func → List Task → World → (World → Conf) → Conf
spending f ts w go =
    if w.fuel == 0 then at f ts (ends fuel_end w) else go (record w { fuel = w.fuel - 1 })

abbrev pub enter_block : Func → Block → List Task → Frame → World → Conf
enter_block f (block ss bound end) ts frame w = at f (list ss ∷ closing bound ∷ ts) (goes frame w)

abbrev pub enter_arm : Func → Case → Arms → List Task → Frame → World → Conf
enter_arm f c no_arms ts frame w = at f ts (ends (fault missing None) w)
enter_arm f c (arm n vs body rest) ts frame w =
    if c.number == n then
    when_got (filled_got f vs (map one c.parts) frame w) f ts (λ u frame same. enter_block f body ts frame w)
    else enter_arm f c rest ts frame w

-- ---- calls

-- a function with a body is entered where the depth allows
unfoldable pub enter_body : Setup → Func → (target : Option ℕ) → (keys : List ℕ) → Func → List Value → List Task → Frame → World → Conf
enter_body r f target keys g args ts frame w =
    if nat_lt frame.depth r.depth then
    when_found (passed_objects r.program g keys frame w.objects g.clause) f ts w (λ ns.
    at g (list g.body ∷ back (record { func = f; frame = frame; target = target; keys = keys }) ∷ ts)
    (goes (callee_frame g keys args frame) (with_objects w (handed_over keys frame g.clause w.objects))))
    else at f ts (ends depth_end w)

unfoldable pub enter_by : (external : Bool) → Setup → Func → (target : Option ℕ) → (keys : List ℕ) → Func → List Value → List Task → Frame → World → Conf
enter_by true r f target keys g args ts frame w =
    at f ts (call_external r.heap r.program f target keys g args frame w)
enter_by false r f target keys g args ts frame w = enter_body r f target keys g args ts frame w

unfoldable pub enter : Setup → Func → (target : Option ℕ) → (keys : List ℕ) → Func → List Operand → List Task → Frame → World → Conf
enter r f target keys g args ts frame w =
    when_so (length args == g.params) missing f ts w
    (when_got (operands_got r.program f args frame w) f ts (λ values frame w.
    spending f ts w (λ w. enter_by g.external r f target keys (called_instance r.program g keys frame w.objects) values ts frame w)))

-- ---- statements

-- the next turn of a loop, or what is after it
unfoldable pub turn_on : Setup → Func → Expr → Block → List Task → Frame → World → Conf
turn_on r f e b ts frame w =
    spending f ts w (λ w.
    when_found (number_of r.program f e frame w.objects) f ts w (λ z.
    if is_true z then enter_block f b (turn e b ∷ ts) frame w else at f ts (goes frame w)))

-- a statement, with what is left to do after it
abbrev pub act : Setup → Func → Form → List Task → Frame → World → Conf
act r f (simple s) ts frame w = at f ts (does_simple r f s frame w)
act r f (call g target keys args) ts frame w =
    when_found (or_fault missing (slice_get r.program.fns g)) f ts w (λ g. enter r f target keys g args ts frame w)
act r f (choose e a b) ts frame w =
    when_found (number_of r.program f e frame w.objects) f ts w (λ z.
    if is_true z then enter_block f a ts frame w else enter_block f b ts frame w)
act r f (loop e b) ts frame w = turn_on r f e b ts frame w
act r f (switch v arms end) ts frame w =
    when_found (or_fault missing (variant_of f v)) f ts w (λ t.
    when_found (case_in (frame.vars v)) f ts w (λ c.
    when_got (opened_got (case_keys r.program t c.number) c.keys frame w) f ts (λ u same w.
    enter_arm f c arms ts (with_empty_variable f v frame) w)))
act r f (focus y z body) ts frame w =
    when_found (or_fault missing (guarded_of f y)) f ts w (λ g.
    when_found (or_fault missing (reference_of f z)) f ts w (λ q.
    when_found (held_object g.key frame w.objects) f ts w (λ a.
    when_found (guarded_object g y frame w.objects) f ts w (λ n.
    enter_block f body (unfocus g q a.number n.number ∷ ts)
    (with_var z (Some (one (reference n.number))) (with_key q.key n.number frame))
    (with_changed (with_changed w a.number (with_owner (lent frame.depth g.key)))
    n.number (with_owner (held frame.depth q.key)))))))
act r f (scope body) ts frame w = enter_block f body ts frame w
act r f (return value) ts frame w =
    at f ts (with_returned r.program f value frame w (λ a frame w. left_function r f value a frame w))
act r f (jump c) ts frame w = at f ts (jumps c frame w)

-- ---- moves

-- statements go on only from a step that came to them
abbrev pub list_moves : Setup → Func → Stmts → List Task → Step → Conf
list_moves r f done ts (goes frame w) = at f ts (goes frame w)
list_moves r f (next place form rest) ts (goes frame w) = act r f form (list rest ∷ ts) frame w
list_moves r f ss ts a = at f ts a

abbrev pub turn_moves : Setup → Func → Expr → Block → List Task → Step → Conf
turn_moves r f e b ts (goes frame w) = turn_on r f e b ts frame w
turn_moves r f e b ts (jumps true frame w) = turn_on r f e b ts frame w
turn_moves r f e b ts (jumps false frame w) = at f ts (goes frame w)
turn_moves r f e b ts a = at f ts a

-- what the next task does with where the last step came to
abbrev pub task_moves : Setup → Func → Task → List Task → Step → Conf
task_moves r f (list ss) ts a = list_moves r f ss ts a
task_moves r f (closing bound) ts a = at f ts (left_block bound a)
task_moves r f (turn e b) ts a = turn_moves r f e b ts a
task_moves r f (unfocus g q m n) ts a = at f ts (focus_end r g q m n a)
task_moves r f (back k) ts a = at k.func ts (back_in k.func k.target k.keys f k.frame a)

-- one move; with nothing left to do it stays
abbrev pub moved_in : Setup → Func → List Task → Step → Conf
moved_in r f [] a = at f [] a
moved_in r f (t ∷ ts) a = task_moves r f t ts a

abbrev pub after_move : Setup → Conf → Conf
after_move r c = moved_in r c.func c.tasks c.step

abbrev pub moves : Setup → ℕ → Conf → Conf
moves r zero c = c
moves r (suc n) c = moves r n (after_move r c)

-- the start of a run of a function
abbrev pub first_conf : Func → Frame → World → Conf
first_conf f frame w = at f (list f.body ∷ []) (goes frame w)
