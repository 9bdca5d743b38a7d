-- The machine of `vlt_meaning_laws` with places: of each function under way the statement that it began last, or the brace that
-- it came to.
use Rattle.std.specs.Prelude.{ℕ, zero, suc, ◌==◌, ◌-◌, nat_lt, Bool, true, false, if◌then◌else◌, List, [], ◌∷◌, length, map, Option, Some, None, slice_get, Ok, Err}
use Rattle.vlt_ops.specs.Operator.{is_true}
use Rattle.vlt_core.specs.Core.{Operand, Expr, Tok, Form, Block, block, Stmts, done, next, Arms, no_arms, arm, simple, call, choose, loop, switch, focus, scope, return, jump, Func}
use Rattle.vlt_core.specs.Lookups.{Reference, reference_of, guarded_of, variant_of, case_keys}
use Rattle.vlt_meaning.specs.World.{reference, Value, one, World, Frame, fuel_end, depth_end, fault, missing, held, lent, Reason}
use Rattle.vlt_meaning.specs.Found.{Found, or_fault}
use Rattle.vlt_meaning.specs.Objects.{with_owner}
use Rattle.vlt_meaning.specs.Values.{held_object, guarded_object, number_of}
use Rattle.vlt_meaning.specs.Step.{Step, goes, jumps, ends, with_changed, with_objects, with_var, with_key, left_block}
use Rattle.vlt_meaning.specs.Operands.{Case, case_in, with_empty_variable}
use Rattle.vlt_meaning.specs.Calls.{called_instance, passed_objects, handed_over, callee_frame, back_in, with_returned}
use Rattle.vlt_meaning.specs.Externals.{call_external}
use Rattle.vlt_meaning.specs.Run.{Setup, does_simple, left_function, focus_end}
use Rattle.vlt_meaning_laws.specs.Machine.Got.{Got, got, stopped, operands_got, opened_got, filled_got}

-- a function that waits for a call's return, and where it called
pub record Caller : Type 0 where
  pub func : Func
  pub place : ℕ
  pub frame : Frame
  pub target : Option ℕ
  pub keys : List ℕ

pub data Task : Type 0 where
  list : Stmts → Task
  -- the end of a block, at its brace
  closing : List Tok → (end : ℕ) → Task
  -- a loop whose body was begun, with the place of the loop
  turn : (place : ℕ) → Expr → Block → Task
  -- the end of a focus, at its brace
  unfocus : (guard key : Reference) → (adopter number : ℕ) → (end : ℕ) → Task
  back : Caller → Task

-- the running function and where it is, what is left to do, the next one first, and where the last step came to
pub record Conf : Type 0 where
  pub func : Func
  pub place : ℕ
  pub tasks : List Task
  pub step : Step

abbrev pub at : Func → (place : ℕ) → List Task → Step → Conf
at f l ts a = record { func = f; place = l; tasks = ts; step = a }

-- ---- parts of a move

unfoldable pub when_found : {A : Type 0} → Found A → Func → ℕ → List Task → World → (A → Conf) → Conf
when_found (Ok a) f l ts w go = go a
when_found (Err o) f l ts w go = at f l ts (ends o w)

unfoldable pub when_got : {A : Type 0} → Got A → Func → ℕ → List Task → (A → Frame → World → Conf) → Conf
when_got (got a frame w) f l ts go = go a frame w
when_got (stopped o w) f l ts go = at f l ts (ends o w)

unfoldable pub when_so : Bool → Reason → Func → ℕ → List Task → World → Conf → Conf
when_so true reason f l ts w x = x
when_so false reason f l ts w x = at f l ts (ends (fault reason None) w)

unfoldable pub spending : Func → ℕ → List Task → World → (World → Conf) → Conf
spending f l ts w go =
    if w.fuel == 0 then at f l ts (ends fuel_end w) else go (record w { fuel = w.fuel - 1 })

abbrev pub enter_block : Func → ℕ → Block → List Task → Frame → World → Conf
enter_block f l (block ss bound end) ts frame w = at f l (list ss ∷ closing bound end ∷ ts) (goes frame w)

abbrev pub end_of : Block → ℕ
end_of (block ss bound end) = end

abbrev pub enter_arm : Func → ℕ → Case → Arms → List Task → Frame → World → Conf
enter_arm f l c no_arms ts frame w = at f l ts (ends (fault missing None) w)
enter_arm f l c (arm n vs body rest) ts frame w =
    if c.number == n then
    when_got (filled_got f vs (map one c.parts) frame w) f l ts (λ u frame same. enter_block f l body ts frame w)
    else enter_arm f l c rest ts frame w

-- ---- calls

-- A function that was entered is at its end until it begins a statement.
unfoldable pub enter_body : Setup → Func → ℕ → (target : Option ℕ) → (keys : List ℕ) → Func → List Value → List Task → Frame → World → Conf
enter_body r f l target keys g args ts frame w =
    if nat_lt frame.depth r.depth then
    when_found (passed_objects r.program g keys frame w.objects g.clause) f l ts w (λ ns.
    at g g.end (list g.body ∷ back (record { func = f; place = l; frame = frame; target = target; keys = keys }) ∷ ts)
    (goes (callee_frame g keys args frame) (with_objects w (handed_over keys frame g.clause w.objects))))
    else at f l ts (ends depth_end w)

unfoldable pub enter_by : (external : Bool) → Setup → Func → ℕ → (target : Option ℕ) → (keys : List ℕ) → Func → List Value → List Task → Frame → World → Conf
enter_by true r f l target keys g args ts frame w =
    at f l ts (call_external r.heap r.program f target keys g args frame w)
enter_by false r f l target keys g args ts frame w = enter_body r f l target keys g args ts frame w

unfoldable pub enter : Setup → Func → ℕ → (target : Option ℕ) → (keys : List ℕ) → Func → List Operand → List Task → Frame → World → Conf
enter r f l target keys g args ts frame w =
    when_so (length args == g.params) missing f l ts w
    (when_got (operands_got r.program f args frame w) f l ts (λ values frame w.
    spending f l ts w (λ w. enter_by g.external r f l target keys (called_instance r.program g keys frame w.objects) values ts frame w)))

-- ---- statements

unfoldable pub turn_on : Setup → Func → ℕ → Expr → Block → List Task → Frame → World → Conf
turn_on r f l e b ts frame w =
    spending f l ts w (λ w.
    when_found (number_of r.program f e frame w.objects) f l ts w (λ z.
    if is_true z then enter_block f l b (turn l e b ∷ ts) frame w else at f l ts (goes frame w)))

-- the statement at the place, with what is left to do after it
abbrev pub act : Setup → Func → ℕ → Form → List Task → Frame → World → Conf
act r f l (simple s) ts frame w = at f l ts (does_simple r f s frame w)
act r f l (call g target keys args) ts frame w =
    when_found (or_fault missing (slice_get r.program.fns g)) f l ts w (λ g. enter r f l target keys g args ts frame w)
act r f l (choose e a b) ts frame w =
    when_found (number_of r.program f e frame w.objects) f l ts w (λ z.
    if is_true z then enter_block f l a ts frame w else enter_block f l b ts frame w)
act r f l (loop e b) ts frame w = turn_on r f l e b ts frame w
act r f l (switch v arms end) ts frame w =
    when_found (or_fault missing (variant_of f v)) f l ts w (λ t.
    when_found (case_in (frame.vars v)) f l ts w (λ c.
    when_got (opened_got (case_keys r.program t c.number) c.keys frame w) f l ts (λ u same w.
    enter_arm f l c arms ts (with_empty_variable f v frame) w)))
act r f l (focus y z body) ts frame w =
    when_found (or_fault missing (guarded_of f y)) f l ts w (λ g.
    when_found (or_fault missing (reference_of f z)) f l ts w (λ q.
    when_found (held_object g.key frame w.objects) f l ts w (λ a.
    when_found (guarded_object g y frame w.objects) f l ts w (λ n.
    enter_block f l body (unfocus g q a.number n.number (end_of body) ∷ ts)
    (with_var z (Some (one (reference n.number))) (with_key q.key n.number frame))
    (with_changed (with_changed w a.number (with_owner (lent frame.depth g.key)))
    n.number (with_owner (held frame.depth q.key)))))))
act r f l (scope body) ts frame w = enter_block f l body ts frame w
act r f l (return value) ts frame w =
    at f l ts (with_returned r.program f value frame w (λ a frame w. left_function r f value a frame w))
act r f l (jump c) ts frame w = at f l ts (jumps c frame w)

-- ---- moves

abbrev pub list_moves : Setup → Func → ℕ → Stmts → List Task → Step → Conf
list_moves r f l done ts (goes frame w) = at f l ts (goes frame w)
list_moves r f l (next place form rest) ts (goes frame w) = act r f place form (list rest ∷ ts) frame w
list_moves r f l ss ts a = at f l ts a

abbrev pub turn_moves : Setup → Func → (was place : ℕ) → Expr → Block → List Task → Step → Conf
turn_moves r f l place e b ts (goes frame w) = turn_on r f place e b ts frame w
turn_moves r f l place e b ts (jumps true frame w) = turn_on r f place e b ts frame w
turn_moves r f l place e b ts (jumps false frame w) = at f l ts (goes frame w)
turn_moves r f l place e b ts a = at f l ts a

-- a step that goes on comes to the brace; one that jumps is at its statement
abbrev pub brace_for : Step → (was end : ℕ) → ℕ
brace_for (goes frame w) l end = end
brace_for a l end = l

abbrev pub task_moves : Setup → Func → ℕ → Task → List Task → Step → Conf
task_moves r f l (list ss) ts a = list_moves r f l ss ts a
task_moves r f l (closing bound end) ts a = at f (brace_for a l end) ts (left_block bound a)
task_moves r f l (turn place e b) ts a = turn_moves r f l place e b ts a
task_moves r f l (unfocus g q m n end) ts a = at f (brace_for a l end) ts (focus_end r g q m n a)
task_moves r f l (back k) ts a = at k.func k.place ts (back_in k.func k.target k.keys f k.frame a)

-- one move; with nothing left to do it stays
abbrev pub moved_in : Setup → Func → ℕ → List Task → Step → Conf
moved_in r f l [] a = at f l [] a
moved_in r f l (t ∷ ts) a = task_moves r f l t ts a

abbrev pub after_move : Setup → Conf → Conf
after_move r c = moved_in r c.func c.place c.tasks c.step

abbrev pub moves : Setup → ℕ → Conf → Conf
moves r zero c = c
moves r (suc n) c = moves r n (after_move r c)

abbrev pub first_conf : Func → Frame → World → Conf
first_conf f frame w = at f f.end (list f.body ∷ []) (goes frame w)
