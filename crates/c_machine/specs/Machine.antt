-- A machine over a flat table of values and a stack of tasks. It is a tool of the proof of `c_interp`.
use Rattle.std.specs.Prelude.{◌≡◌, ℕ, zero, suc, ◌+◌, ◌-◌, ◌==◌, Bool, true, false, IsTrue, if◌then◌else◌, List, [], ◌∷◌, ◌++◌, map, length, take, drop, replicate, Option, Some, None, Result, Ok, Err}
use Rattle.vlt_ops.specs.Operator.{is_true}
use Rattle.c_syntax.specs.declared.rules.TheConstants as rule
use Rattle.c_syntax.specs.declared.program.CResult.{CResult}
use Rattle.c_syntax.specs.declared.program.CResult.TheVariants as result
use Rattle.c_syntax.specs.declared.program.CVar.{CVar}
use Rattle.c_syntax.specs.C as c
use Rattle.c_syntax.specs.C.{Expr, Arg, Call, Stmt, Stmts, Func, Program}
use Rattle.c_syntax.specs.Kinds.{same_variable, is_one_of}
use Rattle.c_meaning.specs.World.{Value, World, Vars, Outcome, done, fuel_end, depth_end, undefined}
use Rattle.c_meaning.specs.Values.{value_of, arg_values}
use Rattle.c_meaning.specs.Primitives.{Effect, gives, breaks_rule, ends, set_does, put_does, primitive_does}
use Rattle.c_meaning.specs.Widths.{names_of}
use Rattle.c_meaning.specs.Run.{count_in_stmt, count_in, count_of, Numbered, function_of, main_of, Frame, Setup, has_room, depth_in, can_call, condition}

-- ---- the values of a frame, one for each name

abbrev pub value_under : List CVar → List (Option Value) → Vars
value_under [] xs u = None
value_under (v ∷ vs) [] u = None
value_under (v ∷ vs) (x ∷ xs) u = if same_variable u v then x else value_under vs xs u

abbrev pub with_value_under : List CVar → List (Option Value) → CVar → Value → List (Option Value)
with_value_under [] xs u a = xs
with_value_under (v ∷ vs) [] u a = []
with_value_under (v ∷ vs) (x ∷ xs) u a = if same_variable u v then Some a ∷ xs else x ∷ with_value_under vs xs u a

-- arguments, and variables that aren't set
abbrev pub first_values : Func → List Value → List (Option Value)
first_values f values = map Some values ++ replicate (length f.vars) None

-- ---- what is left to do

-- a caller: where its values begin, its names, whether it is glue, the number of the call, its target, and what the
-- callee gives
pub record Caller : Type 0 where
  pub base : ℕ
  pub names : List CVar
  pub is_glue : Bool
  pub n : ℕ
  pub target : Option CVar
  pub given : CResult

pub data Task : Type 0 where
  -- statements, of which the first has the number n
  list : (n : ℕ) → Stmts → Task
  -- a loop, of which a turn comes next
  again : (n : ℕ) → Stmts → Task
  back : Caller → Task
  -- the function that the run began with
  bottom : CResult → Task

-- the values of all frames, and of the running one: where they begin, its names, whether it is glue, and its depth
pub record State : Type 0 where
  pub slots : List (Option Value)
  pub base : ℕ
  pub names : List CVar
  pub is_glue : Bool
  pub depth : ℕ
  pub world : World

-- the tasks stand with the next one first
pub record Conf : Type 0 where
  pub tasks : List Task
  pub state : State

pub data Next : Type 0 where
  goes : Conf → Next
  stops : Outcome → World → Next

abbrev pub on : List Task → State → Next
on ts s = goes (record { tasks = ts; state = s })

abbrev pub vars_in : State → Vars
vars_in s = value_under s.names (drop s.base s.slots)

abbrev pub frame_in : State → Frame
frame_in s = record { depth = s.depth; is_glue = s.is_glue; vars = vars_in s }

abbrev pub with_world : World → State → State
with_world w s = record s { world = w }

abbrev pub with_slot : CVar → Value → State → State
with_slot v a s = record s { slots = take s.base s.slots ++ with_value_under s.names (drop s.base s.slots) v a }

-- ---- moves

abbrev pub after_receiving : (n : ℕ) → Option CVar → Option Value → List Task → State → Next
after_receiving n None a ts s = on ts s
after_receiving n (Some v) None ts s = stops (undefined rule.NO_VALUE n) s.world
after_receiving n (Some v) (Some a) ts s = on ts (with_slot v a s)

unfoldable pub after : (n : ℕ) → Option CVar → Effect → List Task → State → Next
after n target (gives a w) ts s = after_receiving n target a ts (with_world w s)
after n target (breaks_rule r) ts s = stops (undefined r n) s.world
after n target (ends o w) ts s = stops o w

unfoldable pub with_found : {A : Type 0} → (n : ℕ) → Result A ℕ → State → (A → Next) → Next
with_found n (Err r) s go = stops (undefined r n) s.world
with_found n (Ok a) s go = go a

abbrev pub depth_out : Bool → ℕ → ℕ
depth_out true depth = depth
depth_out false depth = depth - 1

abbrev pub caller_state : Caller → State → State
caller_state k s = record {
  slots = take s.base s.slots;
  base = k.base;
  names = k.names;
  is_glue = k.is_glue;
  depth = depth_out s.is_glue s.depth;
  world = s.world;
}

-- what becomes of the stack at a return
abbrev pub leave : Option Value → List Task → State → Next
leave a [] s = stops done s.world
leave a (list n ss ∷ ts) s = leave a ts s
leave a (again n b ∷ ts) s = leave a ts s
leave a (back k ∷ ts) s = after_receiving k.n k.target a ts (caller_state k s)
leave a (bottom g ∷ ts) s = stops done s.world

abbrev pub break_to : (count : ℕ) → List Task → State → Next
break_to count [] s = stops (undefined rule.NO_VALUE count) s.world
break_to count (list n ss ∷ ts) s = break_to count ts s
break_to count (again n b ∷ ts) s = on ts s
break_to count (back k ∷ ts) s = stops (undefined rule.NO_VALUE count) s.world
break_to count (bottom g ∷ ts) s = stops (undefined rule.NO_VALUE count) s.world

abbrev pub continue_to : (count : ℕ) → List Task → State → Next
continue_to count [] s = stops (undefined rule.NO_VALUE count) s.world
continue_to count (list n ss ∷ ts) s = continue_to count ts s
continue_to count (again n b ∷ ts) s = on (again n b ∷ ts) s
continue_to count (back k ∷ ts) s = stops (undefined rule.NO_VALUE count) s.world
continue_to count (bottom g ∷ ts) s = stops (undefined rule.NO_VALUE count) s.world

-- the end of a body
abbrev pub body_end : (count : ℕ) → CResult → Option Value → List Task → State → Next
body_end count result.Nothing a ts s = leave a ts s
body_end count _ a ts s = stops (undefined rule.NO_VALUE count) s.world

unfoldable pub spend : State → (State → Next) → Next
spend s go =
    if s.world.fuel == 0 then stops fuel_end s.world
    else go (with_world (record s.world { fuel = s.world.fuel - 1 }) s)

abbrev pub callee_state : (glue : Bool) → Func → List Value → State → State
callee_state glue g values s = record {
  slots = s.slots ++ first_values g values;
  base = length s.slots;
  names = names_of g;
  is_glue = glue;
  depth = depth_in glue s.depth;
  world = s.world;
}

abbrev pub caller_of : (n : ℕ) → Option CVar → Func → State → Caller
caller_of n target g s =
    record { base = s.base; names = s.names; is_glue = s.is_glue; n = n; target = target; given = g.result }

unfoldable pub enter : Setup → (n : ℕ) → Option CVar → (glue : Bool) → Numbered → List Value → List Task → State → Next
enter r n target glue g values ts s =
    spend s (λ s.
    if has_room r glue s.depth then
    on (list g.first g.func.body ∷ back (caller_of n target g.func s) ∷ ts) (callee_state glue g.func values s)
    else stops depth_end s.world)

unfoldable pub call_found : Setup → (n : ℕ) → Option CVar → (glue : Bool) → List Arg → Option Numbered → List Task → State → Next
call_found r n target glue xs None ts s = stops (undefined rule.NO_VALUE n) s.world
call_found r n target glue xs (Some g) ts s =
    if can_call glue g.func xs (frame_in s) then
    with_found n (arg_values xs (vars_in s)) s (λ values. enter r n target glue g values ts s)
    else stops (undefined rule.NO_VALUE n) s.world

abbrev pub does_call : Setup → (n : ℕ) → Option CVar → Call → List Task → State → Next
does_call r n target (c.primitive p xs) ts s = after n target (primitive_does r.heap p xs (vars_in s) s.world) ts s
does_call r n target (c.function f xs) ts s = call_found r n target f.glue xs (function_of r.program f) ts s

abbrev pub returns : (n : ℕ) → Option Expr → List Task → State → Next
returns n None ts s = leave None ts s
returns n (Some e) ts s = with_found n (value_of e (vars_in s) s.world.blocks) s (λ a. leave (Some a) ts s)

-- the statement x of the number n
abbrev pub act : Setup → (n : ℕ) → Stmt → List Task → State → Next
act r n (c.set v e) ts s = after n (Some v) (set_does e (vars_in s) s.world) ts s
act r n (c.set_call v f) ts s = does_call r n (Some v) f ts s
act r n (c.call f) ts s = does_call r n None f ts s
act r n (c.put x e) ts s = after n None (put_does x e (vars_in s) s.world) ts s
act r n (c.when e xs) ts s =
    with_found n (condition e (frame_in s) s.world) s (λ z. if is_true z then on (list (suc n) xs ∷ ts) s else on ts s)
act r n (c.choose e xs ys) ts s =
    with_found n (condition e (frame_in s) s.world) s (λ z.
    if is_true z then on (list (suc n) xs ∷ ts) s else on (list (suc n + count_in xs) ys ∷ ts) s)
act r n (c.loop b) ts s = on (again n b ∷ ts) s
act r n c.break ts s = break_to (count_of r.program) ts s
act r n c.continue ts s = continue_to (count_of r.program) ts s
act r n (c.return e) ts s = returns n e ts s

-- one move
abbrev pub move_of : Setup → List Task → State → Next
move_of r [] s = stops done s.world
move_of r (list n c.done ∷ ts) s = on ts s
move_of r (list n (c.next x xs) ∷ ts) s = act r n x (list (n + count_in_stmt x) xs ∷ ts) s
move_of r (again n b ∷ ts) s = spend s (λ s. on (list (suc n) b ∷ again n b ∷ ts) s)
move_of r (back k ∷ ts) s = body_end (count_of r.program) k.given None (back k ∷ ts) s
move_of r (bottom g ∷ ts) s = body_end (count_of r.program) g None (bottom g ∷ ts) s

abbrev pub once : Setup → Next → Next
once r (goes m) = move_of r m.tasks m.state
once r (stops o w) = stops o w

abbrev pub moves : Setup → ℕ → Next → Next
moves r zero x = x
moves r (suc k) x = moves r k (once r x)

-- the start of a run of a function, at the depth 1
abbrev pub first_conf : Numbered → World → Conf
first_conf g w = record {
  tasks = list g.first g.func.body ∷ bottom g.func.result ∷ [];
  state = record {
    slots = first_values g.func [];
    base = 0;
    names = names_of g.func;
    is_glue = false;
    depth = 1;
    world = w;
  };
}

-- ---- programs that assign declared variables alone, as those of the kinds do

abbrev pub DeclaresTarget : List CVar → Option CVar → Type 0
DeclaresTarget names None = Unit {0}
DeclaresTarget names (Some v) = IsTrue (is_one_of v names)

abbrev mutual
  pub DeclaresStmt : List CVar → Stmt → Type 0
  DeclaresStmt names (c.set v e) = DeclaresTarget names (Some v)
  DeclaresStmt names (c.set_call v f) = DeclaresTarget names (Some v)
  DeclaresStmt names (c.when e xs) = Declares names xs
  DeclaresStmt names (c.choose e xs ys) = Declares names xs × Declares names ys
  DeclaresStmt names (c.loop xs) = Declares names xs
  DeclaresStmt names _ = Unit {0}

  pub Declares : List CVar → Stmts → Type 0
  Declares names c.done = Unit {0}
  Declares names (c.next x xs) = DeclaresStmt names x × Declares names xs

abbrev pub AllDeclare : List Func → Type 0
AllDeclare [] = Unit {0}
AllDeclare (f ∷ fs) = Declares (names_of f) f.body × AllDeclare fs

pub record IsDeclared (p : Program) : Type 0 where
  pub glue : AllDeclare p.glue
  pub fns : AllDeclare p.fns

-- a program as the kinds accept it: it assigns variables that are declared, and begins with a function without parameters
pub record IsRunnable (p : Program) : Type 0 where
  pub declared : IsDeclared p
  pub no_params : (g : Numbered) → main_of p ≡ Some g → length g.func.params ≡ 0
