-- What the statements of a C program do, and whole runs.
use Rattle.std.specs.Prelude.{ℕ, zero, suc, ◌+◌, ◌-◌, ◌==◌, nat_lt, ℤ, Bool, true, false, not, ◌&&◌, if◌then◌else◌, List, [], ◌∷◌, length, Option, Some, None, Result, Ok, Err}
use Rattle.vlt_ops.specs.Operator.{is_true}
use Rattle.c_syntax.specs.declared.rules.TheConstants as rule
use Rattle.c_syntax.specs.declared.program.CResult.{CResult}
use Rattle.c_syntax.specs.declared.program.CResult.TheVariants as result
use Rattle.c_syntax.specs.declared.program.CVar.{CVar}
use Rattle.c_syntax.specs.declared.program.CName.{CName}
use Rattle.c_syntax.specs.C as c
use Rattle.c_syntax.specs.C.{Expr, Arg, Call, Stmt, Stmts, Func, Program}
use Rattle.c_syntax.specs.Kinds.{same_variable}
use Rattle.c_meaning.specs.World.{Value, World, first_world, Vars, Outcome, done, fuel_end, depth_end, undefined, Ran}
use Rattle.c_meaning.specs.Values.{◌>>=◌, a_number, value_of, arg_values}
use Rattle.c_meaning.specs.Primitives.{Effect, gives, breaks_rule, ends, set_does, put_does, primitive_does}

-- ---- the numbers of statements, in preorder from 0 over the bodies of glue and then of functions

abbrev mutual
  pub count_in_stmt : Stmt → ℕ
  count_in_stmt (c.when e xs) = 1 + count_in xs
  count_in_stmt (c.choose e xs ys) = 1 + count_in xs + count_in ys
  count_in_stmt (c.loop xs) = 1 + count_in xs
  count_in_stmt _ = 1

  pub count_in : Stmts → ℕ
  count_in c.done = 0
  count_in (c.next x xs) = count_in_stmt x + count_in xs

abbrev pub count_in_all : List Func → ℕ
count_in_all [] = 0
count_in_all (f ∷ fs) = count_in f.body + count_in_all fs

abbrev pub count_of : Program → ℕ
count_of p = count_in_all p.glue + count_in_all p.fns

-- a function, and the number of its first statement
pub record Numbered : Type 0 where
  pub func : Func
  pub first : ℕ

-- the function of that name, among those of which the first statement has that number
abbrev pub find_in : (first : ℕ) → List Func → (name : ℕ) → Option Numbered
find_in n [] name = None
find_in n (f ∷ fs) name =
    if f.number == name then Some (record { func = f; first = n }) else find_in (n + count_in f.body) fs name

abbrev pub function_of : Program → CName → Option Numbered
function_of p f = if f.glue then find_in 0 p.glue f.number else find_in (count_in_all p.glue) p.fns f.number

abbrev pub number_at : (first : ℕ) → List Func → (position : ℕ) → Option Numbered
number_at n [] i = None
number_at n (f ∷ fs) zero = Some (record { func = f; first = n })
number_at n (f ∷ fs) (suc i) = number_at (n + count_in f.body) fs i

abbrev pub main_of : Program → Option Numbered
main_of p = number_at (count_in_all p.glue) p.fns p.main

-- ---- frames, and where statements come to

-- A running function: how many functions run that aren't glue, this one included, and its variables.
pub record Frame : Type 0 where
  pub depth : ℕ
  pub is_glue : Bool
  pub vars : Vars

pub data Step : Type 0 where
  goes : Frame → World → Step
  breaks : Frame → World → Step
  continues : Frame → World → Step
  leaves : Option Value → World → Step
  stops : Outcome → World → Step

abbrev pub with_var : CVar → Value → Frame → Frame
with_var v a frame = record frame { vars = λ u. if same_variable u v then Some a else frame.vars u }

-- a call that gives nothing is assigned by no program of the kinds
abbrev pub after_receiving : (n : ℕ) → Option CVar → Option Value → Frame → World → Step
after_receiving n None a frame w = goes frame w
after_receiving n (Some v) None frame w = stops (undefined rule.NO_VALUE n) w
after_receiving n (Some v) (Some a) frame w = goes (with_var v a frame) w

-- n is the number of the statement that runs
unfoldable pub after : (n : ℕ) → Option CVar → Effect → Frame → World → Step
after n target (gives a w) frame old = after_receiving n target a frame w
after n target (breaks_rule r) frame old = stops (undefined r n) old
after n target (ends o w) frame old = stops o w

unfoldable pub with_found : {A : Type 0} → (n : ℕ) → Result A ℕ → World → (A → Step) → Step
with_found n (Err r) w go = stops (undefined r n) w
with_found n (Ok a) w go = go a

unfoldable pub then_do : Step → (Frame → World → Step) → Step
then_do (goes frame w) go = go frame w
then_do s go = s

-- a turn of a loop is over
unfoldable pub then_turn : Step → (Frame → World → Step) → Step
then_turn (goes frame w) again = again frame w
then_turn (continues frame w) again = again frame w
then_turn (breaks frame w) again = goes frame w
then_turn s again = s

unfoldable pub spend : World → (World → Step) → Step
spend w go = if w.fuel == 0 then stops fuel_end w else go (record w { fuel = w.fuel - 1 })

-- ---- calls

abbrev pub no_vars : Vars
no_vars v = None

abbrev pub bound : List CVar → List Value → Vars
bound [] values = no_vars
bound (v ∷ vs) [] = no_vars
bound (v ∷ vs) (a ∷ values) = λ u. if same_variable u v then Some a else bound vs values u

-- what never changes in a run
pub record Setup : Type 0 where
  pub program : Program
  pub heap : ℕ
  pub depth : ℕ

-- what lists of statements do, of which the first has the number n
abbrev pub Meaning : Type 0
Meaning = (n : ℕ) → Stmts → Frame → World → Step

abbrev pub depth_in : Bool → ℕ → ℕ
depth_in true depth = depth
depth_in false depth = suc depth

abbrev pub has_room : Setup → (glue : Bool) → (depth : ℕ) → Bool
has_room r true depth = true
has_room r false depth = nat_lt depth r.depth

-- the end of a body is the end of a function that gives nothing
abbrev pub at_end : (count : ℕ) → (n : ℕ) → CResult → Option CVar → Frame → World → Step
at_end count n result.Nothing target frame w = after_receiving n target None frame w
at_end count n _ target frame w = stops (undefined rule.NO_VALUE count) w

-- the caller goes on; the kinds let no jump leave a body
unfoldable pub back_in : (count : ℕ) → (n : ℕ) → CResult → Option CVar → Frame → Step → Step
back_in count n given target frame (goes callee w) = at_end count n given target frame w
back_in count n given target frame (breaks callee w) = stops (undefined rule.NO_VALUE count) w
back_in count n given target frame (continues callee w) = stops (undefined rule.NO_VALUE count) w
back_in count n given target frame (leaves a w) = after_receiving n target a frame w
back_in count n given target frame (stops o w) = stops o w

abbrev pub callee_frame : (glue : Bool) → Func → List Value → Frame → Frame
callee_frame glue g values frame = record { depth = depth_in glue frame.depth; is_glue = glue; vars = bound g.params values }

-- fuel, then depth
unfoldable pub enter : Setup → Meaning → (n : ℕ) → Option CVar → (glue : Bool) → Numbered → List Value → Frame → World → Step
enter r rest_of n target glue g values frame w =
    spend w (λ w.
    if has_room r glue frame.depth then
    back_in (count_of r.program) n g.func.result target frame
    (rest_of g.first g.func.body (callee_frame glue g.func values frame) w)
    else stops depth_end w)

-- The function is there, it has as many parameters, and glue calls no glue: so are the programs of the kinds.
abbrev pub can_call : (glue : Bool) → Func → List Arg → Frame → Bool
can_call glue g xs frame = (length g.params == length xs) && not (glue && frame.is_glue)

unfoldable pub call_found : Setup → Meaning → (n : ℕ) → Option CVar → (glue : Bool) → List Arg → Option Numbered → Frame → World → Step
call_found r rest_of n target glue xs None frame w = stops (undefined rule.NO_VALUE n) w
call_found r rest_of n target glue xs (Some g) frame w =
    if can_call glue g.func xs frame then
    with_found n (arg_values xs frame.vars) w (λ values. enter r rest_of n target glue g values frame w)
    else stops (undefined rule.NO_VALUE n) w

abbrev pub does_call : Setup → Meaning → (n : ℕ) → Option CVar → Call → Frame → World → Step
does_call r rest_of n target (c.primitive p xs) frame w =
    after n target (primitive_does r.heap p xs frame.vars w) frame w
does_call r rest_of n target (c.function f xs) frame w =
    call_found r rest_of n target f.glue xs (function_of r.program f) frame w

-- ---- statements

abbrev pub returns : (n : ℕ) → Option Expr → Frame → World → Step
returns n None frame w = leaves None w
returns n (Some e) frame w = with_found n (value_of e frame.vars w.blocks) w (λ a. leaves (Some a) w)

abbrev pub condition : Expr → Frame → World → Result ℤ ℕ
condition e frame w = value_of e frame.vars w.blocks >>= a_number

-- `rest_of` is what lists do that come after a unit of fuel was spent
abbrev mutual
  pub does_stmt : Setup → Meaning → (n : ℕ) → Stmt → Frame → World → Step
  does_stmt r rest_of n (c.set v e) frame w = after n (Some v) (set_does e frame.vars w) frame w
  does_stmt r rest_of n (c.set_call v f) frame w = does_call r rest_of n (Some v) f frame w
  does_stmt r rest_of n (c.call f) frame w = does_call r rest_of n None f frame w
  does_stmt r rest_of n (c.put x e) frame w = after n None (put_does x e frame.vars w) frame w
  does_stmt r rest_of n (c.when e xs) frame w =
      with_found n (condition e frame w) w (λ z.
      if is_true z then does_stmts r rest_of (suc n) xs frame w else goes frame w)
  does_stmt r rest_of n (c.choose e xs ys) frame w =
      with_found n (condition e frame w) w (λ z.
      if is_true z then does_stmts r rest_of (suc n) xs frame w
      else does_stmts r rest_of (suc n + count_in xs) ys frame w)
  does_stmt r rest_of n (c.loop xs) frame w =
      spend w (λ w.
      then_turn (does_stmts r rest_of (suc n) xs frame w) (rest_of n (c.next (c.loop xs) c.done)))
  does_stmt r rest_of n c.break frame w = breaks frame w
  does_stmt r rest_of n c.continue frame w = continues frame w
  does_stmt r rest_of n (c.return e) frame w = returns n e frame w

  pub does_stmts : Setup → Meaning → Meaning
  does_stmts r rest_of n c.done frame w = goes frame w
  does_stmts r rest_of n (c.next x xs) frame w =
      then_do (does_stmt r rest_of n x frame w) (does_stmts r rest_of (n + count_in_stmt x) xs)

abbrev pub out_of_fuel : Meaning
out_of_fuel n xs frame w = stops fuel_end w

-- what lists do with less than so much fuel
abbrev pub less : Setup → ℕ → Meaning
less r zero = out_of_fuel
less r (suc fuel) = does_stmts r (less r fuel)

-- ---- whole runs

abbrev pub ran_of : (count : ℕ) → CResult → Step → Ran
ran_of count result.Nothing (goes frame w) = record { outcome = done; world = w }
ran_of count _ (goes frame w) = record { outcome = undefined rule.NO_VALUE count; world = w }
ran_of count given (breaks frame w) = record { outcome = undefined rule.NO_VALUE count; world = w }
ran_of count given (continues frame w) = record { outcome = undefined rule.NO_VALUE count; world = w }
ran_of count given (leaves a w) = record { outcome = done; world = w }
ran_of count given (stops o w) = record { outcome = o; world = w }

abbrev pub first_frame : Frame
first_frame = record { depth = 1; is_glue = false; vars = no_vars }

abbrev pub run_from : Setup → Option Numbered → World → Ran
run_from r None w = record { outcome = undefined rule.NO_VALUE (count_of r.program); world = w }
run_from r (Some g) w =
    if r.depth == 0 then record { outcome = depth_end; world = w }
    else ran_of (count_of r.program) g.func.result (does_stmts r (less r w.fuel) g.first g.func.body first_frame w)

-- the run of a program within budgets
abbrev pub c_run : Program → (fuel heap depth : ℕ) → (input : List ℤ) → (answers : List (List ℤ)) → Ran
c_run p fuel heap depth input answers =
    run_from (record { program = p; heap = heap; depth = depth }) (main_of p) (first_world fuel input answers)
