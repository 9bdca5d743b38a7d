-- The kinds of C: what is refused of a text of the grammar, and where.
use Rattle.std.specs.Prelude.{ℕ, pos, ◌-◌, Bool, true, false, not, ◌&&◌, ◌||◌, ◌==◌, nat_lt, if◌then◌else◌, List, [], ◌∷◌, ◌++◌, length, map, drop, Option, Some, None}
use Rattle.vlt_ops.specs.Operator.{equals}
use Rattle.c_syntax.specs.declared.program.CResult.{CResult}
use Rattle.c_syntax.specs.declared.program.CResult.TheVariants as result
use Rattle.c_syntax.specs.declared.program.CVar.{CVar}
use Rattle.c_syntax.specs.declared.program.CName.{CName}
use Rattle.c_syntax.specs.declared.program.CPrim.{CPrim}
use Rattle.c_syntax.specs.declared.program.CPrim.TheVariants as prim
use Rattle.c_syntax.specs.declared.program.CCell.{CCell}
use Rattle.c_syntax.specs.declared.program.CCell.TheVariants as cell
use Rattle.c_syntax.specs.C as c
use Rattle.c_syntax.specs.C.{Expr, Arg, Call, Stmt, Stmts}
use Rattle.c_syntax.specs.Unit.{Declaration, Head, Body, TranslationUnit}

-- ---- equal names and types

abbrev pub same_bool : Bool → Bool → Bool
same_bool true b = b
same_bool false b = not b

abbrev pub same_variable : CVar → CVar → Bool
same_variable v w = same_bool v.reference w.reference && (v.number == w.number)

abbrev pub same_name : CName → CName → Bool
same_name f g = same_bool f.glue g.glue && (f.number == g.number)

abbrev pub same_type : CResult → CResult → Bool
same_type result.Nothing result.Nothing = true
same_type result.Number result.Number = true
same_type result.Reference result.Reference = true
same_type _ _ = false

abbrev pub same_params : List Declaration → List Declaration → Bool
same_params [] [] = true
same_params (d ∷ ds) (e ∷ es) = same_bool d.reference e.reference && same_variable d.variable e.variable && same_params ds es
same_params _ _ = false

-- token by token
abbrev pub same_head : Head → Head → Bool
same_head h g = same_type h.result g.result && same_name h.name g.name && same_params h.params g.params

-- ---- what a body sees

pub record Scope : Type 0 where
  -- the heads before the bodies
  pub heads : List Head
  -- the function's own name and result
  pub name : CName
  pub result : CResult
  -- its parameters and variables
  pub declared : List CVar

abbrev pub is_one_of : CVar → List CVar → Bool
is_one_of v [] = false
is_one_of v (w ∷ ws) = same_variable v w || is_one_of v ws

abbrev pub type_of : CVar → CResult
type_of v = if v.reference then result.Reference else result.Number

-- the first head of that name
abbrev pub head_of : CName → List Head → Option Head
head_of f [] = None
head_of f (h ∷ hs) = if same_name f h.name then Some h else head_of f hs

-- the type of a variable, where it is declared
abbrev pub variable_type : Scope → CVar → Option CResult
variable_type scope v = if is_one_of v scope.declared then Some (type_of v) else None

-- an unknown type is every type
abbrev pub may_be : CResult → Option CResult → Bool
may_be want None = true
may_be want (Some t) = same_type want t

abbrev pub base_of : CCell → CVar
base_of (cell.Number p k) = record { reference = true; number = p }
base_of (cell.Reference p k) = record { reference = true; number = p }

abbrev pub cell_type : CCell → CResult
cell_type (cell.Number p k) = result.Number
cell_type (cell.Reference p k) = result.Reference

abbrev pub expr_type : Scope → Expr → Option CResult
expr_type scope (c.number z) = Some result.Number
expr_type scope (c.variable v) = variable_type scope v
expr_type scope (c.cell x) = Some (cell_type x)
expr_type scope c.null = Some result.Reference
expr_type scope (c.unary o e) = Some result.Number
expr_type scope (c.binary o a b) = Some result.Number

-- ---- the walk over a text

-- a broken rule, and the first byte of what it is told at
pub record Refusal : Type 0 where
  pub at : ℕ
  pub rule : ℕ

-- how far a walk has come: the first bytes of the tokens to come, and the least refusal so far
pub record Walk : Type 0 where
  pub places : List ℕ
  pub least : Option Refusal

-- the parts of a walk stand in the order of the text
infixl 10 ◌▹◌
abbrev pub ◌▹◌ : (Walk → Walk) → (Walk → Walk) → Walk → Walk
first ▹ second = λ before. second (first before)

abbrev pub nothing : Walk → Walk
nothing w = w

-- past so many tokens
abbrev pub skip : ℕ → Walk → Walk
skip n w = record { places = drop n w.places; least = w.least }

-- the first byte of the next token
abbrev pub first_of_all : List ℕ → ℕ
first_of_all [] = 0
first_of_all (at ∷ more) = at

abbrev pub place : Walk → ℕ
place w = first_of_all w.places

-- the lesser place, and at one place the lesser number
abbrev pub is_less : Refusal → Refusal → Bool
is_less a b = nat_lt a.at b.at || ((a.at == b.at) && nat_lt a.rule b.rule)

abbrev pub lesser : Option Refusal → Refusal → Option Refusal
lesser None r = Some r
lesser (Some found) r = if is_less r found then Some r else Some found

-- the rule is told at this place, unless it is kept
abbrev pub unless : Bool → ℕ → ℕ → Walk → Walk
unless true at rule w = w
unless false at rule w = record { places = w.places; least = lesser w.least (record { at = at; rule = rule }) }

-- the rule is told at the next token
abbrev pub unless_here : Bool → ℕ → Walk → Walk
unless_here kept rule w = unless kept (place w) rule w

-- ---- expressions. `own` is the first byte of the statement

abbrev pub variable_judged : Scope → CVar → Walk → Walk
variable_judged scope v = unless_here (is_one_of v scope.declared) 1 ▹ skip 1

abbrev pub cell_judged : Scope → CCell → Walk → Walk
cell_judged scope x = variable_judged scope (base_of x) ▹ skip 5

abbrev pub expr_judged : Scope → ℕ → Expr → Walk → Walk
expr_judged scope own (c.number z) = skip 1
expr_judged scope own (c.variable v) = variable_judged scope v
expr_judged scope own (c.cell x) = cell_judged scope x
expr_judged scope own c.null = skip 1
expr_judged scope own (c.unary o e) =
    skip 2 ▹ expr_judged scope own e ▹ unless (may_be result.Number (expr_type scope e)) own 2 ▹ skip 1
expr_judged scope own (c.binary o a b) =
    skip 1 ▹ expr_judged scope own a ▹ unless (may_be result.Number (expr_type scope a)) own 2
    ▹ skip 1 ▹ expr_judged scope own b ▹ unless (may_be result.Number (expr_type scope b)) own 2 ▹ skip 1

-- ---- calls

-- what an argument has to be
pub data Wanted : Type 0 where
  value : CResult → Wanted
  numeral : Wanted
  -- 1 or 2
  trap_number : Wanted
  name_text : Wanted

abbrev pub prim_wants : CPrim → List Wanted
prim_wants prim.New = numeral ∷ numeral ∷ []
prim_wants prim.Own = value result.Reference ∷ value result.Reference ∷ []
prim_wants prim.Disown = value result.Reference ∷ []
prim_wants prim.Parent = value result.Reference ∷ []
prim_wants prim.Release = value result.Reference ∷ []
prim_wants prim.Trap = trap_number ∷ []
prim_wants prim.Print = value result.Number ∷ []
prim_wants prim.Read = []
prim_wants prim.More = []
prim_wants prim.PutN = value result.Number ∷ value result.Number ∷ []
prim_wants prim.GetN = value result.Number ∷ []
prim_wants prim.PutP = value result.Number ∷ value result.Reference ∷ []
prim_wants prim.GetP = value result.Number ∷ []
prim_wants prim.Call = name_text ∷ []
prim_wants prim.ArgN = value result.Number ∷ []
prim_wants prim.ArgP = value result.Reference ∷ []
prim_wants prim.Ask = []
prim_wants prim.Int = []
prim_wants prim.Pick = value result.Number ∷ []
prim_wants prim.Out = value result.Reference ∷ []
prim_wants prim.Back = value result.Reference ∷ []
prim_wants prim.End = []

abbrev pub prim_gives : CPrim → CResult
prim_gives prim.New = result.Reference
prim_gives prim.Parent = result.Reference
prim_gives prim.Read = result.Number
prim_gives prim.More = result.Number
prim_gives prim.GetN = result.Number
prim_gives prim.GetP = result.Reference
prim_gives prim.Int = result.Number
prim_gives prim.Pick = result.Number
prim_gives _ = result.Nothing

-- an undeclared variable is every argument
abbrev pub fits : Scope → Wanted → Arg → Bool
fits scope (value t) (c.number z) = same_type t result.Number
fits scope (value t) (c.variable v) = may_be t (variable_type scope v)
fits scope (value t) c.null = same_type t result.Reference
fits scope numeral (c.number z) = true
fits scope numeral (c.variable v) = not (is_one_of v scope.declared)
fits scope trap_number (c.number z) = equals z (pos 1) || equals z (pos 2)
fits scope trap_number (c.variable v) = not (is_one_of v scope.declared)
fits scope name_text (c.variable v) = not (is_one_of v scope.declared)
fits scope name_text (c.text cs) = true
fits scope _ _ = false

abbrev pub all_fit : Scope → List Wanted → List Arg → Bool
all_fit scope [] [] = true
all_fit scope (w ∷ ws) (x ∷ xs) = fits scope w x && all_fit scope ws xs
all_fit scope _ _ = false

abbrev pub arg_judged : Scope → Arg → Walk → Walk
arg_judged scope (c.variable v) = variable_judged scope v
arg_judged scope _ = skip 1

-- arguments with a comma or the parenthesis after each
abbrev pub each_arg_judged : Scope → List Arg → Walk → Walk
each_arg_judged scope [] = nothing
each_arg_judged scope (x ∷ xs) = arg_judged scope x ▹ skip 1 ▹ each_arg_judged scope xs

abbrev pub args_judged : Scope → List Arg → Walk → Walk
args_judged scope [] = skip 1
args_judged scope (x ∷ xs) = each_arg_judged scope (x ∷ xs)

abbrev pub param_wanted : Declaration → Wanted
param_wanted d = value (type_of d.variable)

abbrev pub is_known : Option Head → Bool
is_known None = false
is_known (Some h) = true

-- glue calls no glue; the arguments of an unknown function are right
abbrev pub known_fits : Scope → CName → List Arg → Option Head → Bool
known_fits scope f xs None = true
known_fits scope f xs (Some h) = not (f.glue && scope.name.glue) && all_fit scope (map param_wanted h.params) xs

abbrev pub call_judged : Scope → ℕ → Call → Walk → Walk
call_judged scope own (c.function f xs) =
    unless_here (is_known (head_of f scope.heads)) 1 ▹ skip 2 ▹ args_judged scope xs ▹ unless (known_fits scope f xs (head_of f scope.heads)) own 3
call_judged scope own (c.primitive p xs) = skip 2 ▹ args_judged scope xs ▹ unless (all_fit scope (prim_wants p) xs) own 3

abbrev pub result_of : Option Head → Option CResult
result_of None = None
result_of (Some h) = Some h.result

-- what a call gives, where its function is declared
abbrev pub call_type : Scope → Call → Option CResult
call_type scope (c.function f xs) = result_of (head_of f scope.heads)
call_type scope (c.primitive p xs) = Some (prim_gives p)

-- ---- statements

-- a value of the second type for a variable of the first; `void` is no type of a value
abbrev pub can_set : Option CResult → Option CResult → Bool
can_set want None = true
can_set want (Some result.Nothing) = false
can_set want (Some t) = may_be t want

-- what `return` gives in a function with this result
abbrev pub can_return : CResult → Option CResult → Bool
can_return want None = not (same_type want result.Nothing)
can_return want (Some t) = same_type want t

-- a condition is a number
abbrev pub condition_judged : Scope → ℕ → Expr → Walk → Walk
condition_judged scope own e = skip 2 ▹ expr_judged scope own e ▹ unless (may_be result.Number (expr_type scope e)) own 2 ▹ skip 2

abbrev mutual
  pub stmt_judged : Scope → Bool → ℕ → Stmt → Walk → Walk
  stmt_judged scope in_loop own (c.set v e) =
      variable_judged scope v ▹ skip 1 ▹ expr_judged scope own e ▹ unless (can_set (variable_type scope v) (expr_type scope e)) own 2 ▹ skip 1
  stmt_judged scope in_loop own (c.set_call v f) =
      variable_judged scope v ▹ skip 1 ▹ call_judged scope own f ▹ unless (can_set (variable_type scope v) (call_type scope f)) own 2 ▹ skip 1
  stmt_judged scope in_loop own (c.call f) = call_judged scope own f ▹ skip 1
  stmt_judged scope in_loop own (c.put x e) =
      cell_judged scope x ▹ skip 1 ▹ expr_judged scope own e ▹ unless (may_be (cell_type x) (expr_type scope e)) own 2 ▹ skip 1
  stmt_judged scope in_loop own (c.when e xs) = condition_judged scope own e ▹ stmts_judged scope in_loop xs ▹ skip 1
  stmt_judged scope in_loop own (c.choose e xs ys) =
      condition_judged scope own e ▹ stmts_judged scope in_loop xs ▹ skip 3 ▹ stmts_judged scope in_loop ys ▹ skip 1
  stmt_judged scope in_loop own (c.loop xs) = skip 5 ▹ stmts_judged scope true xs ▹ skip 1
  stmt_judged scope in_loop own c.break = unless in_loop own 4 ▹ skip 2
  stmt_judged scope in_loop own c.continue = unless in_loop own 4 ▹ skip 2
  stmt_judged scope in_loop own (c.return None) = unless (same_type scope.result result.Nothing) own 5 ▹ skip 2
  stmt_judged scope in_loop own (c.return (Some e)) =
      skip 1 ▹ expr_judged scope own e ▹ unless (can_return scope.result (expr_type scope e)) own 5 ▹ skip 1

  pub stmts_judged : Scope → Bool → Stmts → Walk → Walk
  stmts_judged scope in_loop c.done w = w
  stmts_judged scope in_loop (c.next x xs) w = stmts_judged scope in_loop xs (stmt_judged scope in_loop (place w) x w)

-- ---- functions

abbrev pub type_width : Bool → ℕ
type_width true = 1
type_width false = 2

abbrev pub result_width : CResult → ℕ
result_width result.Nothing = 1
result_width result.Number = 2
result_width result.Reference = 1

-- declarations with a sign after each, after those names
abbrev pub declarations_judged : List CVar → List Declaration → Walk → Walk
declarations_judged before [] = nothing
declarations_judged before (d ∷ ds) =
    skip (type_width d.reference) ▹ unless_here (not (is_one_of d.variable before)) 1 ▹ unless_here (same_bool d.reference d.variable.reference) 2
    ▹ skip 2 ▹ declarations_judged (d.variable ∷ before) ds

abbrev pub params_judged : List Declaration → Walk → Walk
params_judged [] = skip 2
params_judged (d ∷ ds) = declarations_judged [] (d ∷ ds)

abbrev pub names_of : List Declaration → List CVar
names_of = map (λ d. d.variable)

abbrev pub has_head : Head → List Head → Bool
has_head h [] = false
has_head h (g ∷ gs) = same_head h g || has_head h gs

abbrev pub has_name : CName → List Head → Bool
has_name f [] = false
has_name f (g ∷ gs) = same_name f g.name || has_name f gs

abbrev pub heads_of : List Body → List Head
heads_of = map (λ b. b.head)

-- a head, of which this is told at its name
abbrev pub head_judged : Head → (Walk → Walk) → Walk → Walk
head_judged h told = skip (result_width h.result) ▹ told ▹ skip 2 ▹ params_judged h.params

-- heads before those bodies, after those heads
abbrev pub heads_judged : List Head → List Head → List Head → Walk → Walk
heads_judged bodies before [] = nothing
heads_judged bodies before (h ∷ hs) =
    head_judged h (unless_here (not (has_name h.name before)) 1 ▹ unless_here (has_head h bodies) 6) ▹ skip 1 ▹ heads_judged bodies (h ∷ before) hs

abbrev pub scope_of : List Head → Body → Scope
scope_of heads b = record {
  heads = heads;
  name = b.head.name;
  result = b.head.result;
  declared = names_of b.head.params ++ names_of b.vars;
}

-- a function with its body, after those heads of others
abbrev pub body_judged : List Head → List Head → Body → Walk → Walk
body_judged heads before b =
    head_judged b.head (unless_here (not (has_name b.head.name before)) 6 ▹ unless_here (has_head b.head heads) 6)
    ▹ skip 1 ▹ declarations_judged (names_of b.head.params) b.vars ▹ stmts_judged (scope_of heads b) false b.stmts ▹ skip 1

abbrev pub bodies_judged : List Head → List Head → List Body → Walk → Walk
bodies_judged heads before [] = nothing
bodies_judged heads before (b ∷ bs) = body_judged heads before b ▹ bodies_judged heads (b.head ∷ before) bs

-- ---- the whole

-- a body of the function that VR_MAIN stands for, without parameters
abbrev pub is_main : ℕ → Head → Bool
is_main n h = same_name (record { glue = false; number = n }) h.name && (length h.params == 0)

abbrev pub has_main : ℕ → List Head → Bool
has_main n [] = false
has_main n (h ∷ hs) = is_main n h || has_main n hs

-- told at the `f` before the number of the second line
abbrev pub main_judged : TranslationUnit → Walk → Walk
main_judged u w = unless (has_main u.main (heads_of u.bodies)) (place w - 1) 6 w

abbrev pub unit_judged : TranslationUnit → Walk → Walk
unit_judged u = skip 3 ▹ main_judged u ▹ skip 2 ▹ heads_judged (heads_of u.bodies) [] u.heads ▹ bodies_judged u.heads [] u.bodies

-- the least refusal of a text whose tokens begin at these bytes
abbrev pub unit_refusal : List ℕ → TranslationUnit → Option Refusal
unit_refusal places u = (unit_judged u (record { places = places; least = None })).least
