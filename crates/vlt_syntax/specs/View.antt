-- The plain tree that a tree of the code stands for. Nothing is forgotten.
use Rattle.std.specs.Prelude.{List, [], ◌∷◌, map, option_map}
use Rattle.vlt_base.specs.declared.places.Span.{Span}
use Rattle.vlt_syntax.specs.Tree as s
use Rattle.vlt_syntax.specs.declared.tree.Name.{Name}
use Rattle.vlt_syntax.specs.declared.tree.States.{States}
use Rattle.vlt_syntax.specs.declared.tree.States.TheVariants as states
use Rattle.vlt_syntax.specs.declared.tree.KeyStates.{KeyStates}
use Rattle.vlt_syntax.specs.declared.tree.Named.{Named}
use Rattle.vlt_syntax.specs.declared.tree.Ty.{Ty}
use Rattle.vlt_syntax.specs.declared.tree.Ty.TheVariants as ty
use Rattle.vlt_syntax.specs.declared.tree.Expr.{Expr}
use Rattle.vlt_syntax.specs.declared.tree.Expr.TheOpen.{Expr-F, Operands-F}
use Rattle.vlt_syntax.specs.declared.tree.Expr.TheFolds.{fold-Expr}
use Rattle.vlt_syntax.specs.declared.tree.Build.{Build}
use Rattle.vlt_syntax.specs.declared.tree.Call.{Call}
use Rattle.vlt_syntax.specs.declared.tree.Init.{Init}
use Rattle.vlt_syntax.specs.declared.tree.Right.{Right}
use Rattle.vlt_syntax.specs.declared.tree.Right.TheVariants as right
use Rattle.vlt_syntax.specs.declared.tree.Returned.{Returned}
use Rattle.vlt_syntax.specs.declared.tree.Returned.TheVariants as returned
use Rattle.vlt_syntax.specs.declared.tree.Else.{Else}
use Rattle.vlt_syntax.specs.declared.tree.Stmt.{Stmt}
use Rattle.vlt_syntax.specs.declared.tree.Arm.{Arm}
use Rattle.vlt_syntax.specs.declared.tree.Block.{Block}
use Rattle.vlt_syntax.specs.declared.tree.If.{If}
use Rattle.vlt_syntax.specs.declared.tree.Else.TheOpen.{Else-F, Stmt-F, Arm-F, Block-F, If-F}
use Rattle.vlt_syntax.specs.declared.tree.Else.TheFolds.{fold-Else, fold-Stmt, fold-Arm, fold-Block, fold-If}
use Rattle.vlt_syntax.specs.declared.tree.SetState.{SetState}
use Rattle.vlt_syntax.specs.declared.tree.HeaderKey.{HeaderKey}
use Rattle.vlt_syntax.specs.declared.tree.Field.{Field}
use Rattle.vlt_syntax.specs.declared.tree.Case.{Case}
use Rattle.vlt_syntax.specs.declared.tree.Entry.{Entry}
use Rattle.vlt_syntax.specs.declared.tree.Entry.TheVariants as entry
use Rattle.vlt_syntax.specs.declared.tree.ResultType.{ResultType}
use Rattle.vlt_syntax.specs.declared.tree.ResultType.TheVariants as result_type
use Rattle.vlt_syntax.specs.declared.tree.Parameter.{Parameter}
use Rattle.vlt_syntax.specs.declared.tree.Head.{Head}
use Rattle.vlt_syntax.specs.declared.tree.Decl.{Decl}
use Rattle.vlt_syntax.specs.declared.tree.Decl.TheVariants as decl
use Rattle.vlt_syntax.specs.declared.tree.Tree.{Tree}

abbrev pub name_of : Name → s.Name
name_of n = record { text = n.text; at = n.at }

abbrev pub names_of : List Name → List s.Name
names_of = map name_of

abbrev pub states_of : States → s.States
states_of (states.One n) = s.one (name_of n)
states_of (states.Several ns at) = s.several (names_of ns) at

abbrev pub key_states_of : KeyStates → s.KeyStates
key_states_of k = record { key = name_of k.key; states = option_map states_of k.states }

abbrev pub named_of : Named → s.Named
named_of n = record { name = name_of n.name; keys = names_of n.keys }

abbrev pub ty_of : Ty → s.Ty
ty_of (ty.Int at) = s.int at
ty_of (ty.Bool at) = s.bool at
ty_of (ty.Tracked k n at) = s.tracked (name_of k) (named_of n) at
ty_of (ty.Owning ss n at) = s.owning (option_map states_of ss) (named_of n) at
ty_of (ty.Guarded k n) = s.guarded (name_of k) (named_of n)
ty_of (ty.Plain n) = s.plain (named_of n)

-- ---- expressions

-- what stands on both sides of an operator
abbrev pub OperandsView : Type 0
OperandsView = s.Expr × s.Expr

abbrev pub expr_step : Expr-F s.Expr OperandsView → s.Expr
expr_step (Expr-F.Number z at) = s.number z at
expr_step (Expr-F.True at) = s.true at
expr_step (Expr-F.False at) = s.false at
expr_step (Expr-F.Variable n) = s.variable (name_of n)
expr_step (Expr-F.Field x f) = s.field (name_of x) (name_of f)
expr_step (Expr-F.Group e at) = s.group e at
expr_step (Expr-F.Unary o e at) = s.unary o e at
expr_step (Expr-F.Binary o x at) = s.binary o x.0 x.1 at

abbrev pub operands_step : Operands-F s.Expr OperandsView → OperandsView
operands_step x = (x.left, x.right)

abbrev pub expr_of : Expr → s.Expr
expr_of = fold-Expr s.Expr OperandsView expr_step operands_step

abbrev pub build_of : Build → s.Build
build_of b = record { case = name_of b.case; payload = map expr_of b.payload; at = b.at }

abbrev pub call_of : Call → s.Call
call_of c = record { function = name_of c.function; arguments = map expr_of c.arguments; at = c.at }

abbrev pub init_of : Init → s.Init
init_of i = record { field = name_of i.field; value = expr_of i.value }

abbrev pub right_of : Right → s.Right
right_of (right.Value e) = s.value (expr_of e)
right_of (right.Build b) = s.build (build_of b)
right_of (right.Call c) = s.call (call_of c)
right_of (right.Input at) = s.input at
right_of (right.More at) = s.more at
right_of (right.New o n fs at) = s.make (option_map name_of o) (named_of n) (map init_of fs) at
right_of (right.Adopt x r at) = s.adopt (name_of x) (name_of r) at

abbrev pub returned_of : Returned → s.Returned
returned_of returned.Nothing = s.nothing
returned_of (returned.Value e) = s.value (expr_of e)
returned_of (returned.Build b) = s.build (build_of b)

-- ---- statements

-- an arm with its case, variables, block and place
abbrev pub ArmView : Type 0
ArmView = s.Name × List s.Name × s.Block × Span

abbrev pub stmts_made : List s.Stmt → s.Stmts
stmts_made [] = s.done
stmts_made (x ∷ xs) = s.next x (stmts_made xs)

abbrev pub arms_made : List ArmView → s.Arms
arms_made [] = s.no_arms
arms_made (a ∷ rest) = s.arm a.0 a.1 a.2 a.3 (arms_made rest)

abbrev pub else_step : Else-F s.Else s.Stmt ArmView s.Block s.If → s.Else
else_step Else-F.Nothing = s.nothing
else_step (Else-F.Last b) = s.last b
else_step (Else-F.Chained i) = s.chained i

abbrev pub stmt_step : Stmt-F s.Else s.Stmt ArmView s.Block s.If → s.Stmt
stmt_step (Stmt-F.Declare t x v at) = s.declare (ty_of t) (name_of x) (right_of v) at
stmt_step (Stmt-F.Assign x v at) = s.assign (name_of x) (right_of v) at
stmt_step (Stmt-F.Put x f e at) = s.put (name_of x) (name_of f) (expr_of e) at
stmt_step (Stmt-F.Call c at) = s.call (call_of c) at
stmt_step (Stmt-F.Print e at) = s.print (expr_of e) at
stmt_step (Stmt-F.Block b) = s.block b
stmt_step (Stmt-F.If i) = s.choose i
stmt_step (Stmt-F.While e b at) = s.loop (expr_of e) b at
stmt_step (Stmt-F.Break at) = s.break at
stmt_step (Stmt-F.Continue at) = s.continue at
stmt_step (Stmt-F.Return v at) = s.return (returned_of v) at
stmt_step (Stmt-F.Switch x arms at) = s.switch (name_of x) (arms_made arms) at
stmt_step (Stmt-F.Release x at) = s.release (name_of x) at
stmt_step (Stmt-F.Become x t at) = s.become (name_of x) (name_of t) at
stmt_step (Stmt-F.Swap x f v at) = s.swap (name_of x) (name_of f) (name_of v) at
stmt_step (Stmt-F.Open x vs at) = s.open_into (name_of x) (names_of vs) at
stmt_step (Stmt-F.Focus x k z b at) = s.focus (name_of x) (name_of k) (name_of z) b at

abbrev pub arm_step : Arm-F s.Else s.Stmt ArmView s.Block s.If → ArmView
arm_step a = (name_of a.case, names_of a.variables, a.body, a.at)

abbrev pub block_step : Block-F s.Else s.Stmt ArmView s.Block s.If → s.Block
block_step b = s.braced (stmts_made b.stmts) b.at

abbrev pub if_step : If-F s.Else s.Stmt ArmView s.Block s.If → s.If
if_step i = s.choice (expr_of i.condition) i.then_block i.otherwise i.at

abbrev pub else_of : Else → s.Else
else_of = fold-Else s.Else s.Stmt ArmView s.Block s.If else_step stmt_step arm_step block_step if_step

abbrev pub stmt_of : Stmt → s.Stmt
stmt_of = fold-Stmt s.Else s.Stmt ArmView s.Block s.If else_step stmt_step arm_step block_step if_step

abbrev pub arm_of : Arm → ArmView
arm_of = fold-Arm s.Else s.Stmt ArmView s.Block s.If else_step stmt_step arm_step block_step if_step

abbrev pub block_of : Block → s.Block
block_of = fold-Block s.Else s.Stmt ArmView s.Block s.If else_step stmt_step arm_step block_step if_step

abbrev pub if_of : If → s.If
if_of = fold-If s.Else s.Stmt ArmView s.Block s.If else_step stmt_step arm_step block_step if_step

abbrev pub stmts_of : List Stmt → s.Stmts
stmts_of xs = stmts_made (map stmt_of xs)

abbrev pub arms_of : List Arm → s.Arms
arms_of xs = arms_made (map arm_of xs)

-- ---- declarations

abbrev pub set_state_of : SetState → s.SetState
set_state_of x = record { name = name_of x.name; above = x.above }

abbrev pub header_key_of : HeaderKey → s.HeaderKey
header_key_of p = record { key = name_of p.key; key_type = option_map name_of p.key_type }

abbrev pub field_of : Field → s.Field
field_of f = record { ty = ty_of f.ty; name = name_of f.name; states = option_map states_of f.states; at = f.at }

abbrev pub case_of : Case → s.Case
case_of c = record { name = name_of c.name; payload = map ty_of c.payload; keys = map key_states_of c.keys; at = c.at }

abbrev pub entry_of : Entry → s.Entry
entry_of (entry.Held k) = s.held (key_states_of k)
entry_of (entry.Changed k a b) = s.changed (name_of k) (states_of a) (states_of b)
entry_of (entry.Bound k v b) = s.bound (name_of k) (name_of v) (name_of b)
entry_of (entry.Taken k at) = s.taken (key_states_of k) at
entry_of (entry.Given k at) = s.given (key_states_of k) at
entry_of (entry.Fresh k at) = s.fresh (key_states_of k) at

abbrev pub result_type_of : ResultType → s.ResultType
result_type_of (result_type.Void at) = s.void at
result_type_of (result_type.Value t) = s.value (ty_of t)

abbrev pub parameter_of : Parameter → s.Parameter
parameter_of p = record { ty = ty_of p.ty; name = name_of p.name }

abbrev pub head_of : Head → s.Head
head_of h = record {
  result_type = result_type_of h.result_type;
  name = name_of h.name;
  parameters = map parameter_of h.parameters;
  clause = option_map (map entry_of) h.clause;
  at = h.at;
}

abbrev pub decl_of : Decl → s.Decl
decl_of (decl.StateSet n ss at) = s.stateset (name_of n) (map set_state_of ss) at
decl_of (decl.Abstract n ss at) = s.abstract (name_of n) (option_map name_of ss) at
decl_of (decl.Struct n ps ss fs r at) = s.struct (name_of n) (map header_key_of ps) (option_map name_of ss) (map field_of fs) (option_map states_of r) at
decl_of (decl.Variant n ps cs at) = s.variant (name_of n) (map header_key_of ps) (map case_of cs) at
decl_of (decl.Extern h at) = s.extern (head_of h) at
decl_of (decl.Function h b at) = s.function (head_of h) (block_of b) at

abbrev pub tree_of : Tree → s.Tree
tree_of t = record { decls = map decl_of t.decls }
