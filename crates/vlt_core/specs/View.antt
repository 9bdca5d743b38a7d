-- The plain program that a program of the code stands for. Nothing is forgotten but the names of state variables. In the code
-- `If`, `While` and `New` are what is `choose`, `loop` and `make` here; a statement without a block is `simple` here.
use Rattle.std.specs.Prelude.{ℕ, List, [], ◌∷◌, map, Option}
use Rattle.std.specs.Option.{option_map}
use Rattle.vlt_base.specs.States.{has_state}
use Rattle.vlt_base.specs.declared.ids.TypeId.{TypeId}
use Rattle.vlt_base.specs.declared.ids.KeyId.{KeyId}
use Rattle.vlt_base.specs.declared.ids.VarId.{VarId}
use Rattle.vlt_base.specs.declared.states.StateSet.{StateSet}
use Rattle.vlt_core.specs.Core as s
use Rattle.vlt_core.specs.declared.held.Tok.{Tok}
use Rattle.vlt_core.specs.declared.held.Tok.TheVariants as tok
use Rattle.vlt_core.specs.declared.program.Link.{Link}
use Rattle.vlt_core.specs.declared.program.SetDecl.{SetDecl}
use Rattle.vlt_core.specs.declared.program.FieldDecl.{FieldDecl}
use Rattle.vlt_core.specs.declared.program.CaseDecl.{CaseDecl}
use Rattle.vlt_core.specs.declared.program.TypeDecl.{TypeDecl}
use Rattle.vlt_core.specs.declared.program.TypeDecl.TheVariants as decl
use Rattle.vlt_core.specs.declared.program.Ty.{Ty}
use Rattle.vlt_core.specs.declared.program.Ty.TheVariants as ty
use Rattle.vlt_core.specs.declared.program.Mode.{Mode}
use Rattle.vlt_core.specs.declared.program.Mode.TheVariants as mode
use Rattle.vlt_core.specs.declared.program.Entry.{Entry}
use Rattle.vlt_core.specs.declared.program.KeyDecl.{KeyDecl}
use Rattle.vlt_core.specs.declared.program.VarDecl.{VarDecl}
use Rattle.vlt_core.specs.declared.program.Func.{Func}
use Rattle.vlt_core.specs.declared.program.Program.{Program}
use Rattle.vlt_core.specs.declared.program.Expr.{Expr}
use Rattle.vlt_core.specs.declared.program.Expr.TheOpen.{Expr-F}
use Rattle.vlt_core.specs.declared.program.Expr.TheFolds.{fold-Expr}
use Rattle.vlt_core.specs.declared.program.Operand.{Operand}
use Rattle.vlt_core.specs.declared.program.Operand.TheVariants as operand
use Rattle.vlt_core.specs.declared.program.Form.{Form}
use Rattle.vlt_core.specs.declared.program.Stmt.{Stmt}
use Rattle.vlt_core.specs.declared.program.Arm.{Arm}
use Rattle.vlt_core.specs.declared.program.Block.{Block}
use Rattle.vlt_core.specs.declared.program.Form.TheOpen.{Form-F, Arm-F, Block-F, Stmt-F}
use Rattle.vlt_core.specs.declared.program.Form.TheFolds.{fold-Form, fold-Arm, fold-Block, fold-Stmt}

-- ---- declarations

abbrev pub keys_of : List KeyId → List ℕ
keys_of = map (λ k. k.0)

abbrev pub vars_of : List VarId → List ℕ
vars_of = map (λ v. v.0)

abbrev pub states_of : Option StateSet → Option s.States
states_of = option_map has_state

abbrev pub ty_of : Ty → s.Ty
ty_of ty.Int = s.int
ty_of ty.Bool = s.bool
ty_of (ty.Key k t args) = s.tracked k.0 t.0 (keys_of args)
ty_of (ty.Own states t args) = s.owning (has_state states) t.0 (keys_of args)
ty_of (ty.Guard k t args) = s.guarded k.0 t.0 (keys_of args)
ty_of (ty.Var t args) = s.variant t.0 (keys_of args)
ty_of (ty.OwnVar t args) = s.owning_variant t.0 (keys_of args)

abbrev pub link_of : Link → s.Link
link_of l = record { lower = l.lower; upper = l.upper }

abbrev pub set_of : SetDecl → s.SetDecl
set_of d = record { name = d.name; states = map (λ n. n) d.states; links = map link_of d.links }

abbrev pub field_of : FieldDecl → s.FieldDecl
field_of d = record { name = d.name; ty = ty_of d.ty; states = has_state d.states }

abbrev pub case_key_of : ℕ × StateSet → s.CaseKey
case_key_of k = record { position = k.0; states = has_state k.1 }

abbrev pub case_of : CaseDecl → s.CaseDecl
case_of d = record { name = d.name; payload = map ty_of d.payload; keys = map case_key_of d.keys }

abbrev pub header_of : List (Option TypeId) → s.Header
header_of = map (option_map (λ t. t.0))

abbrev pub type_of : TypeDecl → s.TypeDecl
type_of (decl.Abstract name set) = s.an_abstract name (option_map (λ i. i.0) set)
type_of (decl.Struct name header set release fields) =
    s.a_struct (record {
      name = name;
      header = header_of header;
      set = option_map (λ i. i.0) set;
      release = has_state release;
      fields = map field_of fields;
    })
type_of (decl.Variant name header cases) =
    s.a_variant (record { name = name; header = header_of header; cases = map case_of cases })

abbrev pub mode_of : Mode → s.Mode
mode_of mode.Kept = s.kept
mode_of mode.Taken = s.taken
mode_of mode.Given = s.given
mode_of mode.New = s.fresh
mode_of (mode.Bound b) = s.up_to b

abbrev pub entry_of : Entry → s.Entry
entry_of e = record { mode = mode_of e.mode; key = e.key.0; before = states_of e.before; after = states_of e.after }

abbrev pub key_of : KeyDecl → s.KeyDecl
key_of d = record { name = d.name; key_type = option_map (λ t. t.0) d.key_type }

abbrev pub var_of : VarDecl → s.VarDecl
var_of d = record { name = d.name; ty = ty_of d.ty }

abbrev pub tok_of : Tok → s.Tok
tok_of (tok.Key k) = s.a_key k.0
tok_of (tok.Var v) = s.a_var v.0

-- ---- expressions

abbrev pub expr_step : Expr-F s.Expr → s.Expr
expr_step (Expr-F.Number z) = s.number z
expr_step (Expr-F.Bool b) = s.truth b
expr_step (Expr-F.Var v) = s.var v.0
expr_step (Expr-F.Field x i) = s.field x.0 i
expr_step (Expr-F.Un op a) = s.unary op a
expr_step (Expr-F.Bin op a b) = s.binary op a b

abbrev pub expr_of : Expr → s.Expr
expr_of = fold-Expr s.Expr expr_step

abbrev pub operand_of : Operand → s.Operand
operand_of (operand.Pure e) = s.pure (expr_of e)
operand_of (operand.Move v) = s.move v.0
operand_of (operand.Pack x states) = s.pack x.0 (has_state states)

-- ---- statements

-- a statement with its place, and an arm with its case and its variables
abbrev pub StmtView : Type 0
StmtView = ℕ × s.Form

abbrev pub ArmView : Type 0
ArmView = ℕ × List ℕ × s.Block

abbrev pub stmts_made : List StmtView → s.Stmts
stmts_made [] = s.done
stmts_made (x ∷ xs) = s.next x.0 x.1 (stmts_made xs)

abbrev pub arms_made : List ArmView → s.Arms
arms_made [] = s.no_arms
arms_made (x ∷ xs) = s.arm x.0 x.1 x.2 (arms_made xs)

abbrev pub form_step : Form-F s.Form ArmView s.Block StmtView → s.Form
form_step (Form-F.Set v e) = s.simple (s.set v.0 (expr_of e))
form_step (Form-F.Input v more) = s.simple (s.input v.0 more)
form_step (Form-F.Print e) = s.simple (s.print (expr_of e))
form_step (Form-F.Put x i e) = s.simple (s.put x.0 i (expr_of e))
form_step (Form-F.New x args) = s.simple (s.make x.0 (map operand_of args))
form_step (Form-F.Become x state) = s.simple (s.become x.0 state)
form_step (Form-F.Release x) = s.simple (s.release x.0)
form_step (Form-F.Drop v) = s.simple (s.drop v.0)
form_step (Form-F.Own v value) = s.simple (s.own v.0 (operand_of value))
form_step (Form-F.Unpack x v) = s.simple (s.unpack x.0 v.0)
form_step (Form-F.Build v case args) = s.simple (s.build v.0 case (map operand_of args))
form_step (Form-F.Call f target keys args) =
    s.call f.0 (option_map (λ v. v.0) target) (keys_of keys) (map operand_of args)
form_step (Form-F.Swap x i v) = s.simple (s.swap x.0 i v.0)
form_step (Form-F.Open x vs) = s.simple (s.open_into x.0 (vars_of vs))
form_step (Form-F.Adopt y x r) = s.simple (s.adopt y.0 x.0 r.0)
form_step (Form-F.If e a b) = s.choose (expr_of e) a b
form_step (Form-F.While e b) = s.loop (expr_of e) b
form_step (Form-F.Switch v arms end) = s.switch v.0 (arms_made arms) end
form_step (Form-F.Focus y z b) = s.focus y.0 z.0 b
form_step (Form-F.Scope b) = s.scope b
form_step (Form-F.Return value) = s.return (option_map operand_of value)
form_step (Form-F.Jump continues) = s.jump continues

abbrev pub arm_step : Arm-F s.Form ArmView s.Block StmtView → ArmView
arm_step x = (x.case, vars_of x.vars, x.body)

abbrev pub block_step : Block-F s.Form ArmView s.Block StmtView → s.Block
block_step x = s.block (stmts_made x.stmts) (map tok_of x.bound) x.end

abbrev pub stmt_step : Stmt-F s.Form ArmView s.Block StmtView → StmtView
stmt_step x = (x.at, x.form)

abbrev pub form_of : Form → s.Form
form_of = fold-Form s.Form ArmView s.Block StmtView form_step arm_step block_step stmt_step

abbrev pub arm_of : Arm → ArmView
arm_of = fold-Arm s.Form ArmView s.Block StmtView form_step arm_step block_step stmt_step

abbrev pub block_of : Block → s.Block
block_of = fold-Block s.Form ArmView s.Block StmtView form_step arm_step block_step stmt_step

abbrev pub stmt_of : Stmt → StmtView
stmt_of = fold-Stmt s.Form ArmView s.Block StmtView form_step arm_step block_step stmt_step

abbrev pub stmts_of : List Stmt → s.Stmts
stmts_of xs = stmts_made (map stmt_of xs)

abbrev pub arms_of : List Arm → s.Arms
arms_of xs = arms_made (map arm_of xs)

-- ---- functions and programs

abbrev pub func_of : Func → s.Func
func_of f = record {
  name = f.name;
  external = f.external;
  result = option_map ty_of f.result;
  params = f.params;
  clause = map entry_of f.clause;
  keys = map key_of f.keys;
  vars = map var_of f.vars;
  body = stmts_of f.body;
  end = f.end;
}

abbrev pub program_of : Program → s.Program
program_of p = record {
  sets = map set_of p.sets;
  types = map type_of p.types;
  fns = map func_of p.fns;
  main = p.main.0;
}
