-- What the view of a form, a block, an arm and an expression is, by its constructor.
use Rattle.std.proofs.Common.{◌≡◌, ◌∙◌, ℕ, Bool, List, Option, map, ap, sym}
use Rattle.std.specs.Option.{option_map}
use Rattle.vlt_base.specs.declared.ids.FnId.{FnId}
use Rattle.vlt_base.specs.declared.ids.KeyId.{KeyId}
use Rattle.vlt_base.specs.declared.ids.VarId.{VarId}
use Rattle.vlt_ops.specs.declared.Op.{Op}
use Rattle.vlt_core.specs.Core as s
use Rattle.vlt_core.specs.declared.program.Operand.{Operand}
use Rattle.vlt_core.specs.declared.program.Expr.{Expr}
use Rattle.vlt_core.specs.declared.program.Expr.TheVariants as E
use Rattle.vlt_core.specs.declared.program.Expr.TheOpen.{Expr-F}
use Rattle.vlt_core.specs.declared.program.Expr.TheFolds.{fold-roll-Expr}
use Rattle.vlt_core.specs.declared.program.Form.TheVariants as V
use Rattle.vlt_core.specs.declared.program.Form.TheOpen.{Form-F}
use Rattle.vlt_core.specs.declared.program.Form.{Form}
use Rattle.vlt_core.specs.declared.program.Arm.{Arm, out-Arm}
use Rattle.vlt_core.specs.declared.program.Block.{Block, out-Block}
use Rattle.vlt_core.specs.declared.program.Stmt.{Stmt}
use Rattle.vlt_core.specs.declared.program.Form.TheFolds.{fold_out-Arm, fold_out-Block, fold_out-Stmt, fold-roll-Form}
use Rattle.vlt_core.specs.View.{keys_of, vars_of, tok_of, expr_of, expr_step, operand_of, ArmView, StmtView, stmt_of, form_of, arm_of, block_of, arms_of, stmts_of, form_step, arm_step, block_step, stmt_step}

pub arm_parts : (a : Arm) → arm_of a ≡ ((out-Arm a).case, vars_of (out-Arm a).vars, block_of (out-Arm a).body)
arm_parts a = fold_out-Arm s.Form ArmView s.Block StmtView form_step arm_step block_step stmt_step a

pub block_parts : (b : Block) → block_of b ≡ s.block (stmts_of (out-Block b).stmts) (map tok_of (out-Block b).bound) (out-Block b).end
block_parts b = fold_out-Block s.Form ArmView s.Block StmtView form_step arm_step block_step stmt_step b

pub stmt_parts : (x : Stmt) → stmt_of x ≡ (x.at, form_of x.form)
stmt_parts x = fold_out-Stmt s.Form ArmView s.Block StmtView form_step arm_step block_step stmt_step x

-- ---- expressions

pub unary_expr : (e : Expr) (op : Op) (a : Expr) → e ≡ E.Un op a → expr_of e ≡ s.unary op (expr_of a)
unary_expr e op a is = ap expr_of is ∙ opened
  where
    opened : expr_of (E.Un op a) ≡ s.unary op (expr_of a)
    opened = ap expr_of (sym (E.rolls-Un op a)) ∙ fold-roll-Expr s.Expr expr_step (Expr-F.Un op a)

pub binary_expr : (e : Expr) (op : Op) (a b : Expr) → e ≡ E.Bin op a b → expr_of e ≡ s.binary op (expr_of a) (expr_of b)
binary_expr e op a b is = ap expr_of is ∙ opened
  where
    opened : expr_of (E.Bin op a b) ≡ s.binary op (expr_of a) (expr_of b)
    opened = ap expr_of (sym (E.rolls-Bin op a b)) ∙ fold-roll-Expr s.Expr expr_step (Expr-F.Bin op a b)

-- ---- forms

pub set_form : (form : Form) (v : VarId) (e : Expr) → form ≡ V.Set v e → form_of form ≡ s.simple (s.set v.0 (expr_of e))
set_form form v e is = ap form_of is ∙ opened
  where
    opened : form_of (V.Set v e) ≡ s.simple (s.set v.0 (expr_of e))
    opened = ap form_of (sym (V.rolls-Set v e)) ∙ fold-roll-Form s.Form ArmView s.Block StmtView form_step arm_step block_step stmt_step (Form-F.Set v e)

pub input_form : (form : Form) (v : VarId) (more : Bool) → form ≡ V.Input v more → form_of form ≡ s.simple (s.input v.0 more)
input_form form v more is = ap form_of is ∙ opened
  where
    opened : form_of (V.Input v more) ≡ s.simple (s.input v.0 more)
    opened = ap form_of (sym (V.rolls-Input v more)) ∙ fold-roll-Form s.Form ArmView s.Block StmtView form_step arm_step block_step stmt_step (Form-F.Input v more)

pub print_form : (form : Form) (e : Expr) → form ≡ V.Print e → form_of form ≡ s.simple (s.print (expr_of e))
print_form form e is = ap form_of is ∙ opened
  where
    opened : form_of (V.Print e) ≡ s.simple (s.print (expr_of e))
    opened = ap form_of (sym (V.rolls-Print e)) ∙ fold-roll-Form s.Form ArmView s.Block StmtView form_step arm_step block_step stmt_step (Form-F.Print e)

pub put_form : (form : Form) (x : VarId) (i : ℕ) (e : Expr) → form ≡ V.Put x i e → form_of form ≡ s.simple (s.put x.0 i (expr_of e))
put_form form x i e is = ap form_of is ∙ opened
  where
    opened : form_of (V.Put x i e) ≡ s.simple (s.put x.0 i (expr_of e))
    opened = ap form_of (sym (V.rolls-Put x i e)) ∙ fold-roll-Form s.Form ArmView s.Block StmtView form_step arm_step block_step stmt_step (Form-F.Put x i e)

pub new_form : (form : Form) (x : VarId) (args : List Operand) → form ≡ V.New x args → form_of form ≡ s.simple (s.make x.0 (map operand_of args))
new_form form x args is = ap form_of is ∙ opened
  where
    opened : form_of (V.New x args) ≡ s.simple (s.make x.0 (map operand_of args))
    opened = ap form_of (sym (V.rolls-New x args)) ∙ fold-roll-Form s.Form ArmView s.Block StmtView form_step arm_step block_step stmt_step (Form-F.New x args)

pub become_form : (form : Form) (x : VarId) (state : ℕ) → form ≡ V.Become x state → form_of form ≡ s.simple (s.become x.0 state)
become_form form x state is = ap form_of is ∙ opened
  where
    opened : form_of (V.Become x state) ≡ s.simple (s.become x.0 state)
    opened = ap form_of (sym (V.rolls-Become x state)) ∙ fold-roll-Form s.Form ArmView s.Block StmtView form_step arm_step block_step stmt_step (Form-F.Become x state)

pub release_form : (form : Form) (x : VarId) → form ≡ V.Release x → form_of form ≡ s.simple (s.release x.0)
release_form form x is = ap form_of is ∙ opened
  where
    opened : form_of (V.Release x) ≡ s.simple (s.release x.0)
    opened = ap form_of (sym (V.rolls-Release x)) ∙ fold-roll-Form s.Form ArmView s.Block StmtView form_step arm_step block_step stmt_step (Form-F.Release x)

pub drop_form : (form : Form) (v : VarId) → form ≡ V.Drop v → form_of form ≡ s.simple (s.drop v.0)
drop_form form v is = ap form_of is ∙ opened
  where
    opened : form_of (V.Drop v) ≡ s.simple (s.drop v.0)
    opened = ap form_of (sym (V.rolls-Drop v)) ∙ fold-roll-Form s.Form ArmView s.Block StmtView form_step arm_step block_step stmt_step (Form-F.Drop v)

pub own_form : (form : Form) (v : VarId) (value : Operand) → form ≡ V.Own v value → form_of form ≡ s.simple (s.own v.0 (operand_of value))
own_form form v value is = ap form_of is ∙ opened
  where
    opened : form_of (V.Own v value) ≡ s.simple (s.own v.0 (operand_of value))
    opened = ap form_of (sym (V.rolls-Own v value)) ∙ fold-roll-Form s.Form ArmView s.Block StmtView form_step arm_step block_step stmt_step (Form-F.Own v value)

pub unpack_form : (form : Form) (x : VarId) (v : VarId) → form ≡ V.Unpack x v → form_of form ≡ s.simple (s.unpack x.0 v.0)
unpack_form form x v is = ap form_of is ∙ opened
  where
    opened : form_of (V.Unpack x v) ≡ s.simple (s.unpack x.0 v.0)
    opened = ap form_of (sym (V.rolls-Unpack x v)) ∙ fold-roll-Form s.Form ArmView s.Block StmtView form_step arm_step block_step stmt_step (Form-F.Unpack x v)

pub build_form : (form : Form) (v : VarId) (case : ℕ) (args : List Operand) → form ≡ V.Build v case args → form_of form ≡ s.simple (s.build v.0 case (map operand_of args))
build_form form v case args is = ap form_of is ∙ opened
  where
    opened : form_of (V.Build v case args) ≡ s.simple (s.build v.0 case (map operand_of args))
    opened = ap form_of (sym (V.rolls-Build v case args)) ∙ fold-roll-Form s.Form ArmView s.Block StmtView form_step arm_step block_step stmt_step (Form-F.Build v case args)

pub call_form : (form : Form) (f : FnId) (target : Option VarId) (keys : List KeyId) (args : List Operand) → form ≡ V.Call f target keys args → form_of form ≡ s.call f.0 (option_map (λ v. v.0) target) (keys_of keys) (map operand_of args)
call_form form f target keys args is = ap form_of is ∙ opened
  where
    opened : form_of (V.Call f target keys args) ≡ s.call f.0 (option_map (λ v. v.0) target) (keys_of keys) (map operand_of args)
    opened = ap form_of (sym (V.rolls-Call f target keys args)) ∙ fold-roll-Form s.Form ArmView s.Block StmtView form_step arm_step block_step stmt_step (Form-F.Call f target keys args)

pub swap_form : (form : Form) (x : VarId) (i : ℕ) (v : VarId) → form ≡ V.Swap x i v → form_of form ≡ s.simple (s.swap x.0 i v.0)
swap_form form x i v is = ap form_of is ∙ opened
  where
    opened : form_of (V.Swap x i v) ≡ s.simple (s.swap x.0 i v.0)
    opened = ap form_of (sym (V.rolls-Swap x i v)) ∙ fold-roll-Form s.Form ArmView s.Block StmtView form_step arm_step block_step stmt_step (Form-F.Swap x i v)

pub open_form : (form : Form) (x : VarId) (vs : List VarId) → form ≡ V.Open x vs → form_of form ≡ s.simple (s.open_into x.0 (vars_of vs))
open_form form x vs is = ap form_of is ∙ opened
  where
    opened : form_of (V.Open x vs) ≡ s.simple (s.open_into x.0 (vars_of vs))
    opened = ap form_of (sym (V.rolls-Open x vs)) ∙ fold-roll-Form s.Form ArmView s.Block StmtView form_step arm_step block_step stmt_step (Form-F.Open x vs)

pub adopt_form : (form : Form) (y : VarId) (x : VarId) (r : VarId) → form ≡ V.Adopt y x r → form_of form ≡ s.simple (s.adopt y.0 x.0 r.0)
adopt_form form y x r is = ap form_of is ∙ opened
  where
    opened : form_of (V.Adopt y x r) ≡ s.simple (s.adopt y.0 x.0 r.0)
    opened = ap form_of (sym (V.rolls-Adopt y x r)) ∙ fold-roll-Form s.Form ArmView s.Block StmtView form_step arm_step block_step stmt_step (Form-F.Adopt y x r)

pub if_form : (form : Form) (e : Expr) (a : Block) (b : Block) → form ≡ V.If e a b → form_of form ≡ s.choose (expr_of e) (block_of a) (block_of b)
if_form form e a b is = ap form_of is ∙ opened
  where
    opened : form_of (V.If e a b) ≡ s.choose (expr_of e) (block_of a) (block_of b)
    opened = ap form_of (sym (V.rolls-If e a b)) ∙ fold-roll-Form s.Form ArmView s.Block StmtView form_step arm_step block_step stmt_step (Form-F.If e a b)

pub while_form : (form : Form) (e : Expr) (b : Block) → form ≡ V.While e b → form_of form ≡ s.loop (expr_of e) (block_of b)
while_form form e b is = ap form_of is ∙ opened
  where
    opened : form_of (V.While e b) ≡ s.loop (expr_of e) (block_of b)
    opened = ap form_of (sym (V.rolls-While e b)) ∙ fold-roll-Form s.Form ArmView s.Block StmtView form_step arm_step block_step stmt_step (Form-F.While e b)

pub switch_form : (form : Form) (v : VarId) (arms : List Arm) (end : ℕ) → form ≡ V.Switch v arms end → form_of form ≡ s.switch v.0 (arms_of arms) end
switch_form form v arms end is = ap form_of is ∙ opened
  where
    opened : form_of (V.Switch v arms end) ≡ s.switch v.0 (arms_of arms) end
    opened = ap form_of (sym (V.rolls-Switch v arms end)) ∙ fold-roll-Form s.Form ArmView s.Block StmtView form_step arm_step block_step stmt_step (Form-F.Switch v arms end)

pub focus_form : (form : Form) (y : VarId) (z : VarId) (b : Block) → form ≡ V.Focus y z b → form_of form ≡ s.focus y.0 z.0 (block_of b)
focus_form form y z b is = ap form_of is ∙ opened
  where
    opened : form_of (V.Focus y z b) ≡ s.focus y.0 z.0 (block_of b)
    opened = ap form_of (sym (V.rolls-Focus y z b)) ∙ fold-roll-Form s.Form ArmView s.Block StmtView form_step arm_step block_step stmt_step (Form-F.Focus y z b)

pub scope_form : (form : Form) (b : Block) → form ≡ V.Scope b → form_of form ≡ s.scope (block_of b)
scope_form form b is = ap form_of is ∙ opened
  where
    opened : form_of (V.Scope b) ≡ s.scope (block_of b)
    opened = ap form_of (sym (V.rolls-Scope b)) ∙ fold-roll-Form s.Form ArmView s.Block StmtView form_step arm_step block_step stmt_step (Form-F.Scope b)

pub return_form : (form : Form) (value : Option Operand) → form ≡ V.Return value → form_of form ≡ s.return (option_map operand_of value)
return_form form value is = ap form_of is ∙ opened
  where
    opened : form_of (V.Return value) ≡ s.return (option_map operand_of value)
    opened = ap form_of (sym (V.rolls-Return value)) ∙ fold-roll-Form s.Form ArmView s.Block StmtView form_step arm_step block_step stmt_step (Form-F.Return value)

pub jump_form : (form : Form) (continues : Bool) → form ≡ V.Jump continues → form_of form ≡ s.jump continues
jump_form form continues is = ap form_of is ∙ opened
  where
    opened : form_of (V.Jump continues) ≡ s.jump continues
    opened = ap form_of (sym (V.rolls-Jump continues)) ∙ fold-roll-Form s.Form ArmView s.Block StmtView form_step arm_step block_step stmt_step (Form-F.Jump continues)
