-- The plain program that a program of the code stands for. Nothing is forgotten.
use Rattle.std.specs.Prelude.{List, [], ◌∷◌, map, option_map}
use Rattle.c_syntax.specs.C as c
use Rattle.c_syntax.specs.declared.program.CExpr.{CExpr}
use Rattle.c_syntax.specs.declared.program.CExpr.TheOpen.{CExpr-F}
use Rattle.c_syntax.specs.declared.program.CExpr.TheFolds.{fold-CExpr}
use Rattle.c_syntax.specs.declared.program.CArg.{CArg}
use Rattle.c_syntax.specs.declared.program.CArg.TheVariants as arg
use Rattle.c_syntax.specs.declared.program.CCall.{CCall}
use Rattle.c_syntax.specs.declared.program.CCall.TheVariants as call
use Rattle.c_syntax.specs.declared.program.CStmt.{CStmt}
use Rattle.c_syntax.specs.declared.program.CStmt.TheOpen.{CStmt-F}
use Rattle.c_syntax.specs.declared.program.CStmt.TheFolds.{fold-CStmt}
use Rattle.c_syntax.specs.declared.program.CFunc.{CFunc}
use Rattle.c_syntax.specs.declared.program.CProgram.{CProgram}

abbrev pub expr_step : CExpr-F c.Expr → c.Expr
expr_step (CExpr-F.Number z) = c.number z
expr_step (CExpr-F.Var v) = c.variable v
expr_step (CExpr-F.Cell x) = c.cell x
expr_step CExpr-F.Null = c.null
expr_step (CExpr-F.Unary o e) = c.unary o e
expr_step (CExpr-F.Binary o a b) = c.binary o a b

abbrev pub expr_of : CExpr → c.Expr
expr_of = fold-CExpr c.Expr expr_step

abbrev pub arg_of : CArg → c.Arg
arg_of (arg.Number z) = c.number z
arg_of (arg.Var v) = c.variable v
arg_of arg.Null = c.null
arg_of (arg.Text s) = c.text s

abbrev pub call_of : CCall → c.Call
call_of (call.Function f xs) = c.function f (map arg_of xs)
call_of (call.Primitive p xs) = c.primitive p (map arg_of xs)

abbrev pub stmts_made : List c.Stmt → c.Stmts
stmts_made [] = c.done
stmts_made (x ∷ xs) = c.next x (stmts_made xs)

abbrev pub stmt_step : CStmt-F c.Stmt → c.Stmt
stmt_step (CStmt-F.Set v e) = c.set v (expr_of e)
stmt_step (CStmt-F.SetCall v f) = c.set_call v (call_of f)
stmt_step (CStmt-F.Call f) = c.call (call_of f)
stmt_step (CStmt-F.Put x e) = c.put x (expr_of e)
stmt_step (CStmt-F.If e xs) = c.when (expr_of e) (stmts_made xs)
stmt_step (CStmt-F.IfElse e xs ys) = c.choose (expr_of e) (stmts_made xs) (stmts_made ys)
stmt_step (CStmt-F.While xs) = c.loop (stmts_made xs)
stmt_step CStmt-F.Break = c.break
stmt_step CStmt-F.Continue = c.continue
stmt_step (CStmt-F.Return e) = c.return (option_map expr_of e)

abbrev pub stmt_of : CStmt → c.Stmt
stmt_of = fold-CStmt c.Stmt stmt_step

abbrev pub stmts_of : List CStmt → c.Stmts
stmts_of xs = stmts_made (map stmt_of xs)

abbrev pub func_of : CFunc → c.Func
func_of f = record { number = f.number; result = f.result; params = f.params; vars = f.vars; body = stmts_of f.body }

abbrev pub program_of : CProgram → c.Program
program_of p = record { glue = map func_of p.glue; fns = map func_of p.fns; main = p.main }
