-- The plain statement that each form of the code stands for.
use Rattle.std.proofs.Common.{◌≡◌, rules, List, Option}
use Rattle.std.specs.Option.{option_map}
use Rattle.c_syntax.specs.declared.program.CVar.{CVar}
use Rattle.c_syntax.specs.declared.program.CCell.{CCell}
use Rattle.c_syntax.specs.declared.program.CCall.{CCall}
use Rattle.c_syntax.specs.declared.program.CExpr.{CExpr}
use Rattle.c_syntax.specs.declared.program.CStmt.{CStmt, Set, SetCall, Call, Put, If, IfElse, While, Break, Continue, Return, the_lemmas}
use Rattle.c_syntax.specs.C as c
use Rattle.c_syntax.specs.View.{expr_of, call_of, stmt_of, stmts_of}

pub set_seen : (v : CVar) (e : CExpr) → stmt_of (Set v e) ≡ c.set v (expr_of e)
set_seen v e = search (rules, the_lemmas)

pub set_call_seen : (v : CVar) (f : CCall) → stmt_of (SetCall v f) ≡ c.set_call v (call_of f)
set_call_seen v f = search (rules, the_lemmas)

pub call_seen : (f : CCall) → stmt_of (Call f) ≡ c.call (call_of f)
call_seen f = search (rules, the_lemmas)

pub put_seen : (x : CCell) (e : CExpr) → stmt_of (Put x e) ≡ c.put x (expr_of e)
put_seen x e = search (rules, the_lemmas)

pub when_seen : (e : CExpr) (xs : List CStmt) → stmt_of (If e xs) ≡ c.when (expr_of e) (stmts_of xs)
when_seen e xs = search (rules, the_lemmas)

pub choose_seen : (e : CExpr) (xs ys : List CStmt) → stmt_of (IfElse e xs ys) ≡ c.choose (expr_of e) (stmts_of xs) (stmts_of ys)
choose_seen e xs ys = search (rules, the_lemmas)

pub loop_seen : (xs : List CStmt) → stmt_of (While xs) ≡ c.loop (stmts_of xs)
loop_seen xs = search (rules, the_lemmas)

pub break_seen : stmt_of Break ≡ c.break
break_seen = search (rules, the_lemmas)

pub continue_seen : stmt_of Continue ≡ c.continue
continue_seen = search (rules, the_lemmas)

pub return_seen : (o : Option CExpr) → stmt_of (Return o) ≡ c.return (option_map expr_of o)
return_seen o = search (rules, the_lemmas)
