-- What statements of the code stand for.
use Rattle.std.proofs.Common.{◌≡◌, rules}
use Rattle.c_syntax.specs.declared.program.CVar.{CVar}
use Rattle.c_syntax.specs.declared.program.CCell.{CCell}
use Rattle.c_syntax.specs.declared.program.CExpr.{CExpr}
use Rattle.c_syntax.specs.declared.program.CStmt.{Set, Put, the_lemmas}
use Rattle.c_syntax.specs.C as s
use Rattle.c_syntax.specs.View.{expr_of, stmt_of}

pub set_seen : (v : CVar) (e : CExpr) → stmt_of (Set v e) ≡ s.set v (expr_of e)
set_seen v e = search (rules, the_lemmas)

pub put_seen : (x : CCell) (e : CExpr) → stmt_of (Put x e) ≡ s.put x (expr_of e)
put_seen x e = search (rules, the_lemmas)
