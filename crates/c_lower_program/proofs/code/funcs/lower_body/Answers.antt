use Rattle.std.proofs.Common.{List, [], map, subst}
use Rattle.vlt_core.specs.View as view
use Rattle.vlt_core.specs.declared.program.Stmt.{Stmt as CodeStmt}
use Rattle.c_syntax.specs.declared.program.CStmt.{CStmt}
use Rattle.c_syntax.specs.View.{stmt_of}
use Rattle.c_lower.specs.Slots.{Numbers}
use Rattle.c_lower.specs.Statements.{list_code}
use Rattle.c_lower_exprs.specs.Scopes.{func_in, program_in}
use Rattle.c_lower_exprs.specs.Tables.{numbers_of}
use Rattle.c_lower_calls.specs.Written.{Writes}
use Rattle.c_lower_program.proofs.code.funcs.lower_body.Goals as goal

pub returns : goal.returns
returns c =
    let s = c.args.scope.now in
    let p = program_in s in
    let f = func_in s in
    let t = numbers_of s.frame.now.temps in
    let new = map stmt_of c.lower_stmts.new.out in
    let most = numbers_of c.in_ok-most.most in
    let begun : Writes (list_code p f t (view.stmts_of c.as_slice-body.result.now)) [] new most =
    subst (λ (xs : List CStmt). Writes (list_code p f t (view.stmts_of c.as_slice-body.result.now)) (map stmt_of xs) new most) c.new-stmts.ensures c.in_ok-most.ensures in
    let whole : Writes (list_code p f t f.body) [] new most =
    subst (λ (xs : List CodeStmt). Writes (list_code p f t (view.stmts_of xs)) [] new most) c.as_slice-body.ensures begun in
    subst (λ (t : Numbers). Writes (list_code p f t f.body) [] new most) c.requires.frame.temps whole
