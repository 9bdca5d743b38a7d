use Rattle.std.proofs.Common.{◌≡◌, List, ◌++◌, map, OnOk, subst}
use Rattle.vlt_core.specs.View as view
use Rattle.c_syntax.specs.C.{Stmt}
use Rattle.c_syntax.specs.View.{stmt_of}
use Rattle.c_lower_exprs.specs.Scopes.{func_in, program_in}
use Rattle.c_lower_stmts.proofs.Payloads.{copies_are}
use Rattle.c_lower_stmts.proofs.blocks.copy_payloads.Goals as goal

pub returns : goal.returns
returns c =
    subst (λ (xs : List Stmt). OnOk c.copy_each.result (map stmt_of c.copy_each.new.out ≡ map stmt_of c.args.out.now ++ xs))
    (copies_are (program_in c.args.scope.now) (func_in c.args.scope.now) c.args.v.0 c.args.positions.now (view.vars_of c.args.vars.now)) c.copy_each.ensures
