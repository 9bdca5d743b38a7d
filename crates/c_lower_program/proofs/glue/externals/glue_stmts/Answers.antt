use Rattle.std.proofs.Common.{List, ◌++◌, map, ap, ◌∙◌}
use Rattle.c_syntax.specs.declared.program.CStmt.{CStmt}
use Rattle.c_syntax.specs.View.{stmt_of}
use Rattle.c_lower_exprs.specs.Scopes.{func_in, program_in}
use Rattle.c_lower_program.specs.Glue.Parts.{call_code}
use Rattle.c_lower_program.proofs.OfGlue.Same.{all_written}
use Rattle.c_lower_program.proofs.glue.externals.glue_stmts.Goals as goal

pub returns : goal.returns
returns c =
    let p = program_in c.args.scope.now in
    let f = func_in c.args.scope.now in
    let slots = c.args.slots.now in
    all_written p f slots (map stmt_of c.push_call.new.out) (map stmt_of c.push_answer.new.out) (map stmt_of c.give_back.new.out)
    (c.in_ok-push_call.ensures ∙ ap (λ (xs : List CStmt). map stmt_of xs ++ call_code p f slots) c.new-stmts.ensures)
    c.in_ok-push_answer.ensures c.in_ok-give_back.ensures
