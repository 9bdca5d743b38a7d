use Rattle.std.proofs.Common.{map, ap, ◌∙◌}
use Rattle.c_syntax.specs.View.{stmt_of}
use Rattle.c_lower_exprs.specs.Tables.{numbers_of}
use Rattle.c_lower_exprs.specs.Scopes.{func_in, program_in}
use Rattle.c_lower_program.specs.Glue.Parts.{written}
use Rattle.c_lower_program.proofs.OfGlue.Same.{glue_written}
use Rattle.c_lower_program.proofs.glue.externals.glue_body.Goals as goal

pub returns : goal.returns
returns c =
    let p = program_in c.args.scope.now in
    let f = func_in c.args.scope.now in
    glue_written p f c.in_ok-slots.slots.vars (numbers_of c.in_ok-slots.slots.next) (map stmt_of c.in_ok-stmts.stmts) c.in_ok-slots.ensures.0 c.in_ok-slots.ensures.1
    (c.in_ok-stmts.ensures ∙ ap (written p f) c.as_slice.ensures)
