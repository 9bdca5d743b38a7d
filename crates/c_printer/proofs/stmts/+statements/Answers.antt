use Rattle.std.proofs.Common.{◌≡◌, ◌++◌, ap, subst, ◌∙◌, OnOk}
use Rattle.std.specs.Prelude.{codes}
use Rattle.c_syntax.specs.C as s
use Rattle.c_syntax.specs.View.{stmt_of, stmts_of}
use Rattle.c_printer.specs.Layout.{stmts_laid}
use Rattle.c_printer.proofs.Laid.{loop_seen, continue_seen}
use Rattle.c_printer.proofs.stmts.+statements.Goals as goal

pub write_stmt-returns-in_ok-write_stmts-in-While : goal.write_stmt-returns-in_ok-write_stmts-in-While
write_stmt-returns-in_ok-write_stmts-in-While t c =
    let seen : stmt_of c.args.stmt.now ≡ s.loop (stmts_of c.in-While.body) = ap stmt_of c.in-While.is ∙ loop_seen c.in-While.body in
    let inside : c.write_stmts-in-While.new.out.items ≡ stmts_laid (stmts_of c.in-While.body) (c.args.out.now.items ++ codes "while ( 1 ) {\n") =
    c.in_ok-write_stmts-in-While.ensures
    ∙ ap (λ xs. stmts_laid (stmts_of xs) c.write_text-in-While.new.out.items) c.as_slice-in-While.ensures
    ∙ ap (stmts_laid (stmts_of c.in-While.body)) c.in_ok-write_text-in-While.ensures in
    rw seen (subst (λ x. OnOk c.write_text-in-While-2.result (c.write_text-in-While-2.new.out.items ≡ x ++ codes "}\n")) inside c.write_text-in-While-2.ensures)

pub write_stmt-returns-in-Continue : goal.write_stmt-returns-in-Continue
write_stmt-returns-in-Continue t c =
    let seen : stmt_of c.args.stmt.now ≡ s.continue = ap stmt_of c.in-Continue.is ∙ continue_seen in
    rw seen c.write_text-in-Continue.ensures
