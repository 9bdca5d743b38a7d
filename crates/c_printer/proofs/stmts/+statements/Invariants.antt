use Rattle.std.proofs.Common.{◌≡◌, drop}
use Rattle.c_printer.specs.Layout.{stmts_laid}
use Rattle.c_syntax.specs.View.{stmts_of}
use Rattle.c_printer.proofs.stmts.+statements.Given as goal

-- what is left, after what was written, is the whole
abbrev pub invariant-write_stmts-loop-stmt : goal.invariant-write_stmts-loop-stmt
invariant-write_stmts-loop-stmt l =
    stmts_laid (stmts_of (drop l.stmt-index l.stmts)) l.out.items ≡ stmts_laid (stmts_of l.stmts) l.initial.out.items
