use Rattle.std.proofs.Common.{◌≡◌, ◌+◌, ◌<◌, ◌^◌, drop}
use Rattle.c_syntax.specs.View.{stmts_of}
use Rattle.c_reader_laws.specs.PrinterLaws.Sizes as s
use Rattle.c_lower_program.specs.Counts.{capped}
use Rattle.c_lower_program.proofs.stmts.+sizes.Given as goal

abbrev pub invariant-stmts_size-loop-stmt : goal.invariant-stmts_size-loop-stmt
invariant-stmts_size-loop-stmt l = record {
  same : capped (l.size + s.stmts_size (stmts_of (drop l.stmt-index l.stmts))) ≡ capped (s.stmts_size (stmts_of l.stmts));
  fits : l.size < 2 ^ 64;
}
