use Rattle.std.proofs.Common.{◌≡◌, ◌+◌, ◌<◌, ◌^◌, drop}
use Rattle.c_reader_laws.specs.PrinterLaws.Sizes as s
use Rattle.c_lower_program.specs.Counts.{capped}
use Rattle.c_lower_program.proofs.functions.vars_size.Given as goal

abbrev pub invariant-loop-var : goal.invariant-loop-var
invariant-loop-var l = record {
  same : capped (l.size + s.vars_size (drop l.var-index l.vars)) ≡ capped (s.vars_size l.vars);
  fits : l.size < 2 ^ 64;
}
