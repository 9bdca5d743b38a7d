use Rattle.std.proofs.Common.{◌≡◌, ◌+◌, ◌<◌, ◌^◌, drop, map}
use Rattle.c_syntax.specs.View.{func_of}
use Rattle.c_reader_laws.specs.PrinterLaws.Sizes as s
use Rattle.c_lower_program.specs.Counts.{capped}
use Rattle.c_lower_program.proofs.functions.funcs_size.Given as goal

abbrev pub invariant-loop-func : goal.invariant-loop-func
invariant-loop-func l = record {
  same : capped (l.size + s.funcs_size (map func_of (drop l.func-index l.funcs))) ≡ capped (s.funcs_size (map func_of l.funcs));
  fits : l.size < 2 ^ 64;
}
