use Rattle.std.proofs.Common.{◌≡◌, ◌+◌, drop}
use Rattle.c_reader_laws.specs.PrinterLaws.Sizes as s
use Rattle.c_lower_program.specs.Counts.{capped}
use Rattle.c_lower_program.proofs.functions.more_params_size.Given as goal

abbrev pub invariant-loop-param : goal.invariant-loop-param
invariant-loop-param l =
    capped (l.size + s.more_params_size (drop l.param-index l.params)) ≡ capped (s.more_params_size l.params)
