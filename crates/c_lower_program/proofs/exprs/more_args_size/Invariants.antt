use Rattle.std.proofs.Common.{◌≡◌, ◌+◌, drop, map}
use Rattle.c_syntax.specs.View.{arg_of}
use Rattle.c_reader_laws.specs.PrinterLaws.Sizes as s
use Rattle.c_lower_program.specs.Counts.{capped}
use Rattle.c_lower_program.proofs.exprs.more_args_size.Given as goal

abbrev pub invariant-loop-arg : goal.invariant-loop-arg
invariant-loop-arg l =
    capped (l.size + s.more_args_size (map arg_of (drop l.arg-index l.args))) ≡ capped (s.more_args_size (map arg_of l.args))
