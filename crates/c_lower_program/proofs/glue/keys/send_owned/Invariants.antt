use Rattle.std.proofs.Common.{◌≡◌, ◌-◌, ◌++◌, map}
use Rattle.std.specs.List.{range_with_len}
use Rattle.c_syntax.specs.View.{stmt_of}
use Rattle.c_lower.specs.Glue.{params_of}
use Rattle.c_lower_exprs.specs.Scopes.{func_in, program_in}
use Rattle.c_lower_program.specs.Glue.Parts.{owners_out}
use Rattle.c_lower_program.proofs.glue.keys.send_owned.Given as goal

abbrev pub invariant-loop-v : goal.invariant-loop-v
invariant-loop-v l =
    map stmt_of l.out ++ owners_out (program_in l.scope) (func_in l.scope) (range_with_len l.v ((func_in l.scope).params - l.v))
    ≡ map stmt_of l.initial.out ++ owners_out (program_in l.scope) (func_in l.scope) (params_of (func_in l.scope))
