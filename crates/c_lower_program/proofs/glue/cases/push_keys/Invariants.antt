use Rattle.std.proofs.Common.{◌≡◌, ◌++◌, drop, map}
use Rattle.vlt_core.specs.View.{case_key_of, keys_of}
use Rattle.c_syntax.specs.View.{stmt_of}
use Rattle.c_lower_exprs.specs.Scopes.{func_in, program_in}
use Rattle.c_lower_program.specs.Glue.Parts.{keys_code}
use Rattle.c_lower_program.proofs.glue.cases.push_keys.Given as goal

abbrev pub invariant-loop-key : goal.invariant-loop-key
invariant-loop-key l =
    map stmt_of l.out ++ keys_code l.part (program_in l.scope) (func_in l.scope) (keys_of l.args) (map case_key_of (drop l.key-index l.keys))
    ≡ map stmt_of l.initial.out ++ keys_code l.part (program_in l.scope) (func_in l.scope) (keys_of l.args) (map case_key_of l.keys)
