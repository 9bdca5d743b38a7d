use Rattle.std.proofs.Common.{◌≡◌, ◌++◌, drop, map}
use Rattle.vlt_core.specs.View.{entry_of}
use Rattle.c_syntax.specs.View.{stmt_of}
use Rattle.c_lower_exprs.specs.Scopes.{func_in, program_in}
use Rattle.c_lower_program.specs.Glue.Parts.{keys_moved}
use Rattle.c_lower_program.proofs.glue.keys.move_keys.Given as goal

abbrev pub invariant-loop-entry : goal.invariant-loop-entry
invariant-loop-entry l =
    map stmt_of l.out ++ keys_moved l.way (program_in l.scope) (func_in l.scope) (map entry_of (drop l.entry-index l.entry-items))
    ≡ map stmt_of l.initial.out ++ keys_moved l.way (program_in l.scope) (func_in l.scope) (func_in l.scope).clause
