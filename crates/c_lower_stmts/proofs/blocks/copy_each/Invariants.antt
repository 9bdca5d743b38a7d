use Rattle.std.proofs.Common.{◌≡◌, ◌++◌, drop, map}
use Rattle.vlt_core.specs.View as view
use Rattle.c_syntax.specs.View.{stmt_of}
use Rattle.c_lower_exprs.specs.Scopes.{func_in, program_in}
use Rattle.c_lower_stmts.specs.Payloads.{payloads_copied}
use Rattle.c_lower_stmts.proofs.blocks.copy_each.Given as goal

abbrev pub invariant-loop-position : goal.invariant-loop-position
invariant-loop-position l =
    map stmt_of l.out ++ payloads_copied (program_in l.scope) (func_in l.scope) l.fn.v.0 (drop l.position-index l.positions) (view.vars_of l.rest)
    ≡ map stmt_of l.initial.out ++ payloads_copied (program_in l.scope) (func_in l.scope) l.fn.v.0 l.positions (view.vars_of l.fn.vars)
