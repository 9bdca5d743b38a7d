use Rattle.std.proofs.Common.{List, drop}
use Rattle.vlt_core.specs.View as view
use Rattle.vlt_base.specs.declared.ids.VarId.{VarId}
use Rattle.c_lower_exprs.specs.Scopes.{func_in, program_in}
use Rattle.c_lower_stmts.specs.Payloads.{payloads_copied}
use Rattle.c_lower_calls.proofs.Ends.{ended}
use Rattle.c_lower_stmts.proofs.Payloads.{no_payloads}
use Rattle.c_lower_stmts.proofs.blocks.copy_each.Goals as goal

pub returns-in-None : goal.returns-in-None
returns-in-None c =
    let p = program_in c.args.scope.now in
    let f = func_in c.args.scope.now in
    ended (λ (vs : List VarId). payloads_copied p f c.args.v.0 (drop c.loop-position.position-index c.args.positions.now) (view.vars_of vs)) c.loop-position.rest.now _ _ c.in-None.ensures.cases (no_payloads p f c.args.v.0 _) c.loop-position.invariant
