use Rattle.std.proofs.Common.{◌∙◌}
use Rattle.vlt_core.specs.View.{keys_of, var_of}
use Rattle.vlt_core.specs.KindedCalls.{caller_type}
use Rattle.cert_kinds_calls.proofs.Operands.{wanted_here}
use Rattle.cert_kinds_calls.proofs.arguments.parameter_at.Goals as goal

pub returns-in-Some : goal.returns-in-Some
returns-in-Some c =
    c.caller_type.ensures ∙ wanted_here (caller_type (keys_of c.args.keys.now)) (λ d. d.ty) var_of c.args.vars.now c.args.i c.in-Some.d.now c.in-Some.ensures.lookup.3.0 c.in-Some.ensures.lookup.1
