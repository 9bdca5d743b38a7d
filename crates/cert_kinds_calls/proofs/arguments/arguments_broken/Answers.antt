use Rattle.std.proofs.Common.{◌∙◌, map}
use Rattle.vlt_core.specs.View.{program_of, func_of, keys_of}
use Rattle.vlt_core.specs.KindedHeads.{parameters_of}
use Rattle.vlt_core.specs.KindedCalls.{caller_type}
use Rattle.cert_kinds_exprs.specs.Scopes.{ids_of}
use Rattle.cert_kinds_calls.proofs.Operands.{arguments_next}
use Rattle.cert_kinds_calls.proofs.arguments.arguments_broken.Goals as goal

pub loop-i-preserved : goal.loop-i-preserved
loop-i-preserved c =
    rw (c.lesser-found.ensures, c.argument_broken.ensures, c.parameter_wanted.ensures)
    (c.loop-i.invariant ∙ arguments_next (program_of c.args.p.now) (func_of c.args.f.now) (ids_of c.args.ids.now) (map (caller_type (keys_of c.args.keys.now)) (parameters_of (func_of c.args.g.now))) c.loop-i.found c.args.args.now c.loop-i.i c.index-args-i.result c.index-args-i.is (search))
