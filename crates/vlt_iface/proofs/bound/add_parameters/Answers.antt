use Rattle.std.proofs.Common.{◌<◌, length, arith}
use Rattle.vlt_syntax.specs.View as view
use Rattle.vlt_iface.specs.Texts.{texts_seen, parameter_texts}
use Rattle.vlt_iface.proofs.Texts.{bound_more}
use Rattle.vlt_iface.proofs.bound.add_parameters.Goals as goal

pub loop-parameter-preserved : goal.loop-parameter-preserved
loop-parameter-preserved c =
    let lt : c.loop-parameter.parameter-index < length c.args.parameters.now = omega arith in
    bound_more view.parameter_of parameter_texts c.args.parameters.now c.loop-parameter.parameter-index c.parameter-item.result (texts_seen c.loop-parameter.texts) (texts_seen c.add_parameter.new.texts)
    _ lt c.parameter-item.is c.in_ok-add_parameter.ensures c.loop-parameter.invariant
