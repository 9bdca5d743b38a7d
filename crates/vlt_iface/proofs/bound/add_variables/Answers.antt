use Rattle.std.proofs.Common.{◌<◌, length, arith}
use Rattle.vlt_syntax.specs.View as view
use Rattle.vlt_iface.specs.Texts.{texts_seen, variable_texts}
use Rattle.vlt_iface.proofs.Texts.{bound_more}
use Rattle.vlt_iface.proofs.bound.add_variables.Goals as goal

pub loop-entry-preserved : goal.loop-entry-preserved
loop-entry-preserved c =
    let lt : c.loop-entry.entry-index < length c.args.entries.now = omega arith in
    bound_more view.entry_of variable_texts c.args.entries.now c.loop-entry.entry-index c.entry-item.result (texts_seen c.loop-entry.texts) (texts_seen c.add_variable.new.texts)
    _ lt c.entry-item.is c.in_ok-add_variable.ensures c.loop-entry.invariant
