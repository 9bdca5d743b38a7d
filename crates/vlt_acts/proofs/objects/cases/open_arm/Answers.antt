use Rattle.std.proofs.Common.{arith}
use Rattle.vlt_acts.proofs.OfObjects.Arms.{opens_arm}
use Rattle.vlt_acts.proofs.objects.cases.open_arm.Goals as goal

pub returns-clause-opens : goal.returns-clause-opens
returns-clause-opens k =
    opens_arm k.args.heap.now k.args.values.now k.grow.new.self k.copy_var.new.self k.fill_parts.new.values k.truncate.new.self k.args.v.0 k.len-end.result _ _ k.len-end.ensures (omega arith) k.requires.table k.requires.var k.grow.ensures.grown k.copy_var.ensures.kept k.copy_var.ensures.filled
    k.fill_parts.ensures.set k.fill_parts.ensures.fills k.truncate.ensures.cut
