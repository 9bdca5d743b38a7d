use Rattle.vlt_externals.proofs.Handing.{object_owns_nothing, number_owns_nothing, can_hand, hands_it, hands_nothing}
use Rattle.vlt_externals.proofs.sending.send_one.Goals as goal

pub send-requires-clause-can : goal.send-requires-clause-can
send-requires-clause-can c = can_hand c.args.heap.now c.args.values.now c.args.from c.read.result c.read.ensures c.in-Owned.o _ c.in-Owned.is c.requires.can

pub returns-in-Owned-clause-hands : goal.returns-in-Owned-clause-hands
returns-in-Owned-clause-hands c = hands_it c.args.heap.now c.args.values.now c.args.from c.read.result c.read.ensures c.send.new.heap c.in-Owned.o _ c.in-Owned.is c.send.ensures.goes

pub returns-in-Object-clause-hands : goal.returns-in-Object-clause-hands
returns-in-Object-clause-hands c = hands_nothing c.args.heap.now c.args.values.now c.args.from c.read.result c.read.ensures (object_owns_nothing c.read.result _ _ c.in-Object.is)

pub returns-in-Number-clause-hands : goal.returns-in-Number-clause-hands
returns-in-Number-clause-hands c = hands_nothing c.args.heap.now c.args.values.now c.args.from c.read.result c.read.ensures (number_owns_nothing c.read.result _ c.in-Number.is)
