use Rattle.vlt_acts.proofs.OfValues.Fronts.{owned_object, number_object}
use Rattle.vlt_externals.proofs.Coming.{becomes_so, becomes_other}
use Rattle.vlt_externals.proofs.backs.set_state.Goals as goal

pub returns-in-Object-clause-becomes : goal.returns-in-Object-clause-becomes
returns-in-Object-clause-becomes c = becomes_so c.args.heap.now c.set_if_held.new.heap c.args.values.now c.args.k.0 c.args.state c.key_slot.result c.key_slot.ensures c.in-Object.o c.in-Object.number c.in-Object.is c.set_if_held.ensures.set

pub returns-in-Owned-clause-becomes : goal.returns-in-Owned-clause-becomes
returns-in-Owned-clause-becomes c = becomes_other c.args.heap.now c.args.heap.now c.args.values.now c.args.k.0 c.args.state c.key_slot.result c.key_slot.ensures (owned_object c.key_slot.result _ _ c.in-Owned.is)

pub returns-in-Number-clause-becomes : goal.returns-in-Number-clause-becomes
returns-in-Number-clause-becomes c = becomes_other c.args.heap.now c.args.heap.now c.args.values.now c.args.k.0 c.args.state c.key_slot.result c.key_slot.ensures (number_object c.key_slot.result _ c.in-Number.is)
