use Rattle.vlt_acts.proofs.OfValues.Fronts.{owned_object, number_object}
use Rattle.vlt_externals.proofs.OfResults.Loosing.{key_loose, other_loose}
use Rattle.vlt_externals.proofs.results.states.take_key.Goals as goal

pub returns-in-Object-clause-back : goal.returns-in-Object-clause-back
returns-in-Object-clause-back c = key_loose c.args.heap.now c.back.new.self c.args.values.now c.args.k.0 c.key_slot.result c.key_slot.ensures c.in-Object.o c.in-Object.number c.back.result c.in-Object.is c.back.ensures.items

pub returns-in-Owned-clause-back : goal.returns-in-Owned-clause-back
returns-in-Owned-clause-back c = other_loose c.args.heap.now c.args.values.now c.args.k.0 c.key_slot.result c.key_slot.ensures (owned_object c.key_slot.result _ _ c.in-Owned.is)

pub returns-in-Number-clause-back : goal.returns-in-Number-clause-back
returns-in-Number-clause-back c = other_loose c.args.heap.now c.args.values.now c.args.k.0 c.key_slot.result c.key_slot.ensures (number_object c.key_slot.result _ c.in-Number.is)
