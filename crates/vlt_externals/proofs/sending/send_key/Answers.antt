use Rattle.std.proofs.Common.{sym, ◌∙◌}
use Rattle.vlt_core.specs.View.{entry_of, keys_of}
use Rattle.vlt_acts.proofs.OfValues.Fronts.{owned_object, number_object}
use Rattle.vlt_acts.proofs.OfFrames.Naming.{key_found, key_missing}
use Rattle.vlt_externals.proofs.Going.{can_go, takes_it, takes_other, takes_missing}
use Rattle.vlt_externals.proofs.sending.send_key.Goals as goal

pub send-requires-clause-can : goal.send-requires-clause-can
send-requires-clause-can c = can_go c.args.heap.now c.args.values.now (keys_of c.args.keys.now) (entry_of c.args.e.now) c.in-Some.k.0 c.key_slot.result c.requires.taken (key_found c.args.keys.now c.args.e.now.key.0 c.in-Some.k (sym c.caller_key.ensures ∙ c.in-Some.is)) c.key_slot.ensures c.in-Object.o _ c.in-Object.is c.requires.can

pub returns-in-Object-clause-takes : goal.returns-in-Object-clause-takes
returns-in-Object-clause-takes c = takes_it c.args.heap.now c.args.values.now (keys_of c.args.keys.now) (entry_of c.args.e.now) c.in-Some.k.0 c.key_slot.result c.requires.taken (key_found c.args.keys.now c.args.e.now.key.0 c.in-Some.k (sym c.caller_key.ensures ∙ c.in-Some.is)) c.key_slot.ensures c.send.new.heap c.in-Object.o _ c.in-Object.is c.send.ensures.goes

pub returns-in-Owned-clause-takes : goal.returns-in-Owned-clause-takes
returns-in-Owned-clause-takes c = takes_other c.args.heap.now c.args.values.now (keys_of c.args.keys.now) (entry_of c.args.e.now) c.in-Some.k.0 c.key_slot.result c.requires.taken (key_found c.args.keys.now c.args.e.now.key.0 c.in-Some.k (sym c.caller_key.ensures ∙ c.in-Some.is)) c.key_slot.ensures (owned_object c.key_slot.result _ _ c.in-Owned.is)

pub returns-in-Number-clause-takes : goal.returns-in-Number-clause-takes
returns-in-Number-clause-takes c = takes_other c.args.heap.now c.args.values.now (keys_of c.args.keys.now) (entry_of c.args.e.now) c.in-Some.k.0 c.key_slot.result c.requires.taken (key_found c.args.keys.now c.args.e.now.key.0 c.in-Some.k (sym c.caller_key.ensures ∙ c.in-Some.is)) c.key_slot.ensures (number_object c.key_slot.result _ c.in-Number.is)

pub returns-in_default-clause-takes : goal.returns-in_default-clause-takes
returns-in_default-clause-takes c = takes_missing c.args.heap.now c.args.values.now (keys_of c.args.keys.now) (entry_of c.args.e.now) c.requires.taken (key_missing c.args.keys.now c.args.e.now.key.0 (sym c.caller_key.ensures ∙ c.in_default.is))
