use Rattle.std.proofs.Common.{sym, ◌∙◌}
use Rattle.vlt_core.specs.View.{entry_of, keys_of}
use Rattle.vlt_acts.proofs.OfValues.Fronts.{owned_object, number_object}
use Rattle.vlt_acts.proofs.OfFrames.Naming.{key_found, key_missing}
use Rattle.vlt_externals.proofs.Coming.{key_back, other_back, missing_back}
use Rattle.vlt_externals.proofs.backs.back_key.Goals as goal

pub returns-in-Object-clause-back : goal.returns-in-Object-clause-back
returns-in-Object-clause-back c = key_back c.args.heap.now c.back.new.self c.args.values.now (keys_of c.args.keys.now) (entry_of c.args.e.now) c.in-Some.k.0 c.key_slot.result c.requires.given (key_found c.args.keys.now c.args.e.now.key.0 c.in-Some.k (sym c.caller_key.ensures ∙ c.in-Some.is)) c.key_slot.ensures c.in-Object.o c.in-Object.number c.back.result c.in-Object.is c.back.ensures.items

pub returns-in-Owned-clause-back : goal.returns-in-Owned-clause-back
returns-in-Owned-clause-back c = other_back c.args.heap.now c.args.values.now (keys_of c.args.keys.now) (entry_of c.args.e.now) c.in-Some.k.0 c.key_slot.result c.requires.given (key_found c.args.keys.now c.args.e.now.key.0 c.in-Some.k (sym c.caller_key.ensures ∙ c.in-Some.is)) c.key_slot.ensures (owned_object c.key_slot.result _ _ c.in-Owned.is)

pub returns-in-Number-clause-back : goal.returns-in-Number-clause-back
returns-in-Number-clause-back c = other_back c.args.heap.now c.args.values.now (keys_of c.args.keys.now) (entry_of c.args.e.now) c.in-Some.k.0 c.key_slot.result c.requires.given (key_found c.args.keys.now c.args.e.now.key.0 c.in-Some.k (sym c.caller_key.ensures ∙ c.in-Some.is)) c.key_slot.ensures (number_object c.key_slot.result _ c.in-Number.is)

pub returns-in_default-clause-back : goal.returns-in_default-clause-back
returns-in_default-clause-back c = missing_back c.args.heap.now c.args.values.now (keys_of c.args.keys.now) (entry_of c.args.e.now) c.requires.given (key_missing c.args.keys.now c.args.e.now.key.0 (sym c.caller_key.ensures ∙ c.in_default.is))
