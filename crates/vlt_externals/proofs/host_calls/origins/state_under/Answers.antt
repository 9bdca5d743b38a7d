use Rattle.std.proofs.Common.{sym, ◌∙◌}
use Rattle.std.proofs.lemmas.Option.{none-some}
use Rattle.vlt_core.specs.View.{keys_of}
use Rattle.vlt_acts.proofs.OfValues.Fronts.{owned_object, number_object}
use Rattle.vlt_acts.proofs.OfFrames.Naming.{key_found, key_missing}
use Rattle.vlt_externals.proofs.OfHostCalls.Choosing.{state_so, state_other}
use Rattle.vlt_externals.proofs.host_calls.origins.state_under.Goals as goal

pub returns-in_default : goal.returns-in_default
returns-in_default x = λ c k m at held. absurd (none-some k (sym (key_missing x.args.keys.now x.args.key.0 (sym x.caller_key.ensures ∙ x.in_default.is)) ∙ at))

pub returns-in-Object : goal.returns-in-Object
returns-in-Object x = state_so x.args.heap.now x.args.values.now (keys_of x.args.keys.now) x.args.key.0 x.in-Some.k.0 x.key_slot.result (key_found x.args.keys.now x.args.key.0 x.in-Some.k (sym x.caller_key.ensures ∙ x.in-Some.is)) x.key_slot.ensures x.in-Object.o x.in-Object.number x.state_if_held.result x.in-Object.is x.state_if_held.ensures

pub returns-in-Owned : goal.returns-in-Owned
returns-in-Owned x = state_other x.args.heap.now x.args.values.now (keys_of x.args.keys.now) x.args.key.0 x.in-Some.k.0 x.key_slot.result (key_found x.args.keys.now x.args.key.0 x.in-Some.k (sym x.caller_key.ensures ∙ x.in-Some.is)) x.key_slot.ensures 0 (owned_object x.key_slot.result _ _ x.in-Owned.is)

pub returns-in-Number : goal.returns-in-Number
returns-in-Number x = state_other x.args.heap.now x.args.values.now (keys_of x.args.keys.now) x.args.key.0 x.in-Some.k.0 x.key_slot.result (key_found x.args.keys.now x.args.key.0 x.in-Some.k (sym x.caller_key.ensures ∙ x.in-Some.is)) x.key_slot.ensures 0 (number_object x.key_slot.result _ x.in-Number.is)
