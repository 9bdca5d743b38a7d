use Rattle.vlt_meaning.specs.Run.{any_state}
use Rattle.vlt_acts.proofs.OfValues.Fronts.{number_object, owned_object}
use Rattle.vlt_acts.proofs.OfActs.Acting.{met, met_live, right_found, become_does, nothing_becomes}
use Rattle.vlt_acts.proofs.acts.objects.become_state.Goals as goal

pub become_state-requires-clause-live : goal.become_state-requires-clause-live
become_state-requires-clause-live k =
    let q = k.requires.right in
    let f = right_found q.seen.func any_state k.args.x.0 q.seen.frame q.seen.objects q.world _ q.objects q.right in
    met_live k.args.heap.now k.args.values.now q.seen f.named k.in-Object.o (met k.args.heap.now k.args.values.now q.seen k.args.x.0 k.front.result k.front.ensures f.named f.packed k.in-Object.o _ k.in-Object.is)

pub returns-in-Object-clause-does : goal.returns-in-Object-clause-does
returns-in-Object-clause-does k = λ c w h d same. become_does k.args.heap.now _ k.args.values.now c w h d k.args.x.0 k.args.state k.front.result k.in-Object.o _ same k.front.ensures k.in-Object.is k.become_state.ensures.items

pub returns-in-Number-clause-does : goal.returns-in-Number-clause-does
returns-in-Number-clause-does k = λ c w h d same. nothing_becomes k.args.heap.now k.args.values.now c w h d k.args.x.0 k.args.state k.front.result same k.front.ensures (number_object k.front.result _ k.in-Number.is)

pub returns-in-Owned-clause-does : goal.returns-in-Owned-clause-does
returns-in-Owned-clause-does k = λ c w h d same. nothing_becomes k.args.heap.now k.args.values.now c w h d k.args.x.0 k.args.state k.front.result same k.front.ensures (owned_object k.front.result _ _ k.in-Owned.is)
