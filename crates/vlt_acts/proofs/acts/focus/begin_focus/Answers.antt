use Rattle.std.proofs.Common.{sym, ap, ◌∙◌, ◌≡◌}
use Rattle.std.specs.Option.{option_map}
use Rattle.std.proofs.lemmas.Option.{same_Some}
use Rattle.vlt_core.specs.Lookups.{reference_of}
use Rattle.vlt_core.specs.LookupViews.{reference_view}
use Rattle.vlt_acts.proofs.OfValues.Fronts.{number_object, owned_object}
use Rattle.vlt_acts.proofs.OfActs.Focusing.{met_focus, met_live, met_child, no_focus, focus_does}
use Rattle.vlt_acts.proofs.acts.focus.begin_focus.Goals as goal

pub focus-adopter-requires-clause-live : goal.focus-adopter-requires-clause-live
focus-adopter-requires-clause-live k =
    let q = k.requires.can in
    met_live k.args.heap.now k.args.values.now q.seen q.world q.finds.adopter q.finds.object k.in-Object.object (met_focus k.args.heap.now k.args.values.now q.seen q.world k.args.y.0 k.args.z.0 q.objects q.finds k.front.result k.front.ensures k.in-Object.object k.in-Object.number k.in-Object.is).met

pub focus-adopter-requires-clause-child : goal.focus-adopter-requires-clause-child
focus-adopter-requires-clause-child k =
    let q = k.requires.can in
    met_child k.args.heap.now k.args.values.now q.seen q.world q.finds.adopter q.finds.object k.in-Object.object (met_focus k.args.heap.now k.args.values.now q.seen q.world k.args.y.0 k.args.z.0 q.objects q.finds k.front.result k.front.ensures k.in-Object.object k.in-Object.number k.in-Object.is).met

pub unreachable-requires : goal.unreachable-requires
unreachable-requires k = no_focus k.args.heap.now k.args.values.now k.args.y.0 k.args.z.0 k.requires.can k.front.result k.front.ensures (number_object k.front.result _ k.in-Number.is)

pub returns-in-Some-clause-does : goal.returns-in-Some-clause-does
returns-in-Some-clause-does k = λ c w func same f.
    let is : reference_view k.in-Some.r ≡ f.key = same_Some _ _ (ap (option_map reference_view) (sym k.in-Some.is) ∙ k.reference.ensures ∙ ap (λ g. reference_of g k.args.z.0) (sym func) ∙ f.is_key) in
    focus_does k.args.heap.now _ k.args.values.now k.put_key.new.self k.put_single.new.self c w k.args.y.0 k.args.z.0 k.place-to.result same f k.front.result k.in-Object.object k.focus-adopter.result k.in-Object.number k.front.ensures k.in-Object.is
    k.requires.within k.requires.wide k.in-Some.r.key.0 (ap (λ r. r.key) is) k.put_key.ensures k.place-to.ensures.is k.put_single.ensures.kept k.put_single.ensures.filled k.focus-adopter.ensures.parent k.focus-adopter.ensures.items

pub unreachable-requires-in-Owned : goal.unreachable-requires-in-Owned
unreachable-requires-in-Owned k = no_focus k.args.heap.now k.args.values.now k.args.y.0 k.args.z.0 k.requires.can k.front.result k.front.ensures (owned_object k.front.result _ _ k.in-Owned.is)
