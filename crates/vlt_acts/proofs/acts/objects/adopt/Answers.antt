use Rattle.vlt_acts.proofs.OfValues.Fronts.{number_object, owned_object}
use Rattle.vlt_acts.proofs.OfActs.Acting.{adopt_needs, adopt_does, no_child, no_parent}
use Rattle.vlt_acts.proofs.acts.objects.adopt.Goals as goal

pub own-requires-clause-live : goal.own-requires-clause-live
own-requires-clause-live k = (adopt_needs k.args.heap.now k.args.values.now k.args.y.0 k.args.x.0 k.args.r.0 k.front.result k.front-in-Object.result k.in-Object.child k.in-Object-front.parent _ _ k.requires.right k.front.ensures k.in-Object.is k.front-in-Object.ensures k.in-Object-front.is).live

pub own-requires-clause-root : goal.own-requires-clause-root
own-requires-clause-root k = (adopt_needs k.args.heap.now k.args.values.now k.args.y.0 k.args.x.0 k.args.r.0 k.front.result k.front-in-Object.result k.in-Object.child k.in-Object-front.parent _ _ k.requires.right k.front.ensures k.in-Object.is k.front-in-Object.ensures k.in-Object-front.is).root

pub own-requires-clause-here : goal.own-requires-clause-here
own-requires-clause-here k = (adopt_needs k.args.heap.now k.args.values.now k.args.y.0 k.args.x.0 k.args.r.0 k.front.result k.front-in-Object.result k.in-Object.child k.in-Object-front.parent _ _ k.requires.right k.front.ensures k.in-Object.is k.front-in-Object.ensures k.in-Object-front.is).here

pub own-requires-clause-parent_live : goal.own-requires-clause-parent_live
own-requires-clause-parent_live k = (adopt_needs k.args.heap.now k.args.values.now k.args.y.0 k.args.x.0 k.args.r.0 k.front.result k.front-in-Object.result k.in-Object.child k.in-Object-front.parent _ _ k.requires.right k.front.ensures k.in-Object.is k.front-in-Object.ensures k.in-Object-front.is).parent_live

pub own-requires-clause-parent_root : goal.own-requires-clause-parent_root
own-requires-clause-parent_root k = (adopt_needs k.args.heap.now k.args.values.now k.args.y.0 k.args.x.0 k.args.r.0 k.front.result k.front-in-Object.result k.in-Object.child k.in-Object-front.parent _ _ k.requires.right k.front.ensures k.in-Object.is k.front-in-Object.ensures k.in-Object-front.is).parent_root

pub own-requires-clause-other : goal.own-requires-clause-other
own-requires-clause-other k = (adopt_needs k.args.heap.now k.args.values.now k.args.y.0 k.args.x.0 k.args.r.0 k.front.result k.front-in-Object.result k.in-Object.child k.in-Object-front.parent _ _ k.requires.right k.front.ensures k.in-Object.is k.front-in-Object.ensures k.in-Object-front.is).other

pub returns-in-Object-front-clause-does : goal.returns-in-Object-front-clause-does
returns-in-Object-front-clause-does k = λ c w h d same.
    adopt_does k.args.heap.now _ k.args.values.now k.put_single.new.self c w h d k.args.y.0 k.args.x.0 k.args.r.0 k.place-to.result k.front.result k.front-in-Object.result k.in-Object.child k.in-Object-front.parent k.in-Object.number _ same k.front.ensures k.in-Object.is
    k.front-in-Object.ensures k.in-Object-front.is k.requires.within k.requires.wide k.place-to.ensures.is k.put_single.ensures.kept k.put_single.ensures.filled k.own.ensures.items

pub returns-in-Number-front-clause-does : goal.returns-in-Number-front-clause-does
returns-in-Number-front-clause-does k = λ c w h d same. no_parent k.args.heap.now k.args.values.now c w h d k.args.y.0 k.args.x.0 k.args.r.0 k.front-in-Object.result same k.front-in-Object.ensures (number_object k.front-in-Object.result _ k.in-Number-front.is)

pub returns-in-Owned-front-clause-does : goal.returns-in-Owned-front-clause-does
returns-in-Owned-front-clause-does k = λ c w h d same. no_parent k.args.heap.now k.args.values.now c w h d k.args.y.0 k.args.x.0 k.args.r.0 k.front-in-Object.result same k.front-in-Object.ensures (owned_object k.front-in-Object.result _ _ k.in-Owned-front.is)

pub returns-in-Number-clause-does : goal.returns-in-Number-clause-does
returns-in-Number-clause-does k = λ c w h d same. no_child k.args.heap.now k.args.values.now c w h d k.args.y.0 k.args.x.0 k.args.r.0 k.front.result same k.front.ensures (number_object k.front.result _ k.in-Number.is)

pub returns-in-Owned-clause-does : goal.returns-in-Owned-clause-does
returns-in-Owned-clause-does k = λ c w h d same. no_child k.args.heap.now k.args.values.now c w h d k.args.y.0 k.args.x.0 k.args.r.0 k.front.result same k.front.ensures (owned_object k.front.result _ _ k.in-Owned.is)
