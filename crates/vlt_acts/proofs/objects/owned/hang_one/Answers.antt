use Rattle.std.proofs.Common.{refl}
use Rattle.vlt_acts.specs.Objects.Owned.{put_in}
use Rattle.vlt_acts.proofs.OfObjects.Chains.{idle, number_owns, object_owns}
use Rattle.vlt_acts.proofs.OfObjects.Owning.{hang_needs, hang_does}
use Rattle.vlt_acts.proofs.objects.owned.hang_one.Goals as goal

pub own-requires-clause-live : goal.own-requires-clause-live
own-requires-clause-live k = (hang_needs k.args.heap.now k.args.a k.args.parent k.in-Owned.o _ k.in-Owned.is k.requires.can).live

pub own-requires-clause-root : goal.own-requires-clause-root
own-requires-clause-root k = (hang_needs k.args.heap.now k.args.a k.args.parent k.in-Owned.o _ k.in-Owned.is k.requires.can).root

pub own-requires-clause-here : goal.own-requires-clause-here
own-requires-clause-here k = (hang_needs k.args.heap.now k.args.a k.args.parent k.in-Owned.o _ k.in-Owned.is k.requires.can).here

pub own-requires-clause-parent_live : goal.own-requires-clause-parent_live
own-requires-clause-parent_live k = (hang_needs k.args.heap.now k.args.a k.args.parent k.in-Owned.o _ k.in-Owned.is k.requires.can).parent_live

pub own-requires-clause-parent_root : goal.own-requires-clause-parent_root
own-requires-clause-parent_root k = (hang_needs k.args.heap.now k.args.a k.args.parent k.in-Owned.o _ k.in-Owned.is k.requires.can).parent_root

pub own-requires-clause-other : goal.own-requires-clause-other
own-requires-clause-other k = (hang_needs k.args.heap.now k.args.a k.args.parent k.in-Owned.o _ k.in-Owned.is k.requires.can).other

pub returns-in-Owned-clause-does : goal.returns-in-Owned-clause-does
returns-in-Owned-clause-does k = hang_does k.args.heap.now k.args.a k.args.parent k.in-Owned.o _ k.in-Owned.is _ k.own.ensures.items

pub returns-in-Object-clause-does : goal.returns-in-Object-clause-does
returns-in-Object-clause-does k = λ s n after holder is. idle (put_in n) (λ os. refl) k.args.heap.now _ s after (object_owns s.items k.args.a _ _ s.parts k.in-Object.is s.have) is

pub returns-in-Number-clause-does : goal.returns-in-Number-clause-does
returns-in-Number-clause-does k = λ s n after holder is. idle (put_in n) (λ os. refl) k.args.heap.now _ s after (number_owns s.items k.args.a _ s.parts k.in-Number.is s.have) is
