use Rattle.std.proofs.Common.{refl}
use Rattle.vlt_acts.specs.Objects.Owned.{objects_after_drop}
use Rattle.vlt_acts.proofs.OfObjects.Chains.{idle, number_owns, object_owns}
use Rattle.vlt_acts.proofs.OfObjects.Owning.{drop_live, drop_root, drop_here, drop_does}
use Rattle.vlt_acts.proofs.objects.owned.drop_one.Goals as goal

pub release-requires-clause-live : goal.release-requires-clause-live
release-requires-clause-live k = drop_live k.args.heap.now k.args.a k.in-Owned.o _ k.in-Owned.is k.requires.can

pub release-requires-clause-root : goal.release-requires-clause-root
release-requires-clause-root k = drop_root k.args.heap.now k.args.a k.in-Owned.o _ k.in-Owned.is k.requires.can

pub release-requires-clause-here : goal.release-requires-clause-here
release-requires-clause-here k = drop_here k.args.heap.now k.args.a k.in-Owned.o _ k.in-Owned.is k.requires.can

pub returns-in-Owned-clause-does : goal.returns-in-Owned-clause-does
returns-in-Owned-clause-does k = drop_does k.args.heap.now k.args.a k.in-Owned.o _ k.in-Owned.is _ k.release.ensures.items

pub returns-in-Object-clause-does : goal.returns-in-Object-clause-does
returns-in-Object-clause-does k = λ p s after is. idle (objects_after_drop p) (λ os. refl) k.args.heap.now _ s after (object_owns s.items k.args.a _ _ s.parts k.in-Object.is s.have) is

pub returns-in-Number-clause-does : goal.returns-in-Number-clause-does
returns-in-Number-clause-does k = λ p s after is. idle (objects_after_drop p) (λ os. refl) k.args.heap.now _ s after (number_owns s.items k.args.a _ s.parts k.in-Number.is s.have) is
