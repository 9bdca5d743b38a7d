use Rattle.std.proofs.Common.{refl}
use Rattle.vlt_acts.specs.Objects.Owned.{taken_out}
use Rattle.vlt_acts.proofs.OfObjects.Chains.{idle, number_owns, object_owns}
use Rattle.vlt_acts.proofs.OfObjects.Owning.{free_live, free_child, free_does}
use Rattle.vlt_acts.proofs.objects.owned.free_one.Goals as goal

pub disown-requires-clause-live : goal.disown-requires-clause-live
disown-requires-clause-live k = free_live k.args.heap.now k.args.a k.in-Owned.o _ k.in-Owned.is k.requires.can

pub disown-requires-clause-child : goal.disown-requires-clause-child
disown-requires-clause-child k = free_child k.args.heap.now k.args.a k.in-Owned.o _ k.in-Owned.is k.requires.can

pub returns-in-Owned-clause-does : goal.returns-in-Owned-clause-does
returns-in-Owned-clause-does k = free_does k.args.heap.now k.args.a k.in-Owned.o _ k.in-Owned.is _ k.disown.ensures.items

pub returns-in-Object-clause-does : goal.returns-in-Object-clause-does
returns-in-Object-clause-does k = λ n s after is. idle (taken_out n) (λ os. refl) k.args.heap.now _ s after (object_owns s.items k.args.a _ _ s.parts k.in-Object.is s.have) is

pub returns-in-Number-clause-does : goal.returns-in-Number-clause-does
returns-in-Number-clause-does k = λ n s after is. idle (taken_out n) (λ os. refl) k.args.heap.now _ s after (number_owns s.items k.args.a _ s.parts k.in-Number.is s.have) is
