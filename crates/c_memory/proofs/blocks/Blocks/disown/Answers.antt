use Rattle.std.proofs.Common.{refl}
use Rattle.c_memory.proofs.Calls.{disowned_is}
use Rattle.c_memory.proofs.blocks.Blocks.disown.Goals as goal

pub returns-clause-did : goal.returns-clause-did
returns-clause-did c = λ ts holds made.
    disowned_is c.args.self.now _ ts c.args.child c.in-Some.c (c.in-Some.ensures.things ts holds made) (record { shapes = refl; cells = refl; width = refl }) holds (λ n t at place. c.disown.ensures.things ts n t holds.holds at place)
