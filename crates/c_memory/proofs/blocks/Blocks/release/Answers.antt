use Rattle.std.proofs.Common.{refl}
use Rattle.c_memory.proofs.Calls.{released_is}
use Rattle.c_memory.proofs.blocks.Blocks.release.Goals as goal

pub returns-clause-did : goal.returns-clause-did
returns-clause-did c = λ ts holds made.
    released_is c.args.self.now _ ts c.args.p c.in-Some.c (c.in-Some.ensures.things ts holds made) (record { shapes = refl; cells = refl; width = refl }) holds (λ n t at place. c.release.ensures.things ts n t holds.holds at place)
