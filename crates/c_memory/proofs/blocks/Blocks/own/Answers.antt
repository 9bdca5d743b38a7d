use Rattle.std.proofs.Common.{refl}
use Rattle.c_memory.proofs.Calls.{misused_self, owned_is}
use Rattle.c_memory.proofs.blocks.Blocks.own.Goals as goal

pub returns-then-c-q-clause-did : goal.returns-then-c-q-clause-did
returns-then-c-q-clause-did c = λ ts holds made made_q.
    rw (misused_self c.args.self.now ts c.args.child c.args.parent c.in-Some.c c.in-Some-find_root.q holds (c.in-Some.ensures.things ts holds made).0 (c.in-Some-find_root.ensures.things ts holds made_q).0 c.if-c-q.true) refl

pub returns-clause-did : goal.returns-clause-did
returns-clause-did c = λ ts holds made made_q.
    owned_is c.args.self.now _ ts c.args.child c.args.parent c.in-Some.c c.in-Some-find_root.q (c.in-Some.ensures.things ts holds made) (c.in-Some-find_root.ensures.things ts holds made_q) c.if-c-q.false
    (record { shapes = refl; cells = refl; width = refl }) holds (λ n m t u at place at_m place_m. c.own.ensures.things ts n m t u holds.holds at place at_m place_m)
