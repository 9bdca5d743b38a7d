use Rattle.std.proofs.Common.{inl, inr, true, false, refl, subst}
use Rattle.vlt_heap.specs.Shown.{Tells}
use Rattle.vlt_externals.proofs.backs.set_if_held.Goals as goal

pub returns-then-not-is_held-clause-set : goal.returns-then-not-is_held-clause-set
returns-then-not-is_held-clause-set c = inr (subst (λ b. Tells b c.args.o c.args.number c.args.heap.now) c.if-not-is_held.true c.is_held.ensures.items, refl)

pub returns-clause-set : goal.returns-clause-set
returns-clause-set c = inl (record { there = subst (λ b. Tells b c.args.o c.args.number c.args.heap.now) c.if-not-is_held.false c.is_held.ensures.items; changes = c.become_state.ensures.items })
