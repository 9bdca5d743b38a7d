use Rattle.std.proofs.Common.{None, Some, sym, ◌∙◌, subst}
use Rattle.std.proofs.lemmas.Option.{none-some, same_Some}
use Rattle.vlt_heap.specs.Shown.{Tells}
use Rattle.vlt_externals.proofs.host_calls.origins.state_if_held.Goals as goal

pub returns-then-not-is_held : goal.returns-then-not-is_held
returns-then-not-is_held c = λ items x holds made at.
    absurd (none-some x (same_Some None (Some x) (sym (subst (λ b. Tells b c.args.o c.args.number c.args.heap.now) c.if-not-is_held.true c.is_held.ensures.items items holds made) ∙ at)))

pub returns : goal.returns
returns c = λ items x holds made at. c.state.ensures items c.args.number x holds at (made.place x at)
