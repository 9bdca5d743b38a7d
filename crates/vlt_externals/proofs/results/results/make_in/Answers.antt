use Rattle.std.proofs.Common.{subst}
use Rattle.vlt_heap.specs.Shown.{Makes}
use Rattle.vlt_externals.proofs.OfResults.Making.{new_made, none_made}
use Rattle.vlt_externals.proofs.results.results.make_in.Goals as goal

pub returns-in-Err-clause-makes : goal.returns-in-Err-clause-makes
returns-in-Err-clause-makes c = none_made c.args.heap.now c.new_object.new.self c.args.t.0 c.args.state c.in-Err.e (subst (λ r. Makes r c.args.t.0 c.args.heap.now c.new_object.new.self) c.in-Err.is c.new_object.ensures.items)

pub returns-in-Ok-clause-makes : goal.returns-in-Ok-clause-makes
returns-in-Ok-clause-makes c =
    new_made c.args.heap.now c.new_object.new.self c.become_state.new.self c.args.t.0 c.args.state c.number-number.result c.in-Ok.o (subst (λ r. Makes r c.args.t.0 c.args.heap.now c.new_object.new.self) c.in-Ok.is c.new_object.ensures.items)
    c.new_object.ensures.size.slots c.number-number.ensures c.become_state.ensures.items
