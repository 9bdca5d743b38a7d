use Rattle.std.proofs.Common.{sym, ◌∙◌}
use Rattle.vlt_core.specs.View.{entry_of}
use Rattle.vlt_host_acts.specs.Permits.Arguments.{bindings_in}
use Rattle.vlt_host_acts.specs.Permits.Held.{numbers_in}
use Rattle.vlt_host_acts.proofs.Taking.{one_taken}
use Rattle.vlt_host_acts.proofs.clause.remove_its.Goals as goal

pub returns-in-Some-clause-numbers : goal.returns-in-Some-clause-numbers
returns-in-Some-clause-numbers c = λ m.
    one_taken (numbers_in c.args.held.now) (numbers_in c.remove.new.self) (bindings_in c.args.params.now c.args.args.now) m c.in-Some.n (entry_of c.args.e)
    c.remove.ensures.numbers (sym c.is_taken.ensures ∙ c.if-is_taken.true) (sym c.in-Some.ensures)
