use Rattle.std.proofs.Common.{sym, ◌∙◌}
use Rattle.vlt_base.specs.States.{has_state}
use Rattle.vlt_externals.proofs.OfHostAnswers.Members.{first_here, first_more}
use Rattle.vlt_externals.proofs.host_answers.numbers.+first_member.Goals as goal

pub returns-then-has : goal.returns-then-has
returns-then-has t c = λ n all. first_here (has_state c.args.states) c.args.from n c.if-from-eq32.false all (sym c.has.ensures ∙ c.if-has.true)

pub returns-else-has : goal.returns-else-has
returns-else-has t c = λ n all. first_more (has_state c.args.states) c.args.from n c.first_member.result c.if-from-eq32.false all (sym c.has.ensures ∙ c.if-has.false) c.first_member.ensures
