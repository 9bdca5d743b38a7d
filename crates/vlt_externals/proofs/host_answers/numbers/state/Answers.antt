use Rattle.std.proofs.Common.{sym, ◌∙◌}
use Rattle.vlt_base.specs.States.{has_state}
use Rattle.vlt_externals.proofs.OfHostAnswers.Fronts.{reads_only, reads_any}
use Rattle.vlt_externals.proofs.host_answers.numbers.state.Goals as goal

pub returns-in-Some : goal.returns-in-Some
returns-in-Some c = reads_only (has_state c.args.states) c.args.left.now c.in-Some.s (sym c.in-Some.is ∙ c.only.ensures)

pub returns-in-None : goal.returns-in-None
returns-in-None c = c.member.ensures ∙ reads_any (has_state c.args.states) c.args.left.now (sym c.in-None.is ∙ c.only.ensures)
