use Rattle.std.proofs.Common.{◌≡◌, subst}
use Rattle.vlt_core.specs.HeldView.{IsSetOf}
use Rattle.vlt_core.specs.View.{program_of, func_of, entry_of}
use Rattle.vlt_core.specs.Lookups.{after_set}
use Rattle.vlt_meaning.specs.HostAnswers.{state_in}
use Rattle.vlt_externals.specs.HostAnswers.Read.{as_read, same}
use Rattle.vlt_externals.proofs.host_answers.pieces.entry_state.Goals as goal

pub returns-in-Some : goal.returns-in-Some
returns-in-Some c = λ s is.
    subst (λ q. as_read same c.state.result ≡ state_in q c.args.left.now)
    (subst (IsSetOf (after_set (program_of c.args.program.now) (func_of c.args.g.now) (entry_of c.args.e.now))) c.in-Some.is c.states_or_all.ensures) c.state.ensures

pub returns-in-None : goal.returns-in-None
returns-in-None c = λ s is.
    absurd (subst (IsSetOf (after_set (program_of c.args.program.now) (func_of c.args.g.now) (entry_of c.args.e.now))) c.in-None.is c.states_or_all.ensures s is)
