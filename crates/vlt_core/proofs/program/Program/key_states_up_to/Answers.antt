use Rattle.std.proofs.Common.{subst, ap}
use Rattle.vlt_core.specs.View.{program_of}
use Rattle.vlt_core.specs.HeldView.{IsSetOrNone}
use Rattle.vlt_core.specs.Lookups.{up_to_in}
use Rattle.vlt_core.proofs.program.Program.key_states_up_to.Goals as goal

pub returns-in-None : goal.returns-in-None
returns-in-None c = ap (λ o. up_to_in (program_of c.args.self.now) o c.args.state) (rw c.in-None.is at c.key_type.ensures)

pub returns-in-Some : goal.returns-in-Some
returns-in-Some c =
    let found = rw c.in-Some.is at c.key_type.ensures in
    subst (λ o. IsSetOrNone (up_to_in (program_of c.args.self.now) o c.args.state) c.states_up_to.result) found c.states_up_to.ensures
