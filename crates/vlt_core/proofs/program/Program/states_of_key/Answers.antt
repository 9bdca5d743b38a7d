use Rattle.std.proofs.Common.{subst}
use Rattle.vlt_core.specs.View.{program_of}
use Rattle.vlt_core.specs.HeldView.{IsSetOf}
use Rattle.vlt_core.specs.Lookups.{states_of_type}
use Rattle.vlt_core.proofs.program.Program.states_of_key.Goals as goal

pub returns-in-None : goal.returns-in-None
returns-in-None c =
    let found = rw c.in-None.is at c.key_type.ensures in
    subst (λ o. IsSetOf (states_of_type (program_of c.args.self.now) o) c.first_states.result) found c.first_states.ensures

pub returns-in-Some : goal.returns-in-Some
returns-in-Some c =
    let found = rw c.in-Some.is at c.key_type.ensures in
    subst (λ o. IsSetOf (states_of_type (program_of c.args.self.now) o) c.all_states.result) found c.all_states.ensures
