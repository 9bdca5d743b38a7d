use Rattle.vlt_core.proofs.Sets.{never_empty}
use Rattle.vlt_rows.proofs.states.States.set.Goals as goal

pub returns-in-Nothing : goal.returns-in-Nothing
returns-in-Nothing c = rw c.in-Nothing.is (λ s e. never_empty s e)

pub returns-in-Below : goal.returns-in-Below
returns-in-Below c = rw c.in-Below.is c.first.ensures

pub returns-in-Only : goal.returns-in-Only
returns-in-Only c = rw c.in-Only.is c.only.ensures
