use Rattle.vlt_rows.proofs.Stepping.{of_copy}
use Rattle.vlt_rows.proofs.steps.open_case.Goals as goal

pub returns : goal.returns
returns c = c.settle.ensures _ (of_copy _ _ _ _ c.give_arm-passed.ensures _ c.in_ok-next.ensures)
