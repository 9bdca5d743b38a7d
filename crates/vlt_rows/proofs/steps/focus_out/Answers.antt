use Rattle.vlt_rows.proofs.Stepping.{of_copy}
use Rattle.vlt_rows.proofs.steps.focus_out.Goals as goal

pub returns : goal.returns
returns c = c.settle.ensures _ (of_copy _ _ _ _ c.give_focus_end-passed.ensures _ c.in_ok-next.ensures)
