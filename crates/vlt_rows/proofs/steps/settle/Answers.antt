use Rattle.vlt_rows.proofs.Stepping.{stepped, not_stepped}
use Rattle.vlt_rows.proofs.steps.settle.Goals as goal

pub returns-in-Ok : goal.returns-in-Ok
returns-in-Ok c = λ rs t. stepped rs _ _ _ t c.in-Ok.is

pub returns-in-Err : goal.returns-in-Err
returns-in-Err c = λ rs t. not_stepped rs _ _ _ t _ c.in-Err.is
