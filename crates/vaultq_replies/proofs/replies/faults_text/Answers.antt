use Rattle.std.proofs.Common.{ap, ◌∙◌, Err}
use Rattle.vlt_check.proofs.Unfitting.{unfit_cause}
use Rattle.vlt_all_faults_lines.specs.Unfit.{untold}
use Rattle.vaultq_replies.proofs.replies.faults_text.Goals as goal

pub unreachable-requires : goal.unreachable-requires
unreachable-requires c =
    c.requires.listable.shown (untold (unfit_cause c.all_faults.result c.all_faults.ensures.unfit (c.in-Err-Unfit.is ∙ ap (λ e. Err e) c.in-Err-Unfit.field-0-is)))

pub returns-in-Ok : goal.returns-in-Ok
returns-in-Ok c = c.in-Ok.ensures.lines c.requires.listable.well_formed
