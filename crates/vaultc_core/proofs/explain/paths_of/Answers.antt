use Rattle.std.proofs.Common.{ap, ◌∙◌, Err}
use Rattle.std.proofs.lemmas.Result.{IfErr-at_err}
use Rattle.vlt_core.specs.View.{program_of}
use Rattle.vlt_rows.specs.Unfit.{UnfitBy}
use Rattle.vlt_check.specs.Checks.{fault_of}
use Rattle.vlt_witness.specs.Unfit.{IsUnfitAt}
use Rattle.vaultc_core.proofs.Searched.{searched}
use Rattle.vaultc_core.proofs.explain.paths_of.Goals as goal

pub unreachable-requires-in-Err-Unfit : goal.unreachable-requires-in-Err-Unfit
unreachable-requires-in-Err-Unfit c =
    let p = program_of c.args.program.now in
    let x = fault_of c.args.fault.now in
    searched c.texts_can_be_searched.ensures p x c.requires.texts
    (IfErr-at_err (UnfitBy (IsUnfitAt p x)) (c.in-Err-Unfit.is ∙ ap (λ e. Err e) c.in-Err-Unfit.field-0-is) c.witness.ensures.unfit)
