use Rattle.std.proofs.Common.{Ok, Err, ap, ◌∙◌}
use Rattle.vlt_core.specs.View.{program_of, func_of}
use Rattle.vlt_check.proofs.Unfitting.{unfit_cause, parts_unfit, found_told}
use Rattle.vlt_check.proofs.program.refusal.Goals as goal

pub returns-in-Ok-Some-clause-told : goal.returns-in-Ok-Some-clause-told
returns-in-Ok-Some-clause-told c = λ x same.
    found_told (program_of c.args.p.now) (func_of c.args.f.now) c.args.fn_id c.fault_in.result c.in-Ok-Some.fault x c.fault_in.ensures.first c.fault_in.ensures.function
    (c.in-Ok-Some.is ∙ ap (λ x. Ok x) c.in-Ok-Some.field-0-is) same

pub returns-in-Err-Unfit-clause-unfit : goal.returns-in-Err-Unfit-clause-unfit
returns-in-Err-Unfit-clause-unfit c = λ e.
    parts_unfit (program_of c.args.p.now) (func_of c.args.f.now)
    (unfit_cause c.fault_in.result c.fault_in.ensures.unfit (c.in-Err-Unfit.is ∙ ap (λ x. Err x) c.in-Err-Unfit.field-0-is))
