use Rattle.std.proofs.Common.{Err, ap, ◌∙◌}
use Rattle.vlt_check.specs.Unfit.{no_walk}
use Rattle.vlt_check.proofs.Unfitting.{given_refused, given_unfit}
use Rattle.vlt_check.proofs.program.check_instance.Goals as goal

pub refusal-requires : goal.refusal-requires
refusal-requires c = record {
  origin = c.args.origin;
  is = c.requires;
  none = c.walk.ensures.refused.holds (c.in-Err-Refused.is ∙ ap (λ x. Err x) c.in-Err-Refused.field-0-is);
}

pub returns-in-Err-Refused-clause-refused : goal.returns-in-Err-Refused-clause-refused
returns-in-Err-Refused-clause-refused c =
    let none = c.walk.ensures.refused.holds (c.in-Err-Refused.is ∙ ap (λ x. Err x) c.in-Err-Refused.field-0-is) in
    given_refused _ (λ x e. (record { origin = c.args.origin; is = c.requires; none = none }, c.refusal.ensures.told x e))

pub returns-in-Err-Refused-clause-unfit : goal.returns-in-Err-Refused-clause-unfit
returns-in-Err-Refused-clause-unfit c = given_unfit _ (λ e. c.refusal.ensures.unfit e)

pub returns-in-Err-Unfit-clause-unfit : goal.returns-in-Err-Unfit-clause-unfit
returns-in-Err-Unfit-clause-unfit c =
    given_unfit _ (λ e. no_walk c.args.origin c.requires (c.walk.ensures.unfit.holds (c.in-Err-Unfit.is ∙ ap (λ x. Err x) c.in-Err-Unfit.field-0-is)))
