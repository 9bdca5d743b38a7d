use Rattle.std.proofs.Common.{Err, refl, sym, ap, ap₂, ◌∙◌}
use Rattle.vlt_syntax.specs.View.{tree_of}
use Rattle.vlt_core.specs.View.{program_of}
use Rattle.vlt_kinds_types.specs.declared.names.found.Refusal.{Refusal}
use Rattle.vlt_elaboration.specs.Elaboration.{broken}
use Rattle.vlt_check.specs.Checks.{fault_of}
use Rattle.vlt_verdict.specs.Verdicts.{refused, faulty, accepted}
use Rattle.vlt_judge.proofs.Judged.{declarations_refused, told_of, faulty_there}
use Rattle.vlt_judge.proofs.judge.Goals as goal

pub returns-in-Err-Rule-clause-is : goal.returns-in-Err-Rule-clause-is
returns-in-Err-Rule-clause-is c =
    let e = c.in-Err-Rule in
    let r : Refusal = record { rule = e.rule; at = e.at } in
    let told = c.tables.ensures.refused.holds r (e.is ∙ ap (λ x. Err x) e.field-0-is) in
    (refused (broken e.rule e.at), declarations_refused (tree_of c.args.tree.now) r told, ap₂ (λ a b. refused (broken a b)) (sym e.rule-is) (sym e.at-is))

pub returns-in-Ok-check-clause-is : goal.returns-in-Ok-check-clause-is
returns-in-Ok-check-clause-is c =
    let t = tree_of c.args.tree.now in
    let fit = c.programs_are_fit.ensures t _ _ c.requires c.in-Ok.ensures.ok c.in-Ok-elaborate.ensures.ok in
    let told = told_of t _ _ c.in-Ok.ensures.ok c.in-Ok-elaborate.ensures.ok in
    (accepted (program_of c.in-Ok-elaborate.program), (told, c.in-Ok-check.ensures.accepted fit.well_formed), refl)

pub returns-in-Err-Refused-clause-is : goal.returns-in-Err-Refused-clause-is
returns-in-Err-Refused-clause-is c =
    let t = tree_of c.args.tree.now in
    let fit = c.programs_are_fit.ensures t _ _ c.requires c.in-Ok.ensures.ok c.in-Ok-elaborate.ensures.ok in
    let told = told_of t _ _ c.in-Ok.ensures.ok c.in-Ok-elaborate.ensures.ok in
    let e = c.in-Err-Refused in
    let first = c.check.ensures.first.holds e.fault (e.is ∙ ap (λ x. Err x) e.field-0-is) fit.well_formed in
    let p = program_of c.in-Ok-elaborate.program in
    (faulty p first.func (fault_of e.fault), faulty_there t p (fault_of e.fault) told first, (first.func, first.there, refl))

pub returns-in-Err-Refused-clause-tellable : goal.returns-in-Err-Refused-clause-tellable
returns-in-Err-Refused-clause-tellable c =
    let t = tree_of c.args.tree.now in
    let fit = c.programs_are_fit.ensures t _ _ c.requires c.in-Ok.ensures.ok c.in-Ok-elaborate.ensures.ok in
    let e = c.in-Err-Refused in
    let first = c.check.ensures.first.holds e.fault (e.is ∙ ap (λ x. Err x) e.field-0-is) fit.well_formed in
    (first.func, first.there)

pub returns-in-Err-Unfit-clause-unfit : goal.returns-in-Err-Unfit-clause-unfit
returns-in-Err-Unfit-clause-unfit c =
    let t = tree_of c.args.tree.now in
    let fit = c.programs_are_fit.ensures t _ _ c.requires c.in-Ok.ensures.ok c.in-Ok-elaborate.ensures.ok in
    let told = told_of t _ _ c.in-Ok.ensures.ok c.in-Ok-elaborate.ensures.ok in
    let unfit = c.check.ensures.unfit.holds (c.in-Err-Unfit.is ∙ ap (λ x. Err x) c.in-Err-Unfit.field-0-is) in
    record {
      holds = λ e. record { program = program_of c.in-Ok-elaborate.program; told = told; unfit = c.only_bodies_are_unfit.ensures c.in-Ok-elaborate.program (record { well_formed = fit.well_formed; sizes = fit.sizes; few = fit.few }) unfit };
    }
