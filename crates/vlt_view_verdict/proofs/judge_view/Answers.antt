use Rattle.std.proofs.Common.{Err, refl, sym, ap, ap₂, ◌∙◌}
use Rattle.vlt_core.specs.View.{program_of}
use Rattle.vlt_kinds_types.specs.declared.names.found.Refusal.{Refusal}
use Rattle.vlt_elaboration.specs.Elaboration.{broken}
use Rattle.vlt_check.specs.Checks.{fault_of}
use Rattle.vlt_iface.specs.Seen.{view_seen}
use Rattle.vlt_verdict.specs.Verdicts.{refused, faulty, accepted}
use Rattle.vlt_view_verdict.proofs.Judged.{declarations_refused, told_of, faulty_there, judgeable}
use Rattle.vlt_view_verdict.proofs.judge_view.Goals as goal

pub tables_view-requires : goal.tables_view-requires
tables_view-requires c =
    let is = c.requires in
    c.told_views_are_trees.ensures is.interface is.own _ is.interface_text.tree is.own_text.tree is.told

pub returns-in-Err-Rule-clause-is : goal.returns-in-Err-Rule-clause-is
returns-in-Err-Rule-clause-is c =
    let e = c.in-Err-Rule in
    let r : Refusal = record { rule = e.rule; at = e.at } in
    let told = c.tables_view.ensures.refused.holds r (e.is ∙ ap (λ x. Err x) e.field-0-is) in
    (refused (broken e.rule e.at), declarations_refused (view_seen c.args.view.now) c.args.with_main r told, ap₂ (λ a b. refused (broken a b)) (sym e.rule-is) (sym e.at-is))

pub returns-in-Ok-check-clause-is : goal.returns-in-Ok-check-clause-is
returns-in-Ok-check-clause-is c =
    let v = view_seen c.args.view.now in
    let fit = judgeable c.view_programs_are_judgeable.ensures v c.requires c.args.with_main _ _ c.in-Ok.ensures.ok c.in-Ok-elaborate_view.ensures.ok in
    let told = told_of v c.args.with_main _ _ c.in-Ok.ensures.ok c.in-Ok-elaborate_view.ensures.ok in
    (accepted (program_of c.in-Ok-elaborate_view.program), (told, c.in-Ok-check.ensures.accepted fit.well_formed), refl)

pub returns-in-Err-Refused-clause-is : goal.returns-in-Err-Refused-clause-is
returns-in-Err-Refused-clause-is c =
    let v = view_seen c.args.view.now in
    let fit = judgeable c.view_programs_are_judgeable.ensures v c.requires c.args.with_main _ _ c.in-Ok.ensures.ok c.in-Ok-elaborate_view.ensures.ok in
    let told = told_of v c.args.with_main _ _ c.in-Ok.ensures.ok c.in-Ok-elaborate_view.ensures.ok in
    let e = c.in-Err-Refused in
    let first = c.check.ensures.first.holds e.fault (e.is ∙ ap (λ x. Err x) e.field-0-is) fit.well_formed in
    let p = program_of c.in-Ok-elaborate_view.program in
    (faulty p first.func (fault_of e.fault), faulty_there v c.args.with_main p (fault_of e.fault) told first, (first.func, first.there, refl))

pub returns-in-Err-Refused-clause-tellable : goal.returns-in-Err-Refused-clause-tellable
returns-in-Err-Refused-clause-tellable c =
    let v = view_seen c.args.view.now in
    let fit = judgeable c.view_programs_are_judgeable.ensures v c.requires c.args.with_main _ _ c.in-Ok.ensures.ok c.in-Ok-elaborate_view.ensures.ok in
    let e = c.in-Err-Refused in
    let first = c.check.ensures.first.holds e.fault (e.is ∙ ap (λ x. Err x) e.field-0-is) fit.well_formed in
    (first.func, first.there)

pub returns-in-Err-Unfit-clause-unfit : goal.returns-in-Err-Unfit-clause-unfit
returns-in-Err-Unfit-clause-unfit c =
    let v = view_seen c.args.view.now in
    let fit = judgeable c.view_programs_are_judgeable.ensures v c.requires c.args.with_main _ _ c.in-Ok.ensures.ok c.in-Ok-elaborate_view.ensures.ok in
    let told = told_of v c.args.with_main _ _ c.in-Ok.ensures.ok c.in-Ok-elaborate_view.ensures.ok in
    let unfit = c.check.ensures.unfit.holds (c.in-Err-Unfit.is ∙ ap (λ x. Err x) c.in-Err-Unfit.field-0-is) in
    record {
      holds = λ e. record { program = program_of c.in-Ok-elaborate_view.program; told = told; unfit = c.only_bodies_are_unfit.ensures c.in-Ok-elaborate_view.program fit unfit };
    }
