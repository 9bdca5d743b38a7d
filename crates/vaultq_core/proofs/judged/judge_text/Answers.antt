use Rattle.std.proofs.Common.{ap, ◌∙◌, Err}
use Rattle.vlt_syntax.specs.View.{tree_of}
use Rattle.vaultc_replies.proofs.OfTexts.{program_of_text}
use Rattle.vaultq_core.proofs.Listable.{Laws, listable}
use Rattle.vaultq_core.proofs.judged.judge_text.Goals as goal

pub unreachable-requires : goal.unreachable-requires
unreachable-requires c =
    let bytes = c.requires.text.0 in
    let reads = c.requires.text.1 in
    let found = c.judge.ensures.unfit.holds (c.in-Err-Unfit.is ∙ ap (λ x. Err x) c.in-Err-Unfit.field-0-is) in
    c.texts_are_judged.ensures found.program (program_of_text bytes (tree_of c.args.tree.now) found.program reads c.requires.tree found.told) found.unfit

pub returns-in-Ok-clause-listable : goal.returns-in-Ok-clause-listable
returns-in-Ok-clause-listable c =
    let laws : Laws = record { fit = c.programs_are_fit.ensures; flows = c.texts_have_flows.ensures; numbers = c.texts_have_numbers.ensures; searched = c.texts_can_be_searched.ensures } in
    listable laws c.requires.text.0 (tree_of c.args.tree.now) c.in-Ok.judged c.requires.text.1 c.requires.tree c.in-Ok.ensures.is
