use Rattle.std.proofs.Common.{ap, ◌∙◌, Err}
use Rattle.vlt_syntax.specs.View.{tree_of}
use Rattle.vaultc_replies.proofs.OfTexts.{program_of_text}
use Rattle.vaultc_core.proofs.judged.judge_text.Goals as goal

pub unreachable-requires : goal.unreachable-requires
unreachable-requires c =
    let bytes = c.requires.text.0 in
    let reads = c.requires.text.1 in
    let found = c.judge.ensures.unfit.holds (c.in-Err-Unfit.is ∙ ap (λ x. Err x) c.in-Err-Unfit.field-0-is) in
    c.texts_are_judged.ensures found.program (program_of_text bytes (tree_of c.args.tree.now) found.program reads c.requires.tree found.told) found.unfit
