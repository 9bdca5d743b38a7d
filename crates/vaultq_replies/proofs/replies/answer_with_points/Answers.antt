use Rattle.std.proofs.Common.{◌++◌, ap, ◌∙◌}
use Rattle.vlt_core.specs.View.{program_of}
use Rattle.vlt_syntax.specs.View.{tree_of}
use Rattle.vaultc_runs.specs.declared.status.TheConstants.{DONE}
use Rattle.vaultc_runs.specs.Lines.{reply}
use Rattle.vaultc_runs.specs.Shown.{shown_reply}
use Rattle.vaultq_replies.proofs.Points.{with_points}
use Rattle.vaultq_replies.proofs.replies.answer_with_points.Goals as goal

pub returns : goal.returns
returns c =
    let lines = c.in_ok-lines.lines.items in
    let last = c.in_ok-last.last in
    with_points c.args.text.now (tree_of c.args.tree.now) c.args.judged.now (program_of c.args.program.now) (shown_reply last) (reply DONE c.extend_from_slice.new.self.items)
    c.requires.program c.in_ok-last.ensures
    (lines, c.in_ok-lines.ensures, ap (reply DONE) (c.in_ok-extend_from_slice.ensures.items ∙ ap (λ l. lines ++ l) c.as_slice.ensures.value))
