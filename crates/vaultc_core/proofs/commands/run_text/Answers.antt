use Rattle.std.proofs.Common.{subst}
use Rattle.vlt_core.specs.Core.{Program}
use Rattle.vlt_numbers.specs.Given.Given.{given_by}
use Rattle.vaultc_runs.specs.Finishes.{Finishes}
use Rattle.vaultc_runs.specs.Lines.{Reply}
use Rattle.vaultc_replies.specs.Replies.{IsReplyToRunText}
use Rattle.vaultc_runs.specs.Shown.{IsReplyOf, IsReplyToCaller, refusal_of}
use Rattle.vaultc_runs.proofs.Finished.{finishes_as, reply_is}
use Rattle.vaultc_replies.proofs.Said.{refused_run_text}
use Rattle.vaultc_core.proofs.commands.run_text.Goals as goal

pub judge_text-requires-clause-text : goal.judge_text-requires-clause-text
judge_text-requires-clause-text g c = (c.as_slice-bytes.result.now, c.in-Ok.ensures.ok)

pub returns-in-Err : goal.returns-in-Err
returns-in-Err g c =
    let files = c.args.files.now in
    let slice = c.as_slice-bytes.result.now in
    let given = given_by files.input.items files.answers.items in
    let P : Program → Reply → Type 0 = λ q r. IsReplyToCaller c.args.caller given c.args.budgets q r in
    subst (λ l. Finishes g.K.Sink (IsReplyToRunText P l) c.args.out.now c.finish_reply.new.out c.finish_reply.result) c.as_slice-bytes.ensures.value
    (finishes_as g.K.Sink (IsReplyOf c.refusal.result) (IsReplyToRunText P slice) c.args.out.now c.finish_reply.new.out c.finish_reply.result
    (λ r is. reply_is (IsReplyToRunText P slice) c.refusal.result r (refused_run_text P slice (refusal_of c.in-Err.error) c.refusal.result c.in-Err.ensures.refused c.refusal.ensures) is)
    c.finish_reply.ensures)
