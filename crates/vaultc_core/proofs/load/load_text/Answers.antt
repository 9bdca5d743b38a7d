use Rattle.std.proofs.Common.{subst}
use Rattle.vaultc_runs.specs.Finishes.{Finishes}
use Rattle.vaultc_replies.specs.Loads.{IsReplyToLoad}
use Rattle.vaultc_replies.specs.Replies.{IsReplyToMade}
use Rattle.vaultc_runs.specs.Shown.{IsReplyOf, refusal_of}
use Rattle.vaultc_runs.proofs.Finished.{finishes_as, reply_is}
use Rattle.vaultc_replies.proofs.Said.{refused_text}
use Rattle.vaultc_core.proofs.load.load_text.Goals as goal

pub judge_text-requires-clause-text : goal.judge_text-requires-clause-text
judge_text-requires-clause-text g c = (c.as_slice-text.result.now, c.in-Ok.ensures.ok)

pub returns-in-Err : goal.returns-in-Err
returns-in-Err g c =
    let n = c.args.made.now.functions in
    let slice = c.as_slice-text.result.now in
    subst (λ l. Finishes g.K.Sink (IsReplyToMade n l) c.args.out.now c.finish_reply.new.out c.finish_reply.result) c.as_slice-text.ensures.value
    (finishes_as g.K.Sink (IsReplyOf c.refusal.result) (IsReplyToMade n slice) c.args.out.now c.finish_reply.new.out c.finish_reply.result
    (λ r is. reply_is (IsReplyToMade n slice) c.refusal.result r (refused_text (IsReplyToLoad n slice) slice (refusal_of c.in-Err.error) c.refusal.result c.in-Err.ensures.refused c.refusal.ensures) is)
    c.finish_reply.ensures)
