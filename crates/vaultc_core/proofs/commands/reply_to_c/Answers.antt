use Rattle.std.proofs.Common.{[], ◌∷◌, Some, false, refl}
use Rattle.vaultc_words.specs.Commands.{crun}
use Rattle.vaultc_runs.specs.CRuns.{IsReplyToC}
use Rattle.vaultc_replies.specs.Replies.{MayReply}
use Rattle.vaultc_runs.specs.Shown.{IsReplyOf}
use Rattle.vaultc_words.specs.FilesSeen.{error_seen}
use Rattle.vaultc_words.specs.Sources.{had}
use Rattle.std.specs.Prelude.{MatchOption}
use Rattle.vaultc_runs.specs.OverFiles.{IsReplyOver}
use Rattle.vaultc_words.specs.View.{seen_taken}
use Rattle.vaultc_runs.proofs.Finished.{finishes_as, reply_is}
use Rattle.vaultc_replies.proofs.Replied.{error_reply}
use Rattle.vaultc_core.proofs.commands.reply_to_c.Goals as goal

pub returns-in-Ok : goal.returns-in-Ok
returns-in-Ok g c =
    let files = c.in-Ok.files in
    let command = crun c.args.name.now (seen_taken c.args.taken) in
    finishes_as g.K.Sink (IsReplyToC files.text.items files.input.items files.answers.items c.args.taken.budgets)
    (MayReply g.S.Store c.args.store.now c.read_run_files.new.store (Some command)) c.args.out.now c.run_c.new.out c.run_c.result
    (λ r is. (had (files.text.items ∷ files.input.items ∷ files.answers.items ∷ []), c.in-Ok.ensures.read, is)) c.run_c.ensures

pub returns-in-Err : goal.returns-in-Err
returns-in-Err g c =
    let command = crun c.args.name.now (seen_taken c.args.taken) in
    let e = c.in-Err.error in
    finishes_as g.K.Sink (IsReplyOf c.not_had.result) (MayReply g.S.Store c.args.store.now c.read_run_files.new.store (Some command)) c.args.out.now c.finish_reply.new.out c.finish_reply.result
    (λ r is. error_reply g.S.Store c.args.store.now c.read_run_files.new.store command e r c.in-Err.ensures.read false refl
    (reply_is (λ q. MatchOption (error_seen e) ⊥ (λ x. IsReplyOver false (λ _ _. ⊥) x q)) c.not_had.result r c.not_had.ensures is)) c.finish_reply.ensures
