use Rattle.std.proofs.Common.{false, [], ◌∷◌, Some, refl, subst}
use Rattle.std.specs.Prelude.{MatchOption}
use Rattle.vlt_core.specs.Core.{Program}
use Rattle.vlt_numbers.specs.Given.Given.{given_by}
use Rattle.vlt_host.specs.CallsFile.{calls_of}
use Rattle.vaultc_words.specs.Commands.{host}
use Rattle.vaultc_runs.specs.Finishes.{Finishes}
use Rattle.vaultc_runs.specs.Lines.{Reply}
use Rattle.vaultc_runs.specs.HostRuns.{IsReplyToHost}
use Rattle.vaultc_runs.specs.OverFiles.{IsReplyOver}
use Rattle.vaultc_replies.specs.Replies.{IsReplyToRunText, MayReply}
use Rattle.vaultc_runs.specs.Shown.{IsReplyOf}
use Rattle.vaultc_words.specs.FilesSeen.{error_seen}
use Rattle.vaultc_words.specs.Sources.{had}
use Rattle.vaultc_words.specs.View.{seen_taken}
use Rattle.vaultc_runs.proofs.Finished.{finishes_as, reply_is}
use Rattle.vaultc_replies.proofs.Replied.{error_reply}
use Rattle.vaultc_core.proofs.commands.reply_to_host.Goals as goal

pub returns-in-Ok : goal.returns-in-Ok
returns-in-Ok g c =
    let files = c.in-Ok.files in
    let command = host c.args.name.now c.args.calls.now (seen_taken c.args.taken) in
    let given = given_by files.run.input.items files.run.answers.items in
    let P : Program → Reply → Type 0 = λ p r. IsReplyToHost p (calls_of files.calls.items) given c.args.taken.budgets r in
    let same = subst (λ l. Finishes g.K.Sink (IsReplyToRunText (λ p r. IsReplyToHost p (calls_of l) given c.args.taken.budgets r) files.run.text.items) c.args.out.now c.run_text.new.out c.run_text.result)
    c.as_slice.ensures.value c.run_text.ensures in
    finishes_as g.K.Sink (IsReplyToRunText P files.run.text.items) (MayReply g.S.Store c.args.store.now c.read_host_files.new.store (Some command)) c.args.out.now c.run_text.new.out c.run_text.result
    (λ r is. (had (files.run.text.items ∷ files.calls.items ∷ files.run.input.items ∷ files.run.answers.items ∷ []), c.in-Ok.ensures.read, is)) same

pub returns-in-Err : goal.returns-in-Err
returns-in-Err g c =
    let command = host c.args.name.now c.args.calls.now (seen_taken c.args.taken) in
    let e = c.in-Err.error in
    finishes_as g.K.Sink (IsReplyOf c.not_had.result) (MayReply g.S.Store c.args.store.now c.read_host_files.new.store (Some command)) c.args.out.now c.finish_reply.new.out c.finish_reply.result
    (λ r is. error_reply g.S.Store c.args.store.now c.read_host_files.new.store command e r c.in-Err.ensures.read false refl
    (reply_is (λ q. MatchOption (error_seen e) ⊥ (λ x. IsReplyOver false (λ _ _. ⊥) x q)) c.not_had.result r c.not_had.ensures is)) c.finish_reply.ensures
