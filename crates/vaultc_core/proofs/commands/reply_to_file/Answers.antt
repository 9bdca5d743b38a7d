use Rattle.std.proofs.Common.{Some, false}
use Rattle.std.specs.Prelude.{MatchOption}
use Rattle.vaultc_replies.specs.Replies.{IsReplyToText, MayReply}
use Rattle.vaultc_runs.specs.OverFiles.{IsReplyOver}
use Rattle.vaultc_runs.specs.Shown.{IsReplyOf}
use Rattle.vaultc_words.specs.FilesSeen.{error_seen}
use Rattle.vaultc_words.specs.View.{seen_text}
use Rattle.vaultc_runs.proofs.Finished.{finishes_as, reply_is}
use Rattle.vaultc_replies.proofs.Replied.{text_reply, text_sources, error_reply, text_names}
use Rattle.vaultc_core.proofs.commands.reply_to_file.Goals as goal

pub returns-in-Ok : goal.returns-in-Ok
returns-in-Ok g c =
    let store = c.args.store.now in
    let late = c.read_file.new.store in
    let file = c.args.name.now in
    let slice = c.as_slice.result.now in
    finishes_as g.K.Sink (IsReplyToText (seen_text c.args.command file) slice) (MayReply g.S.Store store late (Some (seen_text c.args.command file))) c.args.out.now c.reply_to_text.new.out c.reply_to_text.result
    (λ r is. text_reply g.S.Store store late c.args.command file c.in-Ok.bytes.items slice r c.as_slice.ensures.value c.in-Ok.ensures.read is)
    (c.reply_to_text.ensures file)

pub returns-in-Err : goal.returns-in-Err
returns-in-Err g c =
    let store = c.args.store.now in
    let late = c.read_file.new.store in
    let command = seen_text c.args.command c.args.name.now in
    let e = c.in-Err.error in
    finishes_as g.K.Sink (IsReplyOf c.not_had.result) (MayReply g.S.Store store late (Some command)) c.args.out.now c.finish_reply.new.out c.finish_reply.result
    (λ r is. error_reply g.S.Store store late command e r (text_sources g.S.Store store late c.args.command c.args.name.now e c.in-Err.ensures.read)
    false (text_names c.args.command c.args.name.now) (reply_is (λ q. MatchOption (error_seen e) ⊥ (λ x. IsReplyOver false (λ _ _. ⊥) x q)) c.not_had.result r c.not_had.ensures is)) c.finish_reply.ensures
