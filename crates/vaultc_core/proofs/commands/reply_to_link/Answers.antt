use Rattle.std.proofs.Common.{true, [], ◌∷◌, Some, refl}
use Rattle.std.specs.Prelude.{MatchOption}
use Rattle.vaultc_words.specs.Commands.{link}
use Rattle.vaultc_replies.specs.Modules.{file_with, IsReplyToLink}
use Rattle.vaultc_runs.specs.OverFiles.{IsReplyOver}
use Rattle.vaultc_replies.specs.Replies.{MayReply}
use Rattle.vaultc_runs.specs.Shown.{IsReplyOf}
use Rattle.vaultc_words.specs.FilesSeen.{error_seen}
use Rattle.vaultc_words.specs.Sources.{had}
use Rattle.vaultc_runs.proofs.Finished.{finishes_as, reply_is}
use Rattle.vaultc_replies.proofs.Replied.{error_reply}
use Rattle.vaultc_core.proofs.commands.reply_to_link.Goals as goal

pub returns-in-Ok : goal.returns-in-Ok
returns-in-Ok g c =
    let files = c.in-Ok.files in
    let command = link c.args.interface.now c.args.first.now c.args.second.now in
    finishes_as g.K.Sink (IsReplyOf c.link_of.result) (MayReply g.S.Store c.args.store.now c.read_link_files.new.store (Some command)) c.args.out.now c.finish_reply.new.out c.finish_reply.result
    (λ r is. (had (files.interface.items ∷ files.first.items ∷ files.second.items ∷ []), c.in-Ok.ensures.read, reply_is (IsReplyToLink (file_with c.args.interface.now files.interface.items) (file_with c.args.first.now files.first.items) (file_with c.args.second.now files.second.items)) c.link_of.result r c.link_of.ensures is)) c.finish_reply.ensures

pub returns-in-Err : goal.returns-in-Err
returns-in-Err g c =
    let command = link c.args.interface.now c.args.first.now c.args.second.now in
    let e = c.in-Err.error in
    finishes_as g.K.Sink (IsReplyOf c.not_had_in.result) (MayReply g.S.Store c.args.store.now c.read_link_files.new.store (Some command)) c.args.out.now c.finish_reply-in-Err.new.out c.finish_reply-in-Err.result
    (λ r is. error_reply g.S.Store c.args.store.now c.read_link_files.new.store command e r c.in-Err.ensures.read true refl
    (reply_is (λ q. MatchOption (error_seen e) ⊥ (λ x. IsReplyOver true (λ _ _. ⊥) x q)) c.not_had_in.result r c.not_had_in.ensures is)) c.finish_reply-in-Err.ensures
