use Rattle.std.proofs.Common.{true, [], ◌∷◌, Some, refl}
use Rattle.std.specs.Prelude.{MatchOption}
use Rattle.vaultc_words.specs.Commands.{modules}
use Rattle.vaultc_replies.specs.Modules.{file_with, IsReplyToModule}
use Rattle.vaultc_runs.specs.OverFiles.{IsReplyOver}
use Rattle.vaultc_replies.specs.Replies.{MayReply}
use Rattle.vaultc_runs.specs.Shown.{IsReplyOf}
use Rattle.vaultc_words.specs.FilesSeen.{error_seen}
use Rattle.vaultc_words.specs.Sources.{had}
use Rattle.vaultc_runs.proofs.Finished.{finishes_as, reply_is}
use Rattle.vaultc_replies.proofs.Replied.{error_reply}
use Rattle.vaultc_core.proofs.commands.reply_to_module.Goals as goal

pub returns-in-Ok : goal.returns-in-Ok
returns-in-Ok g c =
    let files = c.in-Ok.files in
    let command = modules c.args.interface.now c.args.own.now in
    finishes_as g.K.Sink (IsReplyOf c.module_of.result) (MayReply g.S.Store c.args.store.now c.read_module_files.new.store (Some command)) c.args.out.now c.finish_reply.new.out c.finish_reply.result
    (λ r is. (had (files.interface.items ∷ files.own.items ∷ []), c.in-Ok.ensures.read, reply_is (IsReplyToModule (file_with c.args.interface.now files.interface.items) (file_with c.args.own.now files.own.items)) c.module_of.result r c.module_of.ensures is)) c.finish_reply.ensures

pub returns-in-Err : goal.returns-in-Err
returns-in-Err g c =
    let command = modules c.args.interface.now c.args.own.now in
    let e = c.in-Err.error in
    finishes_as g.K.Sink (IsReplyOf c.not_had_in.result) (MayReply g.S.Store c.args.store.now c.read_module_files.new.store (Some command)) c.args.out.now c.finish_reply-in-Err.new.out c.finish_reply-in-Err.result
    (λ r is. error_reply g.S.Store c.args.store.now c.read_module_files.new.store command e r c.in-Err.ensures.read true refl
    (reply_is (λ q. MatchOption (error_seen e) ⊥ (λ x. IsReplyOver true (λ _ _. ⊥) x q)) c.not_had_in.result r c.not_had_in.ensures is)) c.finish_reply-in-Err.ensures
