use Rattle.std.proofs.Common.{ℕ, List, sym, subst}
use Rattle.vaultc_words.specs.Commands.{check, explain, fmt, emit}
use Rattle.vaultc_runs.specs.Finishes.{Finishes}
use Rattle.vaultc_replies.specs.Replies.{IsReplyToText}
use Rattle.vaultc_runs.specs.Shown.{IsReplyOf}
use Rattle.vaultc_words.specs.View.{seen_text}
use Rattle.vaultc_runs.proofs.Finished.{finishes_as, reply_is}
use Rattle.vaultc_core.proofs.commands.reply_to_text.Goals as goal

pub returns-in-Check : goal.returns-in-Check
returns-in-Check g c = λ file.
    let bytes = c.args.bytes.now in
    subst (λ k. Finishes g.K.Sink (IsReplyToText (seen_text k file) bytes) c.args.out.now c.finish_reply.new.out c.finish_reply.result) (sym c.in-Check.is)
    (finishes_as g.K.Sink (IsReplyOf c.reply_to_check.result) (IsReplyToText (check file) bytes) c.args.out.now c.finish_reply.new.out c.finish_reply.result
    (λ r is. reply_is (λ q. (name : List ℕ) → IsReplyToText (check name) bytes q) c.reply_to_check.result r c.reply_to_check.ensures is file) c.finish_reply.ensures)

pub returns-in-Explain : goal.returns-in-Explain
returns-in-Explain g c = λ file.
    let bytes = c.args.bytes.now in
    subst (λ k. Finishes g.K.Sink (IsReplyToText (seen_text k file) bytes) c.args.out.now c.finish_reply-in-Explain.new.out c.finish_reply-in-Explain.result) (sym c.in-Explain.is)
    (finishes_as g.K.Sink (IsReplyOf c.reply_to_explain.result) (IsReplyToText (explain file) bytes) c.args.out.now c.finish_reply-in-Explain.new.out c.finish_reply-in-Explain.result
    (λ r is. reply_is (λ q. (name : List ℕ) → IsReplyToText (explain name) bytes q) c.reply_to_explain.result r c.reply_to_explain.ensures is file) c.finish_reply-in-Explain.ensures)

pub returns-in-Fmt : goal.returns-in-Fmt
returns-in-Fmt g c = λ file.
    let bytes = c.args.bytes.now in
    subst (λ k. Finishes g.K.Sink (IsReplyToText (seen_text k file) bytes) c.args.out.now c.finish_reply-in-Fmt.new.out c.finish_reply-in-Fmt.result) (sym c.in-Fmt.is)
    (finishes_as g.K.Sink (IsReplyOf c.reply_to_fmt.result) (IsReplyToText (fmt file) bytes) c.args.out.now c.finish_reply-in-Fmt.new.out c.finish_reply-in-Fmt.result
    (λ r is. reply_is (λ q. (name : List ℕ) → IsReplyToText (fmt name) bytes q) c.reply_to_fmt.result r c.reply_to_fmt.ensures is file) c.finish_reply-in-Fmt.ensures)

pub returns-in-Emit : goal.returns-in-Emit
returns-in-Emit g c = λ file.
    let bytes = c.args.bytes.now in
    subst (λ k. Finishes g.K.Sink (IsReplyToText (seen_text k file) bytes) c.args.out.now c.finish_reply-in-Emit.new.out c.finish_reply-in-Emit.result) (sym c.in-Emit.is)
    (finishes_as g.K.Sink (IsReplyOf c.reply_to_emit.result) (IsReplyToText (emit file) bytes) c.args.out.now c.finish_reply-in-Emit.new.out c.finish_reply-in-Emit.result
    (λ r is. reply_is (λ q. (name : List ℕ) → IsReplyToText (emit name) bytes q) c.reply_to_emit.result r c.reply_to_emit.ensures is file) c.finish_reply-in-Emit.ensures)
