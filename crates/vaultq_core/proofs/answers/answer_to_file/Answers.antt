use Rattle.std.proofs.Common.{ℕ, List, Some, false}
use Rattle.std.specs.Prelude.{MatchOption}
use Rattle.vaultc_runs.specs.OverFiles.{IsReplyOver}
use Rattle.vaultc_runs.specs.Shown.{IsReplyOf}
use Rattle.vaultc_runs.proofs.Finished.{finishes_as, reply_is}
use Rattle.vaultc_words.specs.FilesSeen.{error_seen}
use Rattle.vaultq_words.specs.View.{seen_asked, seen_question}
use Rattle.vaultq_replies.specs.Replies.{IsAnswerToText, MayAnswer}
use Rattle.vaultq_replies.proofs.Said.{text_answer, error_answer}
use Rattle.vaultq_core.proofs.answers.answer_to_file.Goals as goal

pub returns-in-Ok : goal.returns-in-Ok
returns-in-Ok g c =
    let store = c.args.store.now in
    let late = c.read_file.new.store in
    let q = c.args.question in
    let slice = c.as_slice.result.now in
    finishes_as g.K.Sink (IsReplyOf c.answer_to_text.result) (MayAnswer g.S.Store store late (Some (seen_question q))) c.args.out.now c.finish_reply.new.out c.finish_reply.result
    (λ r is. text_answer g.S.Store store late q.asked q.file.now c.in-Ok.bytes.items slice r c.as_slice.ensures.value c.in-Ok.ensures.read
    (reply_is (λ a. (file : List ℕ) → IsAnswerToText (seen_asked q.asked file) slice a) c.answer_to_text.result r c.answer_to_text.ensures is)) c.finish_reply.ensures

pub returns-in-Err : goal.returns-in-Err
returns-in-Err g c =
    let store = c.args.store.now in
    let late = c.read_file.new.store in
    let q = c.args.question in
    let e = c.in-Err.error in
    finishes_as g.K.Sink (IsReplyOf c.not_had.result) (MayAnswer g.S.Store store late (Some (seen_question q))) c.args.out.now c.finish_reply-in-Err.new.out c.finish_reply-in-Err.result
    (λ r is. error_answer g.S.Store store late q.asked q.file.now e r c.in-Err.ensures.read
    (reply_is (λ a. MatchOption (error_seen e) ⊥ (λ x. IsReplyOver false (λ _ _. ⊥) x a)) c.not_had.result r c.not_had.ensures is)) c.finish_reply-in-Err.ensures
