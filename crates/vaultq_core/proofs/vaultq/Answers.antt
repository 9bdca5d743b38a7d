use Rattle.std.proofs.Common.{map}
use Rattle.std.specs.Prelude.{string_bytes}
use Rattle.vaultq_words.specs.Questions.{question_of}
use Rattle.vaultq_replies.proofs.Single.{Laws}
use Rattle.vaultq_replies.proofs.Told.{told, memory, complete, no_fault, usage, unread_told}
use Rattle.vaultq_core.proofs.Listing.{faultless, listed, points}
use Rattle.vaultq_core.proofs.vaultq.Goals as goal

pub returns-clause-told : goal.returns-clause-told
returns-clause-told g c = λ files.
    told g.S.Store g.K.Sink c.args.store.now c.answer.new.store c.args.out.now c.answer.new.out (question_of (map string_bytes c.args.words.now)) c.answer.result files c.answer.ensures.finishes

pub returns-clause-no_fault : goal.returns-clause-no_fault
returns-clause-no_fault g c = λ files.
    no_fault g.S.Store g.K.Sink c.args.store.now c.answer.new.store c.args.out.now c.answer.new.out (question_of (map string_bytes c.args.words.now)) c.answer.result files c.answer.ensures.finishes

pub returns-clause-complete : goal.returns-clause-complete
returns-clause-complete g c = λ files r.
    let laws : Laws = record { one = c.a_tree_has_one_verdict.ensures; trees = c.texts_have_text_trees.ensures; listed = c.a_program_has_one_faults_text.ensures; found = c.a_token_has_one_list.ensures.one } in
    complete laws g.S.Store g.K.Sink c.args.store.now c.answer.new.store c.args.out.now c.answer.new.out (question_of (map string_bytes c.args.words.now)) c.answer.result files r c.answer.ensures.finishes

pub returns-clause-usage : goal.returns-clause-usage
returns-clause-usage g c =
    usage g.S.Store g.K.Sink c.args.store.now c.answer.new.store c.args.out.now c.answer.new.out (question_of (map string_bytes c.args.words.now)) c.answer.result c.answer.ensures.finishes

pub returns-clause-unread : goal.returns-clause-unread
returns-clause-unread g c =
    unread_told g.S.Store g.K.Sink c.args.store.now c.answer.new.store c.args.out.now c.answer.new.out (question_of (map string_bytes c.args.words.now)) c.answer.result c.answer.ensures.finishes

pub returns-clause-memory : goal.returns-clause-memory
returns-clause-memory g c = λ files.
    memory g.S.Store g.K.Sink c.args.store.now c.answer.new.store c.args.out.now c.answer.new.out (question_of (map string_bytes c.args.words.now)) c.answer.result files c.answer.ensures.finishes

pub returns-clause-faultless : goal.returns-clause-faultless
returns-clause-faultless g c =
    faultless g.S.Store g.K.Sink c.args.store.now c.answer.new.store c.args.out.now c.answer.new.out (question_of (map string_bytes c.args.words.now)) c.answer.result c.answer.ensures.finishes

pub returns-clause-listed : goal.returns-clause-listed
returns-clause-listed g c =
    listed c.faults_begin_with_the_first.ensures g.S.Store g.K.Sink c.args.store.now c.answer.new.store c.args.out.now c.answer.new.out (question_of (map string_bytes c.args.words.now)) c.answer.result c.answer.ensures.finishes

pub returns-clause-points : goal.returns-clause-points
returns-clause-points g c =
    points g.S.Store g.K.Sink c.args.store.now c.answer.new.store c.args.out.now c.answer.new.out (question_of (map string_bytes c.args.words.now)) c.answer.result c.answer.ensures.finishes
