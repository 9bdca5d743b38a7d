use Rattle.vaultq_replies.proofs.Single.{one_of_read}
use Rattle.vaultq_core.proofs.a_question_has_one_answer.Goals as goal

pub returns : goal.returns
returns c = one_of_read (record { one = c.a_tree_has_one_verdict.ensures; trees = c.texts_have_text_trees.ensures; listed = c.a_program_has_one_faults_text.ensures; found = c.a_token_has_one_list.ensures.one })
