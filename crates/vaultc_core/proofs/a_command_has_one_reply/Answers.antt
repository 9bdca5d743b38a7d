use Rattle.vaultc_replies.proofs.Single.{one_of_read}
use Rattle.vaultc_core.proofs.a_command_has_one_reply.Goals as goal

pub returns : goal.returns
returns c = one_of_read (record { one = c.a_tree_has_one_verdict.ensures; trees = c.texts_have_text_trees.ensures; c_texts = c.texts_are_read_in_one_way.ensures; certificates = c.least_certificates_are_one.ensures; verified = c.texts_verify_in_one_way.ensures; views = c.a_view_has_one_verdict.ensures })
