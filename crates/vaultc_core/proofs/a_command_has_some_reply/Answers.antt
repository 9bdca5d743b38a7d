use Rattle.vaultc_replies.proofs.Some.{some_of_read}
use Rattle.vaultc_core.proofs.a_command_has_some_reply.Goals as goal

pub returns : goal.returns
returns c = some_of_read (record {
  trees = c.texts_have_text_trees.ensures;
  fit = c.programs_are_fit.ensures;
  verdicts = c.a_tree_has_some_verdict.ensures;
  witnesses = c.first_fault_has_witness.ensures;
  never = c.accepted_programs_go_right.ensures.never;
  never_for_hosts = c.hosts_of_accepted_programs_go_right.ensures.never;
  c_texts = c.texts_are_read_in_one_way.ensures;
  certificates = c.accepted_texts_have_one.ensures;
  verified = c.c_files_verify_in_some_way.ensures;
  views = c.a_view_has_some_verdict.ensures;
  linked = record {
    trees = c.texts_have_text_trees.ensures;
    link = c.accepted_modules_link.ensures;
    texts = c.joined_programs_are_of_texts.ensures;
  };
})
