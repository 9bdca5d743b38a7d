use Rattle.vlt_syntax.specs.View.{tree_of}
use Rattle.vaultc_runs.specs.Shown.{refusal_of, shown_reply}
use Rattle.vaultc_replies.proofs.ModuleSteps.{told_in, within_text}
use Rattle.vaultc_replies.proofs.modules.parse.Goals as goal

pub returns-in-Ok-clause-ok : goal.returns-in-Ok-clause-ok
returns-in-Ok-clause-ok c = record {
  reads = c.in-Ok.ensures.ok;
  tree = c.in-Ok.ensures.tree;
  within = within_text c.texts_are_within.ensures c.args.text.bytes.now (tree_of c.in-Ok.tree) c.in-Ok.ensures.ok c.requires;
  short = c.requires;
}

pub returns-in_ok-in_file-in-Err-clause-refused : goal.returns-in_ok-in_file-in-Err-clause-refused
returns-in_ok-in_file-in-Err-clause-refused c =
    told_in (refusal_of c.in-Err.error) c.args.text.bytes.now c.args.text.name.now (shown_reply c.in_ok-reply-in-Err.reply) (shown_reply c.in_ok-in_file-in-Err.field-0)
    c.in-Err.ensures.refused c.in_ok-reply-in-Err.ensures c.in_ok-in_file-in-Err.ensures
