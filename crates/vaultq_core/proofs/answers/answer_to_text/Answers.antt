use Rattle.vlt_syntax.specs.View.{tree_of}
use Rattle.vaultc_runs.specs.Shown.{refusal_of}
use Rattle.vaultq_replies.proofs.Said.{refused_answer, said_of_tree}
use Rattle.vaultq_core.proofs.answers.answer_to_text.Goals as goal

pub judge_text-requires-clause-text : goal.judge_text-requires-clause-text
judge_text-requires-clause-text c = (c.args.bytes.now, c.in-Ok.ensures.ok)

pub returns-in_ok-judged-in-Ok : goal.returns-in_ok-judged-in-Ok
returns-in_ok-judged-in-Ok c =
    said_of_tree c.args.asked c.args.bytes.now (tree_of c.in-Ok.tree) c.in_ok-judged-in-Ok.judged c.answer_to_verdict.result c.in-Ok.ensures.ok c.in_ok-judged-in-Ok.ensures.is c.answer_to_verdict.ensures

pub returns-in-Err : goal.returns-in-Err
returns-in-Err c = refused_answer c.args.asked c.args.bytes.now (refusal_of c.in-Err.error) c.refusal.result c.in-Err.ensures.refused c.refusal.ensures
