use Rattle.std.proofs.Common.{subst}
use Rattle.vaultc_runs.specs.Finishes.{Finishes}
use Rattle.vaultq_replies.specs.Replies.{MayAnswer}
use Rattle.vaultq_core.proofs.answers.answer.Goals as goal

pub returns-in-Some-clause-finishes : goal.returns-in-Some-clause-finishes
returns-in-Some-clause-finishes g c =
    subst (λ o. Finishes g.K.Sink (MayAnswer g.S.Store c.args.store.now c.answer_to_file.new.store o) c.args.out.now c.answer_to_file.new.out c.answer_to_file.result)
    c.in-Some.ensures c.answer_to_file.ensures
