use Rattle.std.proofs.Common.{subst}
use Rattle.vaultc_runs.specs.Finishes.{Finishes}
use Rattle.vaultc_replies.specs.Replies.{MayReply}
use Rattle.vaultc_core.proofs.commands.carry_out.Goals as goal

pub returns-in-Some-clause-finishes : goal.returns-in-Some-clause-finishes
returns-in-Some-clause-finishes g c =
    subst (λ o. Finishes g.K.Sink (MayReply g.S.Store c.args.store.now c.reply_to_command.new.store o) c.args.out.now c.reply_to_command.new.out c.reply_to_command.result)
    c.in-Some.ensures c.reply_to_command.ensures
