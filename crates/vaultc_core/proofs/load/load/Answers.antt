use Rattle.std.proofs.Common.{subst}
use Rattle.vlt_load.specs.Generated.{generated_text}
use Rattle.vaultc_runs.specs.Finishes.{Finishes}
use Rattle.vaultc_replies.specs.Replies.{IsReplyToMade}
use Rattle.vaultc_core.proofs.load.load.Goals as goal

pub returns-in-Ok : goal.returns-in-Ok
returns-in-Ok g c =
    let made = c.in-Ok.made in
    subst (λ k. Finishes g.K.Sink (IsReplyToMade k (generated_text c.args.functions.count)) c.args.out.now c.load_text.new.out c.load_text.result) c.in-Ok.ensures.functions
    (subst (λ l. Finishes g.K.Sink (IsReplyToMade made.functions l) c.args.out.now c.load_text.new.out c.load_text.result) c.in-Ok.ensures.text c.load_text.ensures)
