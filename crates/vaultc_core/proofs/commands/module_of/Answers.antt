use Rattle.std.proofs.Common.{subst}
use Rattle.std.specs.Prelude.{IfOk}
use Rattle.vaultc_replies.specs.Modules.{file_with, IsReplyToModule}
use Rattle.vaultc_runs.specs.Shown.{shown_reply}
use Rattle.vaultc_core.proofs.commands.module_of.Goals as goal

pub returns : goal.returns
returns c =
    let i = c.args.interface.now in
    let m = c.args.own.now in
    subst (λ l. IfOk c.module_reply.result (λ r. IsReplyToModule (file_with i l) (file_with m c.args.files.now.own.items) (shown_reply r))) c.as_slice.ensures.value
    (subst (λ l. IfOk c.module_reply.result (λ r. IsReplyToModule (file_with i c.as_slice.result.now) (file_with m l) (shown_reply r))) c.as_slice-2.ensures.value c.module_reply.ensures)
