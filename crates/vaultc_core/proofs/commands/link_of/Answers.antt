use Rattle.std.proofs.Common.{subst}
use Rattle.std.specs.Prelude.{IfOk}
use Rattle.vaultc_replies.specs.Modules.{file_with, IsReplyToLink}
use Rattle.vaultc_runs.specs.Shown.{shown_reply}
use Rattle.vaultc_core.proofs.commands.link_of.Goals as goal

pub returns : goal.returns
returns c =
    let i = c.args.interface.now in
    let f = c.args.first.now in
    let g = c.args.second.now in
    let files = c.args.files.now in
    subst (λ l. IfOk c.link_reply.result (λ r. IsReplyToLink (file_with i l) (file_with f files.first.items) (file_with g files.second.items) (shown_reply r))) c.as_slice.ensures.value
    (subst (λ l. IfOk c.link_reply.result (λ r. IsReplyToLink (file_with i c.as_slice.result.now) (file_with f l) (file_with g files.second.items) (shown_reply r))) c.as_slice-2.ensures.value
    (subst (λ l. IfOk c.link_reply.result (λ r. IsReplyToLink (file_with i c.as_slice.result.now) (file_with f c.as_slice-2.result.now) (file_with g l) (shown_reply r))) c.as_slice-3.ensures.value
    c.link_reply.ensures))
