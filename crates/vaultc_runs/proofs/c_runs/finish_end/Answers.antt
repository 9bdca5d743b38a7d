use Rattle.std.proofs.Common.{sym, subst}
use Rattle.vaultc_runs.specs.Shown.{EndsC, IsReasonOf, IsTellableEnd}
use Rattle.vaultc_runs.proofs.CEnded.{refused_ends}
use Rattle.vaultc_runs.proofs.c_runs.finish_end.Goals as goal

pub returns-in-Unread : goal.returns-in-Unread
returns-in-Unread g c =
    let text = c.args.text.now in
    let e = c.in-Unread.error in
    let reason : IsReasonOf text e = subst (IsTellableEnd text) c.in-Unread.is c.requires.tellable in
    subst (λ x. EndsC g.K.Sink text x c.args.out.now c.finish_reply.new.out c.finish_reply.result) (sym c.in-Unread.is)
    (refused_ends g.K.Sink text e c.refusal.result c.args.out.now c.finish_reply.new.out c.finish_reply.result reason c.refusal.ensures c.finish_reply.ensures)
