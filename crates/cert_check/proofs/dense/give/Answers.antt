use Rattle.std.proofs.Common.{sym, ap, ◌∙◌}
use Rattle.vlt_core.specs.Maps.{kind_of}
use Rattle.vlt_core.specs.View.{tok_of}
use Rattle.vlt_core.specs.HeldView.{status_of}
use Rattle.vlt_core.specs.declared.held.Status.TheVariants as status
use Rattle.vlt_keyset.specs.Held.{map_of}
use Rattle.cert_check.specs.Dense.{with_status}
use Rattle.cert_check.proofs.Filling.{lent_after, held_after}
use Rattle.cert_check.proofs.dense.give.Goals as goal

pub change-requires-clause-wanted : goal.change-requires-clause-wanted
change-requires-clause-wanted c = ap (λ m. kind_of (m (tok_of c.args.tok))) c.reach.ensures.same ∙ ap kind_of c.requires.absent

pub change-requires-in-Lent-clause-wanted : goal.change-requires-in-Lent-clause-wanted
change-requires-in-Lent-clause-wanted c = ap (λ m. kind_of (m (tok_of c.args.tok))) c.reach.ensures.same ∙ ap kind_of c.requires.absent

pub change-requires-in-Lent-2-clause-wanted : goal.change-requires-in-Lent-2-clause-wanted
change-requires-in-Lent-2-clause-wanted c = held_after c.args.tok c.in-Lent.states _ _ c.change-in-Lent.ensures.passed

pub change-requires-in-Full-clause-wanted : goal.change-requires-in-Full-clause-wanted
change-requires-in-Full-clause-wanted c = ap (λ m. kind_of (m (tok_of c.args.tok))) c.reach.ensures.same ∙ ap kind_of c.requires.absent

pub returns-in-Held : goal.returns-in-Held
returns-in-Held c =
    c.change.ensures.passed ∙ ap (with_status (tok_of c.args.tok) (status_of (status.Held c.in-Held.states))) c.reach.ensures.same ∙
    sym (ap (λ s. with_status (tok_of c.args.tok) (status_of s) (map_of c.args.held.now)) c.in-Held.is)

pub returns-in-Lent : goal.returns-in-Lent
returns-in-Lent c =
    lent_after c.args.tok c.in-Lent.states _ _ _ c.change-in-Lent.ensures.passed c.change-in-Lent-2.ensures.passed ∙ ap (with_status (tok_of c.args.tok) (status_of (status.Lent c.in-Lent.states))) c.reach.ensures.same ∙
    sym (ap (λ s. with_status (tok_of c.args.tok) (status_of s) (map_of c.args.held.now)) c.in-Lent.is)

pub returns-in-Full : goal.returns-in-Full
returns-in-Full c =
    c.change-in-Full.ensures.passed ∙ ap (with_status (tok_of c.args.tok) (status_of status.Full)) c.reach.ensures.same ∙
    sym (ap (λ s. with_status (tok_of c.args.tok) (status_of s) (map_of c.args.held.now)) c.in-Full.is)
