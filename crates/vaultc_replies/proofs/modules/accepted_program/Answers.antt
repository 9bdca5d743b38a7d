use Rattle.std.proofs.Common.{sym, subst}
use Rattle.vlt_verdict.specs.Seen.{IsSeenAs}
use Rattle.vlt_verdict.specs.declared.Verdict.TheVariants.{Faulty}
use Rattle.vaultc_replies.specs.Modules.{IsReplyToViewVerdict}
use Rattle.vaultc_replies.specs.ModuleSteps.{file_seen}
use Rattle.vaultc_runs.specs.Shown.{shown_reply}
use Rattle.vaultc_replies.proofs.modules.accepted_program.Goals as goal

pub returns-in_ok-fault_in_view-in-Faulty-clause-refused : goal.returns-in_ok-fault_in_view-in-Faulty-clause-refused
returns-in_ok-fault_in_view-in-Faulty-clause-refused c = λ t seen.
    let i = file_seen c.args.interface in
    let m = file_seen c.args.own in
    let x : IsSeenAs (Faulty c.in-Faulty.program c.in-Faulty.fault) t = subst (λ w. IsSeenAs w t) c.in-Faulty.is seen in
    subst (λ w. IsReplyToViewVerdict i m (λ _ _. ⊥) w (shown_reply c.in_ok-fault_in_view-in-Faulty.field-0)) (sym x.2)
    (c.in_ok-fault_in_view-in-Faulty.ensures x.0 x.1 i)
