use Rattle.std.proofs.Common.{ap, Some}
use Rattle.cert_check.proofs.Leading.{led_comes}
use Rattle.cert_check.proofs.walking.leave_gone.Goals as goal

pub returns-in_ok-pass_gone-in-Some : goal.returns-in_ok-pass_gone-in-Some
returns-in_ok-pass_gone-in-Some c =
    let t = c.in_ok-pass_gone-in-Some.ensures.outcome in
    rw c.in-Some.is (record { outcome = (t.0, led_comes _ _ _ _ c.comes.ensures.held c.comes.ensures.at (ap Some t.1)) })
