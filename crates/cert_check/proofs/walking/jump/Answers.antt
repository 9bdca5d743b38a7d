use Rattle.cert_check.proofs.Sequences.{stopped, first_here}
use Rattle.cert_check.proofs.Leading.{jumped, jump_lost}
use Rattle.cert_check.proofs.walking.jump.Goals as goal

pub returns-in_err-pass_gone : goal.returns-in_err-pass_gone
returns-in_err-pass_gone c = stopped _ _ _ _ _ c.from_residual.ensures.1 c.in_err-pass_gone.was c.pass_gone.ensures (first_here _ _)

pub returns-in-None : goal.returns-in-None
returns-in-None c = record { outcome = jump_lost _ _ _ _ _ _ c.in-None.is c.in_ok-pass_gone.ensures.outcome.0 }

pub returns : goal.returns
returns c = jumped _ _ _ c.in-Some.l _ _ _ _ _ _ c.in-Some.is c.side_of.ensures c.in_ok-pass_gone.ensures.outcome.1 c.in_ok-pass_gone.ensures.outcome.0 c.test_below.ensures
