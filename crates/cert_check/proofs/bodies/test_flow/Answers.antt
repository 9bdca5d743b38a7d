use Rattle.cert_check.proofs.Causes.{not_true}
use Rattle.cert_check.specs.Bodies.{disordered, many_statements, lost_jump}
use Rattle.cert_check.proofs.Causes.{error_is}
use Rattle.cert_check.proofs.Deciding.{unless_before, unless_stopped, flow_below, small_flow}
use Rattle.cert_check.proofs.bodies.test_flow.Goals as goal

pub returns-then-not-are_ordered : goal.returns-then-not-are_ordered
returns-then-not-are_ordered c = record { outcome = disordered (λ o. not_true _ c.if-not-are_ordered.true (c.are_ordered.ensures.1 o)) }

pub returns-in_err-count : goal.returns-in_err-count
returns-in_err-count c = unless_before _ _ _ _ _ c.from_residual.ensures.1 (error_is _ _ _ _ c.in_err-count.was c.count.ensures) many_statements

pub returns-in_err-_end : goal.returns-in_err-_end
returns-in_err-_end c = unless_stopped _ _ _ _ _ c.from_residual-in_err-_end.ensures.1 c.in_err-_end.was c.test_block.ensures (flow_below _ _ _ (small_flow _ _ c.in_ok-count.ensures)) lost_jump

pub returns : goal.returns
returns c = record { outcome = (c.in_ok-_end.ensures.outcome.0, c.in_ok-count.ensures) }
