use Rattle.vlt_base.specs.States.{has_state}
use Rattle.vlt_faults.proofs.OfJudge.Parts.{stands_absent, stands_full, stands_held, state_in}
use Rattle.vlt_faults.proofs.judge.telling.status_in.Goals as goal

pub returns-then-m : goal.returns-then-m
returns-then-m c = λ x k. stands_absent c.args.m c.if-m.true k

pub returns-then-m-2 : goal.returns-then-m-2
returns-then-m-2 c = λ x k. stands_full c.args.m c.if-m-2.true k

pub returns-in-Some : goal.returns-in-Some
returns-in-Some c = λ x k. stands_held c.args.m (has_state c.in-Some.states) c.in-Some.ensures.states (state_in c.in-Some.states c.args.m.held c.in-Some.ensures.states) k
