use Rattle.vlt_base.specs.States.{has_state}
use Rattle.vlt_faults.proofs.OfJudge.Parts.{unwanted_states}
use Rattle.vlt_faults.proofs.judge.telling.unwanted_in.Goals as goal

pub returns-in-In : goal.returns-in-In
returns-in-In c =
    let r = c.made-in-In in
    rw c.in-In.is (unwanted_states c.args.m r.result (has_state c.in-In.states) c.mask.result c.mask.ensures.states r.ensures.absent r.ensures.full r.ensures.held r.ensures.lent)
