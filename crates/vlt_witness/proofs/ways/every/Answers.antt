use Rattle.std.proofs.Common.{arith}
use Rattle.vlt_witness.specs.Ways.{On}
use Rattle.vlt_witness.proofs.Steps.{filled_first, filled_more, filled_all}
use Rattle.vlt_witness.proofs.ways.every.Goals as goal

pub loop-state-init : goal.loop-state-init
loop-state-init c =
    filled_first (On c.new-list.result) (On c.add_single.new.list) (On c.add_single-2.new.list) (rw c.new-list.ensures (λ f q cs a. a)) c.in_ok-add_single.ensures c.in_ok-add_single-2.ensures

pub loop-state-preserved : goal.loop-state-preserved
loop-state-preserved c =
    filled_more (On c.loop-state.list) (On c.add_single-in-loop-state.new.list) (On c.add_single-in-loop-state-2.new.list) c.loop-state.state c.in_ok-add_single-3.ensures c.in_ok-add_single-4.ensures c.loop-state.invariant

pub returns-clause-all : goal.returns-clause-all
returns-clause-all c = filled_all (On c.loop-state.list) c.loop-state.state (omega arith) c.loop-state.invariant
