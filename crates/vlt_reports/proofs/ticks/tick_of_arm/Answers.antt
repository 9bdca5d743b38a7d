use Rattle.std.proofs.Common.{arith}
use Rattle.vlt_reports.proofs.Cases.{arm_there, arm_past}
use Rattle.vlt_reports.proofs.ticks.tick_of_arm.Goals as goal

pub returns-then-position-arms : goal.returns-then-position-arms
returns-then-position-arms c = arm_there c.args.v.0 c.args.arms.now c.args.position c.index-arms-position.result (omega arith)

pub returns-else-position-arms : goal.returns-else-position-arms
returns-else-position-arms c = arm_past c.args.v.0 c.args.arms.now c.args.position (omega arith)
