use Rattle.std.proofs.Common.{length}
use Rattle.vlt_interp.proofs.statements.blocks.+arm_of_case.Given as goal

abbrev pub decreases-arm_of_case : goal.decreases-arm_of_case
decreases-arm_of_case l = length l.arms.now
