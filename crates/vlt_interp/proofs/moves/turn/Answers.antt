use Rattle.std.proofs.Common.{ap, ◌∙◌}
use Rattle.vlt_interp.specs.declared.tasks.task.At.TheVariants.{Jumps}
use Rattle.vlt_interp.proofs.Turning.{goes_can, goes_turn, jumps_can, jumps_turn, jumps_out, leaves_loop}
use Rattle.vlt_interp.proofs.moves.turn.Goals as goal

pub turn_on-requires : goal.turn_on-requires
turn_on-requires c = record { can = goes_can c.args.rules.now c.args.run.now c.args.e c.args.body c.requires.can c.in-Goes.is }

pub turn_on-requires-then-continues : goal.turn_on-requires-then-continues
turn_on-requires-then-continues c = record { can = jumps_can c.args.rules.now c.args.run.now c.args.e c.args.body c.requires.can (c.in-Jumps.is ∙ ap Jumps c.if-continues.true) }

pub returns-in-Goes : goal.returns-in-Goes
returns-in-Goes c = λ b. goes_turn c.args.rules.now c.args.run.now c.args.e c.args.body c.requires.can c.in-Goes.is c.turn_on.new.run b c.turn_on.result (λ s. c.turn_on.ensures s b)

pub returns-then-continues : goal.returns-then-continues
returns-then-continues c = λ b. jumps_turn c.args.rules.now c.args.run.now c.args.e c.args.body c.requires.can (c.in-Jumps.is ∙ ap Jumps c.if-continues.true) c.turn_on-then-continues.new.run b c.turn_on-then-continues.result (λ s. c.turn_on-then-continues.ensures s b)

pub returns-else-continues : goal.returns-else-continues
returns-else-continues c = λ b. jumps_out c.args.rules.now c.args.run.now c.args.e c.args.body c.requires.can (c.in-Jumps.is ∙ ap Jumps c.if-continues.false) b

pub returns-in-Leaves : goal.returns-in-Leaves
returns-in-Leaves c = λ b. leaves_loop c.args.rules.now c.args.run.now c.args.e c.args.body c.requires.can c.in-Leaves.is b
