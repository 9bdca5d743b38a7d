use Rattle.vlt_interp.specs.declared.tasks.task.Task.TheVariants.{Back as BackTask}
use Rattle.std.proofs.Common.{None}
use Rattle.vlt_interp.proofs.Turning.{back_not_goes, back_not_jumps, right_task, task_goes}
use Rattle.vlt_interp.proofs.moves.back.Goals as goal

pub go_back-requires-clause-sound : goal.go_back-requires-clause-sound
go_back-requires-clause-sound c = c.requires.can.room.heap

pub go_back-requires-clause-right : goal.go_back-requires-clause-right
go_back-requires-clause-right c = right_task c.args.rules.now c.args.run.now (BackTask c.args.waiting) c.requires.can

pub unreachable-requires : goal.unreachable-requires
unreachable-requires c = back_not_goes c.args.rules.now c.args.run.now c.args.waiting c.requires.can c.in-Goes.is

pub unreachable-requires-in-Jumps : goal.unreachable-requires-in-Jumps
unreachable-requires-in-Jumps c = back_not_jumps c.args.rules.now c.args.run.now c.args.waiting c.requires.can c.in-Jumps.continues c.in-Jumps.is

pub returns : goal.returns
returns c = λ b. task_goes c.args.rules.now c.args.run.now c.go_back.new.run (BackTask c.args.waiting) b b None (λ s. c.go_back.ensures s b)
