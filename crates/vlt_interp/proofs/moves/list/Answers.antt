use Rattle.std.proofs.lemmas.List.{nil_from_length}
use Rattle.vlt_interp.specs.declared.tasks.task.Task.TheVariants.{List as ListTask}
use Rattle.vlt_interp.proofs.Tasking.{few_tasks, list_ends, list_jumps, list_leaves}
use Rattle.vlt_interp.proofs.Turning.{list_can, list_acts}
use Rattle.vlt_interp.proofs.moves.list.Goals as goal

pub put-requires : goal.put-requires
put-requires g c = record { room = few_tasks c.args.rules.now c.args.run.now (ListTask c.args.stmts) c.requires.can }

pub act-requires : goal.act-requires
act-requires g c = record { can = list_can c.args.rules.now c.args.run.now (record c.args.run.now { tasks = c.put.new.items }) c.args.stmts c.in-Some.rest c.in-Some.first.now c.put.ensures.items c.put.ensures.room c.in-Some.ensures.cases.0 c.in-Goes.is c.requires.can }

pub returns-in-None : goal.returns-in-None
returns-in-None g c = list_ends c.args.rules.now c.args.run.now c.args.stmts (record { written = g.K.Sink.written c.args.sink.now; faults = g.K.Sink.faults c.args.sink.now }) (nil_from_length _ c.in-None.ensures.cases) c.requires.can

pub returns-in-Some : goal.returns-in-Some
returns-in-Some g c = list_acts c.args.rules.now c.args.run.now (record c.args.run.now { tasks = c.put.new.items }) c.args.stmts c.in-Some.rest c.in-Some.first.now c.put.ensures.items c.put.ensures.room c.in-Some.ensures.cases.0 c.in-Goes.is c.requires.can c.act.new.run (record { written = g.K.Sink.written c.args.sink.now; faults = g.K.Sink.faults c.args.sink.now }) (record { written = g.K.Sink.written c.act.new.sink; faults = g.K.Sink.faults c.act.new.sink }) c.act.result c.act.ensures

pub returns-in-Jumps : goal.returns-in-Jumps
returns-in-Jumps g c = list_jumps c.args.rules.now c.args.run.now c.args.stmts (record { written = g.K.Sink.written c.args.sink.now; faults = g.K.Sink.faults c.args.sink.now }) c.in-Jumps.continues c.in-Jumps.is c.requires.can

pub returns-in-Leaves : goal.returns-in-Leaves
returns-in-Leaves g c = list_leaves c.args.rules.now c.args.run.now c.args.stmts (record { written = g.K.Sink.written c.args.sink.now; faults = g.K.Sink.faults c.args.sink.now }) c.in-Leaves.is c.requires.can
