use Rattle.std.proofs.Common.{Some, None, refl, arith}
use Rattle.vlt_numbers.specs.HostAnswers.{lists_of}
use Rattle.vlt_core.specs.View.{func_of, program_of}
use Rattle.vlt_interp.specs.declared.tasks.task.At.TheVariants.{Goes as GoesOn}
use Rattle.vlt_interp.proofs.Beginning.{has_main, main_is, no_depth, start_room, first_goal, first_ended}
use Rattle.vlt_interp.proofs.run.run_program.Goals as goal

pub returns-then-depth-eq0 : goal.returns-then-depth-eq0
returns-then-depth-eq0 g c = no_depth c.args.program.now c.args.budgets c.args.input.now (lists_of c.args.answers.now) (record { written = g.K.Sink.written c.args.sink.now; faults = g.K.Sink.faults c.args.sink.now }) c.if-depth-eq0.true

pub unreachable-requires : goal.unreachable-requires
unreachable-requires g c = has_main (program_of c.args.program.now) c.requires.runnable (main_is c.args.program.now None c.in_default.ensures.value)

pub start-requires-clause-few : goal.start-requires-clause-few
start-requires-clause-few g c = (c.requires.runnable.own.all c.args.program.now.main.0 (func_of c.in-Some.main.now) (main_is c.args.program.now (Some c.in-Some.main.now) c.in-Some.ensures.value)).few

pub start-requires-clause-empty : goal.start-requires-clause-empty
start-requires-clause-empty g c = c.requires.set.no_values

pub start-requires-clause-room : goal.start-requires-clause-room
start-requires-clause-room g c = start_room c.args.budgets c.args.s c.args.input c.args.answers c.args.program c.requires.runnable c.requires.set (omega (arith, c.if-depth-eq0.false)) c.in-Some.main (main_is c.args.program.now (Some c.in-Some.main.now) c.in-Some.ensures.value)

pub put-requires : goal.put-requires
put-requires g c = record { room = omega (arith, c.requires.set.no_tasks, c.requires.set.tasks) }

pub finish-requires : goal.finish-requires
finish-requires g c = record { goal = first_goal c.args.budgets c.args.s c.args.input c.args.answers c.args.program c.requires.runnable c.requires.set (omega (arith, c.if-depth-eq0.false)) c.in-Some.main (main_is c.args.program.now (Some c.in-Some.main.now) c.in-Some.ensures.value) c.start.new.values (record { func = c.in-Some.main; tasks = c.put.new.items; at = GoesOn; depth = 1; fuel = c.args.budgets.fuel; values = c.start.new.values; heap = c.args.s.heap; host = record { input = c.args.input; answers = c.args.answers; taken = 0; line = c.args.s.line } }) c.as_slice.result c.start.ensures.width c.start.ensures.base c.start.ensures.running c.start.ensures.shows c.start.ensures.room c.put.ensures.items c.as_slice.ensures c.put.ensures.room refl }

pub returns : goal.returns
returns g c = first_ended c.args.budgets c.args.s c.args.input c.args.answers c.args.program c.requires.runnable c.requires.set (omega (arith, c.if-depth-eq0.false)) c.in-Some.main (main_is c.args.program.now (Some c.in-Some.main.now) c.in-Some.ensures.value) c.start.new.values (record { func = c.in-Some.main; tasks = c.put.new.items; at = GoesOn; depth = 1; fuel = c.args.budgets.fuel; values = c.start.new.values; heap = c.args.s.heap; host = record { input = c.args.input; answers = c.args.answers; taken = 0; line = c.args.s.line } }) c.as_slice.result c.start.ensures.width c.start.ensures.base c.start.ensures.running c.start.ensures.shows c.start.ensures.room c.put.ensures.items c.as_slice.ensures c.put.ensures.room refl (record { written = g.K.Sink.written c.args.sink.now; faults = g.K.Sink.faults c.args.sink.now }) (record { written = g.K.Sink.written c.finish.new.sink; faults = g.K.Sink.faults c.finish.new.sink }) c.finish.result c.or_done-stop.result c.finish.new.run c.or_done-stop.ensures c.finish.ensures.comes
