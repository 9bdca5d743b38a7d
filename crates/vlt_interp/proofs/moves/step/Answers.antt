use Rattle.std.proofs.Common.{[], ◌∷◌, ◌++◌, None, ap, ◌∙◌, refl, arith}
use Rattle.std.proofs.lemmas.List.{nil_from_length}
use Rattle.vlt_interp.specs.declared.tasks.task.Task.TheVariants.{List as ListTask, Closing as ClosingTask, Turn as TurnTask, Unfocus as UnfocusTask, Back as BackTask}
use Rattle.vlt_interp.proofs.Tasking.{closing_goes}
use Rattle.vlt_interp.proofs.Turning.{right_task, task_goes}
use Rattle.vlt_interp.proofs.Popping.{taken_can, taken_moves, none_left}
use Rattle.vlt_interp.proofs.moves.step.Goals as goal

pub list-requires : goal.list-requires
list-requires g c = record { can = (taken_can c.args.rules.now c.args.run.now (record c.args.run.now { tasks = c.pop.new.self }) (ListTask c.in-Some-List.stmts) (c.in-Some-List.ensures.items ∙ ap (λ t. c.pop.new.self.items ++ t ∷ []) c.in-Some-List.field-0-is) (omega (arith, c.pop.ensures.capacity)) c.requires.can) }

pub turn-requires : goal.turn-requires
turn-requires g c = record { can = (taken_can c.args.rules.now c.args.run.now (record c.args.run.now { tasks = c.pop.new.self }) (TurnTask c.in-Some-Turn.e c.in-Some-Turn.body) (c.in-Some-Turn.ensures.items ∙ ap (λ t. c.pop.new.self.items ++ t ∷ []) c.in-Some-Turn.field-0-is) (omega (arith, c.pop.ensures.capacity)) c.requires.can) }

pub unfocus-requires-clause-sound : goal.unfocus-requires-clause-sound
unfocus-requires-clause-sound g c = c.requires.can.room.heap

pub unfocus-requires-clause-right : goal.unfocus-requires-clause-right
unfocus-requires-clause-right g c = right_task c.args.rules.now (record c.args.run.now { tasks = c.pop.new.self }) (UnfocusTask c.in-Some-Unfocus.focus) (taken_can c.args.rules.now c.args.run.now (record c.args.run.now { tasks = c.pop.new.self }) (UnfocusTask c.in-Some-Unfocus.focus) (c.in-Some-Unfocus.ensures.items ∙ ap (λ t. c.pop.new.self.items ++ t ∷ []) c.in-Some-Unfocus.field-0-is) (omega (arith, c.pop.ensures.capacity)) c.requires.can)

pub back-requires : goal.back-requires
back-requires g c = record { can = (taken_can c.args.rules.now c.args.run.now (record c.args.run.now { tasks = c.pop.new.self }) (BackTask c.in-Some-Back.waiting) (c.in-Some-Back.ensures.items ∙ ap (λ t. c.pop.new.self.items ++ t ∷ []) c.in-Some-Back.field-0-is) (omega (arith, c.pop.ensures.capacity)) c.requires.can) }

pub returns-in-None : goal.returns-in-None
returns-in-None g c = none_left c.args.rules.now c.args.run.now (record c.args.run.now { tasks = c.pop.new.self }) (record { written = g.K.Sink.written c.args.sink.now; faults = g.K.Sink.faults c.args.sink.now }) (nil_from_length c.args.run.now.tasks.items (omega (arith, c.in-None.ensures.cases.0, c.args.run.now.tasks.ok.0))) refl

pub returns-in-Some-List : goal.returns-in-Some-List
returns-in-Some-List g c = taken_moves c.args.rules.now c.args.run.now (record c.args.run.now { tasks = c.pop.new.self }) (ListTask c.in-Some-List.stmts) (c.in-Some-List.ensures.items ∙ ap (λ t. c.pop.new.self.items ++ t ∷ []) c.in-Some-List.field-0-is) (omega (arith, c.pop.ensures.capacity)) c.requires.can c.list.new.run (record { written = g.K.Sink.written c.args.sink.now; faults = g.K.Sink.faults c.args.sink.now }) (record { written = g.K.Sink.written c.list.new.sink; faults = g.K.Sink.faults c.list.new.sink }) c.list.result
    (c.list.ensures)

pub returns-in-Some-Closing : goal.returns-in-Some-Closing
returns-in-Some-Closing g c = taken_moves c.args.rules.now c.args.run.now (record c.args.run.now { tasks = c.pop.new.self }) ClosingTask (c.in-Some-Closing.ensures.items ∙ ap (λ t. c.pop.new.self.items ++ t ∷ []) c.in-Some-Closing.field-0-is) (omega (arith, c.pop.ensures.capacity)) c.requires.can (record c.args.run.now { tasks = c.pop.new.self }) (record { written = g.K.Sink.written c.args.sink.now; faults = g.K.Sink.faults c.args.sink.now }) (record { written = g.K.Sink.written c.args.sink.now; faults = g.K.Sink.faults c.args.sink.now }) None
    (closing_goes c.args.rules.now (record c.args.run.now { tasks = c.pop.new.self }) (record { written = g.K.Sink.written c.args.sink.now; faults = g.K.Sink.faults c.args.sink.now }) (taken_can c.args.rules.now c.args.run.now (record c.args.run.now { tasks = c.pop.new.self }) ClosingTask (c.in-Some-Closing.ensures.items ∙ ap (λ t. c.pop.new.self.items ++ t ∷ []) c.in-Some-Closing.field-0-is) (omega (arith, c.pop.ensures.capacity)) c.requires.can))

pub returns-in-Some-Turn : goal.returns-in-Some-Turn
returns-in-Some-Turn g c = taken_moves c.args.rules.now c.args.run.now (record c.args.run.now { tasks = c.pop.new.self }) (TurnTask c.in-Some-Turn.e c.in-Some-Turn.body) (c.in-Some-Turn.ensures.items ∙ ap (λ t. c.pop.new.self.items ++ t ∷ []) c.in-Some-Turn.field-0-is) (omega (arith, c.pop.ensures.capacity)) c.requires.can c.turn.new.run (record { written = g.K.Sink.written c.args.sink.now; faults = g.K.Sink.faults c.args.sink.now }) (record { written = g.K.Sink.written c.args.sink.now; faults = g.K.Sink.faults c.args.sink.now }) c.turn.result
    (c.turn.ensures (record { written = g.K.Sink.written c.args.sink.now; faults = g.K.Sink.faults c.args.sink.now }))

pub returns-in-Some-Unfocus : goal.returns-in-Some-Unfocus
returns-in-Some-Unfocus g c = taken_moves c.args.rules.now c.args.run.now (record c.args.run.now { tasks = c.pop.new.self }) (UnfocusTask c.in-Some-Unfocus.focus) (c.in-Some-Unfocus.ensures.items ∙ ap (λ t. c.pop.new.self.items ++ t ∷ []) c.in-Some-Unfocus.field-0-is) (omega (arith, c.pop.ensures.capacity)) c.requires.can c.unfocus.new.run (record { written = g.K.Sink.written c.args.sink.now; faults = g.K.Sink.faults c.args.sink.now }) (record { written = g.K.Sink.written c.args.sink.now; faults = g.K.Sink.faults c.args.sink.now }) None
    (task_goes c.args.rules.now (record c.args.run.now { tasks = c.pop.new.self }) c.unfocus.new.run (UnfocusTask c.in-Some-Unfocus.focus) (record { written = g.K.Sink.written c.args.sink.now; faults = g.K.Sink.faults c.args.sink.now }) (record { written = g.K.Sink.written c.args.sink.now; faults = g.K.Sink.faults c.args.sink.now }) None (λ s. c.unfocus.ensures s (record { written = g.K.Sink.written c.args.sink.now; faults = g.K.Sink.faults c.args.sink.now })))

pub returns-in-Some-Back : goal.returns-in-Some-Back
returns-in-Some-Back g c = taken_moves c.args.rules.now c.args.run.now (record c.args.run.now { tasks = c.pop.new.self }) (BackTask c.in-Some-Back.waiting) (c.in-Some-Back.ensures.items ∙ ap (λ t. c.pop.new.self.items ++ t ∷ []) c.in-Some-Back.field-0-is) (omega (arith, c.pop.ensures.capacity)) c.requires.can c.back.new.run (record { written = g.K.Sink.written c.args.sink.now; faults = g.K.Sink.faults c.args.sink.now }) (record { written = g.K.Sink.written c.args.sink.now; faults = g.K.Sink.faults c.args.sink.now }) None
    (c.back.ensures (record { written = g.K.Sink.written c.args.sink.now; faults = g.K.Sink.faults c.args.sink.now }))
