use Rattle.std.proofs.Common.{◌∙◌, refl, arith}
use Rattle.vlt_steps.specs.Writing.{Outside}
use Rattle.vlt_host_meaning.specs.OneCall.{body_does, world_inside, spent}
use Rattle.vlt_host.specs.Machine.Calling.{setup_for, func_in, args_in}
use Rattle.vlt_host.proofs.OfMachine.Begun.{some_world, shows_some, some_goal}
use Rattle.vlt_host.proofs.OfMachine.Making.{body_stopped, left_body, settled_made}
use Rattle.vlt_host.proofs.machine.calling.Calling.run_body.Goals as goal

pub begin-run-requires : goal.begin-run-requires
begin-run-requires g c = record { can = c.requires.can.begin; deep = c.requires.deep }

pub finish-ended-requires : goal.finish-ended-requires
finish-ended-requires g c = record {
  goal = some_goal c.args.self.now c.args.tables.start c.args.tables.held c.args.fuel.now c.args.supply.now c.requires.can.begin c.begin-run.result c.begin-run.ensures.begins;
}

pub settle-requires-clause-left : goal.settle-requires-clause-left
settle-requires-clause-left g c =
    let w = some_world c.args.self.now c.args.tables.start c.args.tables.held c.args.fuel.now c.args.supply.now c.requires.can.begin in
    let q = shows_some c.args.self.now c.args.tables.start c.args.tables.held c.args.fuel.now c.args.supply.now c.requires.can.begin in
    record {
      world = w;
      left =
          left_body c.args.self.now c.args.tables c.requires.can c.requires.deep c.args.fuel.now c.args.supply.now w (omega arith) q
          (record { written = g.K.Sink.written c.args.sink.now; faults = g.K.Sink.faults c.args.sink.now })
          (record { written = g.K.Sink.written c.finish-ended.new.sink; faults = g.K.Sink.faults c.finish-ended.new.sink })
          c.finish-ended.new.run (c.in-None.ensures.heap ∙ c.begin-run.ensures.heap)
          (c.in-None.ensures.comes (body_does (setup_for c.args.self.now) (func_in c.args.self.now) (args_in c.args.self.now) (spent w)) (world_inside (func_in c.args.self.now) (args_in c.args.self.now) (spent w)) (c.begin-run.ensures.begins w q));
    }

pub returns-in-Some : goal.returns-in-Some
returns-in-Some g c = λ w some q.
    let goes = body_does (setup_for c.args.self.now) (func_in c.args.self.now) (args_in c.args.self.now) (spent w) in
    let inside = world_inside (func_in c.args.self.now) (args_in c.args.self.now) (spent w) in
    body_stopped goes inside
    (record { written = g.K.Sink.written c.args.sink.now; faults = g.K.Sink.faults c.args.sink.now })
    (record { written = g.K.Sink.written c.finish-ended.new.sink; faults = g.K.Sink.faults c.finish-ended.new.sink })
    c.in-Some.stop c.finish-ended.new.run refl (c.in-Some.ensures.comes goes inside (c.begin-run.ensures.begins w q))

pub returns : goal.returns
returns g c = λ w some q.
    let goes = body_does (setup_for c.args.self.now) (func_in c.args.self.now) (args_in c.args.self.now) (spent w) in
    let inside = world_inside (func_in c.args.self.now) (args_in c.args.self.now) (spent w) in
    let before : Outside = record { written = g.K.Sink.written c.args.sink.now; faults = g.K.Sink.faults c.args.sink.now } in
    let mid : Outside = record { written = g.K.Sink.written c.finish-ended.new.sink; faults = g.K.Sink.faults c.finish-ended.new.sink } in
    let come = c.in-None.ensures.comes goes inside (c.begin-run.ensures.begins w q) in
    let heap = c.in-None.ensures.heap ∙ c.begin-run.ensures.heap in
    let h = left_body c.args.self.now c.args.tables c.requires.can c.requires.deep c.args.fuel.now c.args.supply.now w some q before mid c.finish-ended.new.run heap come in
    settled_made c.args.self.now c.args.tables c.requires.can c.requires.deep c.args.fuel.now c.args.supply.now w some q before mid c.finish-ended.new.run heap come
    (record { written = g.K.Sink.written c.settle.new.sink; faults = g.K.Sink.faults c.settle.new.sink }) c.settle.result (c.settle.ensures w h)
