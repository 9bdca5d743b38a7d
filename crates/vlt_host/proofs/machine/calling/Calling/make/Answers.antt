use Rattle.std.proofs.Common.{refl}
use Rattle.vlt_host.proofs.OfMachine.Begun.{of_program}
use Rattle.vlt_host.proofs.OfMachine.Making.{can_still, call_made, spent_now}
use Rattle.vlt_host.proofs.machine.calling.Calling.make.Goals as goal

pub announce-requires : goal.announce-requires
announce-requires g c = record {
  few = of_program c.args.self.now c.args.tables.start c.args.tables.held c.args.fuel.now c.args.supply.now c.requires.can.begin;
  line = c.requires.can.begin.room.line;
}

pub run_body-requires : goal.run_body-requires
run_body-requires g c = record {
  can = can_still c.args.self.now c.args.tables _ c.requires.can refl c.in-None.ensures.room;
  deep = c.in-None.ensures.announced.deep;
}

pub returns-in-Some : goal.returns-in-Some
returns-in-Some g c = λ w q. c.in-Some.ensures.announced w q.fuel

pub returns : goal.returns
returns g c = λ w q.
    call_made c.args.self.now w
    (record { written = g.K.Sink.written c.args.sink.now; faults = g.K.Sink.faults c.args.sink.now })
    (record { written = g.K.Sink.written c.announce.new.sink; faults = g.K.Sink.faults c.announce.new.sink })
    (record { written = g.K.Sink.written c.run_body.new.sink; faults = g.K.Sink.faults c.run_body.new.sink })
    c.args.fuel.now c.announce.new.fuel c.run_body.new.fuel c.run_body.new.supply c.run_body.result q.fuel c.in-None.ensures.announced
    (λ some. c.run_body.ensures w some (spent_now c.args.self.now c.args.tables.start.heap c.args.tables.held c.args.tables.start.values.width c.args.fuel.now c.announce.new.fuel c.args.supply.now w q c.in-None.ensures.announced.left_is))
