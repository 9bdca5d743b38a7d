use Rattle.std.proofs.Common.{map, subst, sym}
use Rattle.c_syntax.specs.View.{arg_of}
use Rattle.c_meaning.specs.Primitives.{primitive_does}
use Rattle.c_primitives.specs.Shown.{Does, HasRoomFor}
use Rattle.c_primitives.proofs.world.World.primitive.Goals as goal

pub returns-in-New : goal.returns-in-New
returns-in-New g c = subst (λ p. Does c.args.self.now c.make.new.self c.args.vars (record { written = g.K.Sink.written c.args.sink.now; faults = g.K.Sink.faults c.args.sink.now }) (record { written = g.K.Sink.written c.args.sink.now; faults = g.K.Sink.faults c.args.sink.now }) c.make.result (primitive_does c.args.self.now.heap p (map arg_of c.args.args.now))) (sym c.in-New.is) (c.make.ensures (record { written = g.K.Sink.written c.args.sink.now; faults = g.K.Sink.faults c.args.sink.now }))

pub returns-in-Own : goal.returns-in-Own
returns-in-Own g c = subst (λ p. Does c.args.self.now c.own.new.self c.args.vars (record { written = g.K.Sink.written c.args.sink.now; faults = g.K.Sink.faults c.args.sink.now }) (record { written = g.K.Sink.written c.args.sink.now; faults = g.K.Sink.faults c.args.sink.now }) c.own.result (primitive_does c.args.self.now.heap p (map arg_of c.args.args.now))) (sym c.in-Own.is) (c.own.ensures (record { written = g.K.Sink.written c.args.sink.now; faults = g.K.Sink.faults c.args.sink.now }))

pub returns-in-Disown : goal.returns-in-Disown
returns-in-Disown g c = subst (λ p. Does c.args.self.now c.disown.new.self c.args.vars (record { written = g.K.Sink.written c.args.sink.now; faults = g.K.Sink.faults c.args.sink.now }) (record { written = g.K.Sink.written c.args.sink.now; faults = g.K.Sink.faults c.args.sink.now }) c.disown.result (primitive_does c.args.self.now.heap p (map arg_of c.args.args.now))) (sym c.in-Disown.is) (c.disown.ensures (record { written = g.K.Sink.written c.args.sink.now; faults = g.K.Sink.faults c.args.sink.now }))

pub returns-in-Parent : goal.returns-in-Parent
returns-in-Parent g c = subst (λ p. Does c.args.self.now c.parent.new.self c.args.vars (record { written = g.K.Sink.written c.args.sink.now; faults = g.K.Sink.faults c.args.sink.now }) (record { written = g.K.Sink.written c.args.sink.now; faults = g.K.Sink.faults c.args.sink.now }) c.parent.result (primitive_does c.args.self.now.heap p (map arg_of c.args.args.now))) (sym c.in-Parent.is) (c.parent.ensures (record { written = g.K.Sink.written c.args.sink.now; faults = g.K.Sink.faults c.args.sink.now }))

pub returns-in-Release : goal.returns-in-Release
returns-in-Release g c = subst (λ p. Does c.args.self.now c.release.new.self c.args.vars (record { written = g.K.Sink.written c.args.sink.now; faults = g.K.Sink.faults c.args.sink.now }) (record { written = g.K.Sink.written c.args.sink.now; faults = g.K.Sink.faults c.args.sink.now }) c.release.result (primitive_does c.args.self.now.heap p (map arg_of c.args.args.now))) (sym c.in-Release.is) (c.release.ensures (record { written = g.K.Sink.written c.args.sink.now; faults = g.K.Sink.faults c.args.sink.now }))

pub returns-in-Trap : goal.returns-in-Trap
returns-in-Trap g c = subst (λ p. Does c.args.self.now c.trap.new.self c.args.vars (record { written = g.K.Sink.written c.args.sink.now; faults = g.K.Sink.faults c.args.sink.now }) (record { written = g.K.Sink.written c.args.sink.now; faults = g.K.Sink.faults c.args.sink.now }) c.trap.result (primitive_does c.args.self.now.heap p (map arg_of c.args.args.now))) (sym c.in-Trap.is) (c.trap.ensures (record { written = g.K.Sink.written c.args.sink.now; faults = g.K.Sink.faults c.args.sink.now }))

pub returns-in-Read : goal.returns-in-Read
returns-in-Read g c = subst (λ p. Does c.args.self.now c.read.new.self c.args.vars (record { written = g.K.Sink.written c.args.sink.now; faults = g.K.Sink.faults c.args.sink.now }) (record { written = g.K.Sink.written c.args.sink.now; faults = g.K.Sink.faults c.args.sink.now }) c.read.result (primitive_does c.args.self.now.heap p (map arg_of c.args.args.now))) (sym c.in-Read.is) (c.read.ensures (record { written = g.K.Sink.written c.args.sink.now; faults = g.K.Sink.faults c.args.sink.now }))

pub returns-in-More : goal.returns-in-More
returns-in-More g c = subst (λ p. Does c.args.self.now c.more.new.self c.args.vars (record { written = g.K.Sink.written c.args.sink.now; faults = g.K.Sink.faults c.args.sink.now }) (record { written = g.K.Sink.written c.args.sink.now; faults = g.K.Sink.faults c.args.sink.now }) c.more.result (primitive_does c.args.self.now.heap p (map arg_of c.args.args.now))) (sym c.in-More.is) (c.more.ensures (record { written = g.K.Sink.written c.args.sink.now; faults = g.K.Sink.faults c.args.sink.now }))

pub returns-in-PutN : goal.returns-in-PutN
returns-in-PutN g c = subst (λ p. Does c.args.self.now c.put_number.new.self c.args.vars (record { written = g.K.Sink.written c.args.sink.now; faults = g.K.Sink.faults c.args.sink.now }) (record { written = g.K.Sink.written c.args.sink.now; faults = g.K.Sink.faults c.args.sink.now }) c.put_number.result (primitive_does c.args.self.now.heap p (map arg_of c.args.args.now))) (sym c.in-PutN.is) (c.put_number.ensures (record { written = g.K.Sink.written c.args.sink.now; faults = g.K.Sink.faults c.args.sink.now }))

pub returns-in-GetN : goal.returns-in-GetN
returns-in-GetN g c = subst (λ p. Does c.args.self.now c.get_number.new.self c.args.vars (record { written = g.K.Sink.written c.args.sink.now; faults = g.K.Sink.faults c.args.sink.now }) (record { written = g.K.Sink.written c.args.sink.now; faults = g.K.Sink.faults c.args.sink.now }) c.get_number.result (primitive_does c.args.self.now.heap p (map arg_of c.args.args.now))) (sym c.in-GetN.is) (c.get_number.ensures (record { written = g.K.Sink.written c.args.sink.now; faults = g.K.Sink.faults c.args.sink.now }))

pub returns-in-PutP : goal.returns-in-PutP
returns-in-PutP g c = subst (λ p. Does c.args.self.now c.put_reference.new.self c.args.vars (record { written = g.K.Sink.written c.args.sink.now; faults = g.K.Sink.faults c.args.sink.now }) (record { written = g.K.Sink.written c.args.sink.now; faults = g.K.Sink.faults c.args.sink.now }) c.put_reference.result (primitive_does c.args.self.now.heap p (map arg_of c.args.args.now))) (sym c.in-PutP.is) (c.put_reference.ensures (record { written = g.K.Sink.written c.args.sink.now; faults = g.K.Sink.faults c.args.sink.now }))

pub returns-in-GetP : goal.returns-in-GetP
returns-in-GetP g c = subst (λ p. Does c.args.self.now c.get_reference.new.self c.args.vars (record { written = g.K.Sink.written c.args.sink.now; faults = g.K.Sink.faults c.args.sink.now }) (record { written = g.K.Sink.written c.args.sink.now; faults = g.K.Sink.faults c.args.sink.now }) c.get_reference.result (primitive_does c.args.self.now.heap p (map arg_of c.args.args.now))) (sym c.in-GetP.is) (c.get_reference.ensures (record { written = g.K.Sink.written c.args.sink.now; faults = g.K.Sink.faults c.args.sink.now }))

pub returns-in-Call : goal.returns-in-Call
returns-in-Call g c = subst (λ p. Does c.args.self.now c.call.new.self c.args.vars (record { written = g.K.Sink.written c.args.sink.now; faults = g.K.Sink.faults c.args.sink.now }) (record { written = g.K.Sink.written c.args.sink.now; faults = g.K.Sink.faults c.args.sink.now }) c.call.result (primitive_does c.args.self.now.heap p (map arg_of c.args.args.now))) (sym c.in-Call.is) (c.call.ensures (record { written = g.K.Sink.written c.args.sink.now; faults = g.K.Sink.faults c.args.sink.now }))

pub returns-in-ArgN : goal.returns-in-ArgN
returns-in-ArgN g c = subst (λ p. Does c.args.self.now c.tell.new.self c.args.vars (record { written = g.K.Sink.written c.args.sink.now; faults = g.K.Sink.faults c.args.sink.now }) (record { written = g.K.Sink.written c.args.sink.now; faults = g.K.Sink.faults c.args.sink.now }) c.tell.result (primitive_does c.args.self.now.heap p (map arg_of c.args.args.now))) (sym c.in-ArgN.is) (c.tell.ensures (record { written = g.K.Sink.written c.args.sink.now; faults = g.K.Sink.faults c.args.sink.now }))

pub returns-in-ArgP : goal.returns-in-ArgP
returns-in-ArgP g c = subst (λ p. Does c.args.self.now c.tell_reference.new.self c.args.vars (record { written = g.K.Sink.written c.args.sink.now; faults = g.K.Sink.faults c.args.sink.now }) (record { written = g.K.Sink.written c.args.sink.now; faults = g.K.Sink.faults c.args.sink.now }) c.tell_reference.result (primitive_does c.args.self.now.heap p (map arg_of c.args.args.now))) (sym c.in-ArgP.is) (c.tell_reference.ensures (record { written = g.K.Sink.written c.args.sink.now; faults = g.K.Sink.faults c.args.sink.now }))

pub returns-in-Int : goal.returns-in-Int
returns-in-Int g c = subst (λ p. Does c.args.self.now c.int.new.self c.args.vars (record { written = g.K.Sink.written c.args.sink.now; faults = g.K.Sink.faults c.args.sink.now }) (record { written = g.K.Sink.written c.args.sink.now; faults = g.K.Sink.faults c.args.sink.now }) c.int.result (primitive_does c.args.self.now.heap p (map arg_of c.args.args.now))) (sym c.in-Int.is) (c.int.ensures (record { written = g.K.Sink.written c.args.sink.now; faults = g.K.Sink.faults c.args.sink.now }))

pub returns-in-Pick : goal.returns-in-Pick
returns-in-Pick g c = subst (λ p. Does c.args.self.now c.pick.new.self c.args.vars (record { written = g.K.Sink.written c.args.sink.now; faults = g.K.Sink.faults c.args.sink.now }) (record { written = g.K.Sink.written c.args.sink.now; faults = g.K.Sink.faults c.args.sink.now }) c.pick.result (primitive_does c.args.self.now.heap p (map arg_of c.args.args.now))) (sym c.in-Pick.is) (c.pick.ensures (record { written = g.K.Sink.written c.args.sink.now; faults = g.K.Sink.faults c.args.sink.now }))

pub returns-in-Out : goal.returns-in-Out
returns-in-Out g c = subst (λ p. Does c.args.self.now c.send_out.new.self c.args.vars (record { written = g.K.Sink.written c.args.sink.now; faults = g.K.Sink.faults c.args.sink.now }) (record { written = g.K.Sink.written c.args.sink.now; faults = g.K.Sink.faults c.args.sink.now }) c.send_out.result (primitive_does c.args.self.now.heap p (map arg_of c.args.args.now))) (sym c.in-Out.is) (c.send_out.ensures (record { written = g.K.Sink.written c.args.sink.now; faults = g.K.Sink.faults c.args.sink.now }))

pub returns-in-Back : goal.returns-in-Back
returns-in-Back g c = subst (λ p. Does c.args.self.now c.back.new.self c.args.vars (record { written = g.K.Sink.written c.args.sink.now; faults = g.K.Sink.faults c.args.sink.now }) (record { written = g.K.Sink.written c.args.sink.now; faults = g.K.Sink.faults c.args.sink.now }) c.back.result (primitive_does c.args.self.now.heap p (map arg_of c.args.args.now))) (sym c.in-Back.is) (c.back.ensures (record { written = g.K.Sink.written c.args.sink.now; faults = g.K.Sink.faults c.args.sink.now }))

pub returns-in-End : goal.returns-in-End
returns-in-End g c = subst (λ p. Does c.args.self.now c.end.new.self c.args.vars (record { written = g.K.Sink.written c.args.sink.now; faults = g.K.Sink.faults c.args.sink.now }) (record { written = g.K.Sink.written c.args.sink.now; faults = g.K.Sink.faults c.args.sink.now }) c.end.result (primitive_does c.args.self.now.heap p (map arg_of c.args.args.now))) (sym c.in-End.is) (c.end.ensures (record { written = g.K.Sink.written c.args.sink.now; faults = g.K.Sink.faults c.args.sink.now }))

pub returns-in-Print : goal.returns-in-Print
returns-in-Print g c = subst (λ p. Does c.args.self.now c.print.new.self c.args.vars (record { written = g.K.Sink.written c.args.sink.now; faults = g.K.Sink.faults c.args.sink.now }) (record { written = g.K.Sink.written c.print.new.sink; faults = g.K.Sink.faults c.print.new.sink }) c.print.result (primitive_does c.args.self.now.heap p (map arg_of c.args.args.now))) (sym c.in-Print.is) c.print.ensures

pub returns-in-Ask : goal.returns-in-Ask
returns-in-Ask g c = subst (λ p. Does c.args.self.now c.ask.new.self c.args.vars (record { written = g.K.Sink.written c.args.sink.now; faults = g.K.Sink.faults c.args.sink.now }) (record { written = g.K.Sink.written c.ask.new.sink; faults = g.K.Sink.faults c.ask.new.sink }) c.ask.result (primitive_does c.args.self.now.heap p (map arg_of c.args.args.now))) (sym c.in-Ask.is) c.ask.ensures

pub make-requires : goal.make-requires
make-requires g c = record { ready = c.requires.ready; room = subst (λ p. HasRoomFor c.args.self.now p (map arg_of c.args.args.now)) c.in-New.is c.requires.room }

pub call-requires : goal.call-requires
call-requires g c = record { ready = c.requires.ready; room = subst (λ p. HasRoomFor c.args.self.now p (map arg_of c.args.args.now)) c.in-Call.is c.requires.room }
