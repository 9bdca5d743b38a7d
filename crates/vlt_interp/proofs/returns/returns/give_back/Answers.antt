use Rattle.std.specs.Option.{option_map}
use Rattle.std.proofs.Common.{Ok, Err, subst}
use Rattle.vlt_core.specs.View.{operand_of}
use Rattle.vlt_acts.specs.Frames.Left.{Gives}
use Rattle.vlt_interp.proofs.OfReturns.Giving.{given_table, given_room, left_does, trap_does}
use Rattle.vlt_interp.proofs.returns.returns.give_back.Goals as goal

pub give-requires-clause-sound : goal.give-requires-clause-sound
give-requires-clause-sound c = c.requires.can.can.ready.room.heap

pub give-requires-clause-table : goal.give-requires-clause-table
give-requires-clause-table c = given_table (option_map operand_of c.args.value.now) c.args.run.now c.requires.can

pub give-requires-clause-wide : goal.give-requires-clause-wide
give-requires-clause-wide c = c.requires.can.can.ready.room.wide.some

pub give-requires-clause-room : goal.give-requires-clause-room
give-requires-clause-room c = given_room (option_map operand_of c.args.value.now) c.args.run.now c.requires.can

pub returns-in-Ok : goal.returns-in-Ok
returns-in-Ok c = left_does (option_map operand_of c.args.value.now) c.args.run.now c.give.new.values c.requires.can c.give.ensures.grown c.give.ensures.long c.give.ensures.room (λ g like. subst (λ o. Gives g (option_map operand_of o) c.args.run.now.heap c.args.run.now.values c.give.new.values (Ok tt)) c.as_ref.ensures.value (c.in-Ok.ensures.gives g like))

pub returns-in-Err : goal.returns-in-Err
returns-in-Err c = trap_does (option_map operand_of c.args.value.now) c.args.run.now c.give.new.values c.requires.can c.give.ensures.grown c.give.ensures.long c.give.ensures.room c.in-Err.trap (λ g like. subst (λ o. Gives g (option_map operand_of o) c.args.run.now.heap c.args.run.now.values c.give.new.values (Err c.in-Err.trap)) c.as_ref.ensures.value (c.in-Err.ensures.gives g like))
