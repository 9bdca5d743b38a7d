use Rattle.vlt_interp.proofs.OfReturns.Leaving.{left_table, left_below, back_does}
use Rattle.vlt_interp.proofs.returns.returns.go_back.Goals as goal

pub leave-requires-clause-table : goal.leave-requires-clause-table
leave-requires-clause-table c = left_table c.args.run.now c.args.waiting c.requires.right

pub leave-requires-clause-below : goal.leave-requires-clause-below
leave-requires-clause-below c = left_below c.args.run.now c.args.waiting c.requires.right

pub returns : goal.returns
returns c = back_does c.args.run.now c.args.waiting c.leave.new.values c.requires.sound c.leave.ensures.base c.leave.ensures.width c.leave.ensures.room c.leave.ensures.running c.leave.ensures.same c.leave.ensures.returns
