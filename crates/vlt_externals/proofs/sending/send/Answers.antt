use Rattle.vlt_externals.proofs.Going.{go_live, go_root, go_here, goes_out}
use Rattle.vlt_externals.proofs.sending.send.Goals as goal

pub send_out-requires-clause-live : goal.send_out-requires-clause-live
send_out-requires-clause-live c = go_live c.args.heap.now c.args.o c.requires.can

pub send_out-requires-clause-root : goal.send_out-requires-clause-root
send_out-requires-clause-root c = go_root c.args.heap.now c.args.o c.requires.can

pub send_out-requires-clause-here : goal.send_out-requires-clause-here
send_out-requires-clause-here c = go_here c.args.heap.now c.args.o c.requires.can

pub returns-clause-goes : goal.returns-clause-goes
returns-clause-goes c = goes_out c.args.heap.now _ c.args.o c.send_out.ensures.items
