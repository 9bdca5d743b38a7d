use Rattle.vlt_core.specs.View.{func_of}
use Rattle.vlt_core.specs.Rows.{in_order}
use Rattle.vlt_paths.proofs.Choosing.{jump_goes}
use Rattle.vlt_paths.proofs.along.go_jump.Goals as goal

pub returns : goal.returns
returns c ts l = rw c.jump_out.ensures (jump_goes c.args.hunt c.args.continues (in_order (func_of c.args.f.now) ts) c.args.at c.args.point c.past_left.result (c.past_left.ensures ts l))
