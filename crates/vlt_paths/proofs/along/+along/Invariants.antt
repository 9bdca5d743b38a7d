use Rattle.std.proofs.Common.{[], length}
use Rattle.vlt_core.specs.Bodies.{flow_of_block}
use Rattle.vlt_core.specs.FaultView.{choices_of}
use Rattle.vlt_core.specs.Rows.{expr_rows}
use Rattle.vlt_core.specs.Instances.{instance}
use Rattle.vlt_core.specs.View.{program_of, func_of, expr_of, block_of}
use Rattle.vlt_paths.proofs.Walking.{Listing, Looping}
use Rattle.vlt_paths.proofs.along.+along.Given as goal

abbrev pub invariant-go_stmts-loop-s : goal.invariant-go_stmts-loop-s
invariant-go_stmts-loop-s l = Listing (program_of l.p) (instance (program_of l.p) (func_of l.f) l.hunt.origin) l.hunt l.left l.stmts l.s-index l.fn.point l.here

abbrev pub invariant-go_while-loop-head : goal.invariant-go_while-loop-head
invariant-go_while-loop-head l = Looping (program_of l.p) (instance (program_of l.p) (func_of l.f) l.hunt.origin) l.hunt (expr_rows (program_of l.p) (instance (program_of l.p) (func_of l.f) l.hunt.origin) (expr_of l.cond)) (flow_of_block (program_of l.p) (instance (program_of l.p) (func_of l.f) l.hunt.origin) [] (block_of l.body)) l.at l.fn.point l.head

abbrev pub decreases-go_while-loop-head : goal.decreases-go_while-loop-head
decreases-go_while-loop-head l = length (choices_of l.head.rest.now)
