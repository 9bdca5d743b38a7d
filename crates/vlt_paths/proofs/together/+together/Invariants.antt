use Rattle.std.proofs.Common.{[], length}
use Rattle.vlt_core.specs.Bodies.{flow_of_block}
use Rattle.vlt_core.specs.FaultView.{choices_of}
use Rattle.vlt_core.specs.Rows.{expr_rows}
use Rattle.vlt_core.specs.Instances.{instance}
use Rattle.vlt_core.specs.View.{program_of, func_of, expr_of, block_of}
use Rattle.vlt_paths.proofs.Pairing.{Following, Turning, BothTurning}
use Rattle.vlt_paths.proofs.together.+together.Given as goal

abbrev pub invariant-meet_loop-loop-here : goal.invariant-meet_loop-loop-here
invariant-meet_loop-loop-here l = BothTurning l.hunt l.at (expr_rows (program_of l.p) (instance (program_of l.p) (func_of l.f) l.hunt.origin) (expr_of l.cond)) (flow_of_block (program_of l.p) (instance (program_of l.p) (func_of l.f) l.hunt.origin) [] (block_of l.body)) l.fn.pair l.here

abbrev pub decreases-meet_loop-loop-here : goal.decreases-meet_loop-loop-here
decreases-meet_loop-loop-here l = length (choices_of l.here.first.rest.now)

abbrev pub invariant-meet_stmts-loop-s : goal.invariant-meet_stmts-loop-s
invariant-meet_stmts-loop-s l = Following (program_of l.p) (instance (program_of l.p) (func_of l.f) l.hunt.origin) l.hunt l.left l.stmts l.s-index l.fn.pair l.here

abbrev pub invariant-meet_turns-loop-here : goal.invariant-meet_turns-loop-here
invariant-meet_turns-loop-here l = Turning l.hunt l.at (expr_rows (program_of l.p) (instance (program_of l.p) (func_of l.f) l.hunt.origin) (expr_of l.cond)) (flow_of_block (program_of l.p) (instance (program_of l.p) (func_of l.f) l.hunt.origin) [] (block_of l.body)) l.fn.pair l.here

abbrev pub decreases-meet_turns-loop-here : goal.decreases-meet_turns-loop-here
decreases-meet_turns-loop-here l = length (choices_of l.here.second.rest.now)
