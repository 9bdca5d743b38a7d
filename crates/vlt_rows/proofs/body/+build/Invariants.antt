use Rattle.vlt_rows.specs.Instances.{program_in, func_in}
use Rattle.vlt_core.specs.HeldView.{toks_of}
use Rattle.vlt_rows.proofs.Building.{Building, BuildingArms}
use Rattle.vlt_rows.proofs.body.+build.Given as goal

abbrev pub invariant-flow_stmts-loop-s : goal.invariant-flow_stmts-loop-s
invariant-flow_stmts-loop-s l = Building (program_in l.i) (func_in l.i) (toks_of l.left) l.stmts l.s-index l.list

abbrev pub invariant-flow_arms-loop-arm : goal.invariant-flow_arms-loop-arm
invariant-flow_arms-loop-arm l = BuildingArms (program_in l.i) (func_in l.i) (toks_of l.left) l.v.0 l.arms l.arm-index l.list
