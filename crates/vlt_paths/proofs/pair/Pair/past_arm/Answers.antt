use Rattle.vlt_core.specs.Rows.{arm_rows}
use Rattle.vlt_core.specs.View.{program_of, func_of, vars_of}
use Rattle.vlt_paths.proofs.Pairing.{both_past}
use Rattle.vlt_paths.proofs.pair.Pair.past_arm.Goals as goal

pub returns : goal.returns
returns c = both_past c.args.hunt c.args.at (arm_rows (program_of c.args.p.now) (func_of c.args.f.now) c.args.v.0 c.args.case (vars_of c.args.vs.now)) c.args.self c.past_arm.result c.past_arm-2.result c.past_arm.ensures c.past_arm-2.ensures
