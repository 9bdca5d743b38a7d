use Rattle.vlt_core.specs.View.{func_of}
use Rattle.vlt_rows.specs.Pieces.{switch_rows}
use Rattle.vlt_paths.proofs.Pairing.{both_past}
use Rattle.vlt_paths.proofs.pair.Pair.past_switch.Goals as goal

pub returns : goal.returns
returns c = both_past c.args.hunt c.args.at (switch_rows (func_of c.args.f.now) c.args.v.0) c.args.self c.past_switch.result c.past_switch-2.result c.past_switch.ensures c.past_switch-2.ensures
