use Rattle.vlt_core.specs.View.{program_of, func_of}
use Rattle.vlt_rows.specs.Pieces.{focus_rows}
use Rattle.vlt_paths.proofs.Pairing.{both_past}
use Rattle.vlt_paths.proofs.pair.Pair.past_focus.Goals as goal

pub returns : goal.returns
returns c = both_past c.args.hunt c.args.at (focus_rows (program_of c.args.p.now) (func_of c.args.f.now) c.args.y.0 c.args.z.0) c.args.self c.past_focus.result c.past_focus-2.result c.past_focus.ensures c.past_focus-2.ensures
