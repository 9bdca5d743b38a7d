use Rattle.std.proofs.Common.{map}
use Rattle.std.specs.Option.{option_map}
use Rattle.vlt_core.specs.Maps.{away_row}
use Rattle.vlt_core.specs.Rows.{tokens_of}
use Rattle.vlt_core.specs.Instances.{instance}
use Rattle.vlt_core.specs.View.{program_of, func_of, operand_of}
use Rattle.vlt_rows.specs.Pieces.{handed_back_rows}
use Rattle.vlt_paths.proofs.Taking.{both_past}
use Rattle.vlt_paths.proofs.passing.past_return.Goals as goal

pub returns : goal.returns
returns c =
    both_past c.args.hunt c.args.at (handed_back_rows (program_of c.args.p.now) (instance (program_of c.args.p.now) (func_of c.args.f.now) c.args.hunt.origin) (option_map operand_of c.args.value.now)) (map away_row (tokens_of (instance (program_of c.args.p.now) (func_of c.args.f.now) c.args.hunt.origin))) c.args.point c.past_handed_back-following.result c.past_own.result
    c.past_handed_back-following.ensures c.past_own.ensures
