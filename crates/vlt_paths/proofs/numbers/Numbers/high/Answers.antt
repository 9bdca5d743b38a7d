use Rattle.vlt_paths.proofs.Sets.{of_one}
use Rattle.vlt_paths.proofs.numbers.Numbers.high.Goals as goal

pub returns : goal.returns
returns c = of_one c.args.s
