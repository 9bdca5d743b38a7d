use Rattle.vlt_paths.proofs.Sets.{of_below}
use Rattle.vlt_paths.proofs.numbers.Numbers.below.Goals as goal

pub returns : goal.returns
returns c = of_below c.low_mask.result c.args.n c.low_mask.ensures.small c.low_mask.ensures.low
