use Rattle.vlt_paths.proofs.Sets.{met}
use Rattle.vlt_paths.proofs.numbers.Numbers.meet.Goals as goal

pub returns : goal.returns
returns c i = met c.args.self c.args.o c.max.result c.min.result c.max.ensures c.min.ensures i
