use Rattle.std.proofs.Common.{arith}
use Rattle.vlt_paths.proofs.Sets.{many_low}
use Rattle.vlt_paths.proofs.numbers.low_mask.Goals as goal

pub returns-else-n-le32 : goal.returns-else-n-le32
returns-else-n-le32 c = record { small = omega arith; low = λ i less. many_low c.args.n i (omega (arith, c.if-n-le32.false)) less }
