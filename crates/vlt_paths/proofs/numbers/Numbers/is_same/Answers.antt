use Rattle.vlt_paths.proofs.Sets.{exceeding, exceeded}
use Rattle.vlt_paths.proofs.numbers.Numbers.is_same.Goals as goal

pub returns-then-exceeds : goal.returns-then-exceeds
returns-then-exceeds c = exceeding c.args.self c.args.o c.exceeds.result c.if-exceeds.true c.exceeds.ensures

pub returns-else-exceeds : goal.returns-else-exceeds
returns-else-exceeds c =
    exceeded c.args.self c.args.o c.exceeds.result c.exceeds-else-exceeds.result c.if-exceeds.false c.exceeds.ensures c.exceeds-else-exceeds.ensures
