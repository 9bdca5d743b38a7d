use Rattle.vlt_rows.proofs.Named.{never_only}
use Rattle.vlt_rows.proofs.states.only.Goals as goal

pub returns-else-s-lt32 : goal.returns-else-s-lt32
returns-else-s-lt32 c = λ s e. never_only s c.args.s c.if-s-lt32.false e
