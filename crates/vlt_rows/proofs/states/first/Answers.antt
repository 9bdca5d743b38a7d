use Rattle.std.proofs.Common.{arith}
use Rattle.vlt_core.proofs.Sets.{never_none_first, never_many_first}
use Rattle.vlt_rows.proofs.states.first.Goals as goal
use Rattle.vlt_rows.proofs.states.first.Goals.{else-n-ge1-via-then-n-ge1+else-n-le32, else-n-ge1-via-else-n-ge1}

pub returns-else-n-ge1 : goal.returns-else-n-ge1
returns-else-n-ge1 c = λ s e. elim c.else-n-ge1.branch [
  | else-n-ge1-via-then-n-ge1+else-n-le32 w ↦ never_many_first s c.args.n (omega (arith, w.if-n-le32.false)) e
  | else-n-ge1-via-else-n-ge1 w ↦ never_none_first s c.args.n (omega (arith, w.if-n-ge1.false)) e
]
