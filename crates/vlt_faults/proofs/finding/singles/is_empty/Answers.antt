use Rattle.std.proofs.Common.{inr}
use Rattle.vlt_faults.proofs.OfFinding.Bits.{some_held, some_lent}
use Rattle.vlt_faults.proofs.finding.singles.is_empty.Goals as goal

pub returns-then-a-gt0-clause-some : goal.returns-then-a-gt0-clause-some
returns-then-a-gt0-clause-some c = inr (some_held c.args.a c.if-a-gt0.true)

pub returns-then-a-gt0-2-clause-some : goal.returns-then-a-gt0-2-clause-some
returns-then-a-gt0-2-clause-some c = inr (some_lent c.args.a c.if-a-gt0-2.true)
