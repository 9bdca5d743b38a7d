use Rattle.std.proofs.Common.{rules}
use Rattle.vlt_faults.proofs.OfFinding.Into.{into_of, into_same, nearer_of, not_true}
use Rattle.vlt_faults.proofs.finding.tables.join_into.Goals as goal

pub returns-then-is_same-clause-into : goal.returns-then-is_same-clause-into
returns-then-is_same-clause-into c = into_same c.args.slot.now c.args.m c.union-both.result c.union-both.ensures (c.if-is_same.ensures.0 (search rules))

pub returns-else-is_same-clause-into : goal.returns-else-is_same-clause-into
returns-else-is_same-clause-into c = into_of c.args.slot.now c.args.m c.union-both.result c.union-both.ensures

pub returns-else-is_same-clause-nearer : goal.returns-else-is_same-clause-nearer
returns-else-is_same-clause-nearer c = nearer_of c.args.slot.now c.args.m c.union-both.result c.union-both.ensures (λ p. not_true (c.if-is_same.ensures.1 p))
