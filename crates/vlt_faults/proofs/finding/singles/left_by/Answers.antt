use Rattle.vlt_faults.proofs.OfFinding.Bits.{left_states, left_lent, left_held, some_if}
use Rattle.vlt_faults.proofs.finding.singles.left_by.Goals as goal

pub returns-in-Set : goal.returns-in-Set
returns-in-Set c = rw c.in-Set.is (left_states c.args.s c.made-in-Set.result c.in-Set.m c.mask.result c.mask.ensures.states (some_if _ _ c.if-is_empty.false c.is_empty.ensures.some) c.made-in-Set.ensures.absent c.made-in-Set.ensures.full c.made-in-Set.ensures.held c.made-in-Set.ensures.lent)

pub returns-in-Lend : goal.returns-in-Lend
returns-in-Lend c = rw c.in-Lend.is (left_lent c.args.s c.made-in-Lend.result c.made-in-Lend.ensures.absent c.made-in-Lend.ensures.full c.made-in-Lend.ensures.held c.made-in-Lend.ensures.lent)

pub returns-in-Unlend : goal.returns-in-Unlend
returns-in-Unlend c = rw c.in-Unlend.is (left_held c.args.s c.made-in-Unlend.result c.made-in-Unlend.ensures.absent c.made-in-Unlend.ensures.full c.made-in-Unlend.ensures.held c.made-in-Unlend.ensures.lent)
