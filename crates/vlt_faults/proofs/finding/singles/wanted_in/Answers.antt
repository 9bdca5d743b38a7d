use Rattle.vlt_faults.proofs.OfFinding.Bits.{wanted_states}
use Rattle.vlt_faults.proofs.finding.singles.wanted_in.Goals as goal

pub returns-in-In : goal.returns-in-In
returns-in-In c = rw c.in-In.is (wanted_states c.args.s c.made-in-In.result c.in-In.w c.mask.result c.mask.ensures.states c.made-in-In.ensures.absent c.made-in-In.ensures.full c.made-in-In.ensures.held c.made-in-In.ensures.lent)
