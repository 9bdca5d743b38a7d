use Rattle.std.proofs.Common.{◌-◌}
use Rattle.cert_check.proofs.Lookups.{Searching}
use Rattle.cert_check.proofs.finding.find.Given as goal

abbrev pub invariant-loop-low : goal.invariant-loop-low
invariant-loop-low l = Searching l.given.instance l.given.notes.now l.n l.low l.high

abbrev pub decreases-loop-low : goal.decreases-loop-low
decreases-loop-low l = l.high - l.low
