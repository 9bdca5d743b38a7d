use Rattle.std.proofs.Common.{◌≡◌, length}
use Rattle.cert_read.specs.Cases.{AreCases}
use Rattle.cert_read.proofs.cases.read_cases.Given as goal

abbrev pub invariant-loop-turn : goal.invariant-loop-turn
invariant-loop-turn l = AreCases l.ordered l.at l.rows l.cases l.next × (length l.cases ≡ l.turn)
