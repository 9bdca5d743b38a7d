use Rattle.cert_read.proofs.Going.{Going}
use Rattle.cert_read.proofs.declarations.read_declarations.Given as goal

abbrev pub invariant-loop-turn : goal.invariant-loop-turn
invariant-loop-turn l = Going l.ordered l.rows l.turn l.read
