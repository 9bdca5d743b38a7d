use Rattle.std.proofs.Common.{arith}
use Rattle.std.proofs.lemmas.Nat.{le_or_l}
use Rattle.vlt_base.proofs.Sets.{bit_of_both}
use Rattle.vlt_base.proofs.states.StateSet.join.Goals as goal

pub invariant_of-result-clause-filled : goal.invariant_of-result-clause-filled
invariant_of-result-clause-filled c = grind (arith, le_or_l, c.args.self.filled)

pub returns : goal.returns
returns c = λ i. bit_of_both c.args.self.mask c.args.o.mask i
