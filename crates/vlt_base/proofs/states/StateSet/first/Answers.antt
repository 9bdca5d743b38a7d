use Rattle.vlt_base.proofs.Sets.{first_filled, first_fits, first_bits}
use Rattle.vlt_base.proofs.states.StateSet.first.Goals as goal

pub invariant_of-result : goal.invariant_of-result
invariant_of-result c = record {
  filled = first_filled c.args.n c.requires.some c.requires.within;
  small = first_fits c.args.n c.requires.within;
}

pub returns : goal.returns
returns c = λ i. first_bits c.args.n i c.requires.within
