use Rattle.std.proofs.lemmas.Bool.{eqb-true, eq-eqb}
use Rattle.vlt_base.proofs.Sets.{bits_within, within_bits}
use Rattle.vlt_base.proofs.states.StateSet.within.Goals as goal

pub returns : goal.returns
returns c = (
  λ same. record { each = bits_within c.args.self.mask c.args.o.mask (eqb-true _ _ same) },
  λ within. eq-eqb _ _ (within_bits c.args.self.mask c.args.o.mask within.each),
)
