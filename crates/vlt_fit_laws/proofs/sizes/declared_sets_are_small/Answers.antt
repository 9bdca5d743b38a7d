use Rattle.vlt_fit_laws.proofs.Sets.{has_sizes}
use Rattle.vlt_fit_laws.proofs.sizes.declared_sets_are_small.Goals as goal

pub returns : goal.returns
returns c = λ ds p right same. has_sizes ds p right same
