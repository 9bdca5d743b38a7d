use Rattle.vlt_fit_laws.proofs.Fields.{has_few_fields}
use Rattle.vlt_fit_laws.proofs.sizes.declared_structs_are_small.Goals as goal

pub returns : goal.returns
returns c = has_few_fields
