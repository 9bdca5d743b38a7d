use Rattle.vlt_resolve_laws.proofs.FewFunctions.{elaborated_few_functions}
use Rattle.vlt_resolve_laws.proofs.elaborated_programs_have_few_functions.Goals as goal

pub returns : goal.returns
returns c = elaborated_few_functions
