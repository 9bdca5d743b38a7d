use Rattle.vlt_resolve_laws.proofs.FewKeys.{elaborated_few_keys}
use Rattle.vlt_resolve_laws.proofs.elaborated_programs_have_few_keys.Goals as goal

pub returns : goal.returns
returns c = elaborated_few_keys
