use Rattle.vlt_meaning_laws.proofs.Done.{done_is_left, done_is_clean}
use Rattle.vlt_meaning_laws.proofs.done_is_mains_end.Goals as goal

pub returns-clause-end : goal.returns-clause-end
returns-clause-end c = done_is_left

pub returns-clause-clean : goal.returns-clause-clean
returns-clause-clean c = done_is_clean
