use Rattle.vlt_meaning_laws.proofs.BadAnswers.{bad_unless_kept, good_where_kept}
use Rattle.vlt_meaning_laws.proofs.bad_answers_break_clauses.Goals as goal

pub returns-clause-bad : goal.returns-clause-bad
returns-clause-bad c = bad_unless_kept

pub returns-clause-kept : goal.returns-clause-kept
returns-clause-kept c = good_where_kept
