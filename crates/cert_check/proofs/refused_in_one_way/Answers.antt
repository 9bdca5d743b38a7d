use Rattle.cert_check.proofs.OneRefusal.{none_fails, fails_one_way}
use Rattle.cert_check.proofs.Functions.{none_refused, one_refused}
use Rattle.cert_check.proofs.refused_in_one_way.Goals as goal

pub returns-clause-none : goal.returns-clause-none
returns-clause-none c = none_fails

pub returns-clause-one : goal.returns-clause-one
returns-clause-one c = fails_one_way

pub returns-clause-none_of_program : goal.returns-clause-none_of_program
returns-clause-none_of_program c = none_refused

pub returns-clause-one_of_program : goal.returns-clause-one_of_program
returns-clause-one_of_program c = one_refused
