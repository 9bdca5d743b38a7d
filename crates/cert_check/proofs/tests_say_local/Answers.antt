use Rattle.cert_check.proofs.Holding.{tests_local}
use Rattle.cert_check.proofs.Functions.{holds_local, local_holds}
use Rattle.cert_check.proofs.tests_say_local.Goals as goal

pub returns-clause-body : goal.returns-clause-body
returns-clause-body c = tests_local

pub returns-clause-program : goal.returns-clause-program
returns-clause-program c = λ p all. (holds_local p all, local_holds p all)
