use Rattle.vlt_check_laws.proofs.Refuting.{refuted}
use Rattle.vlt_check_laws.proofs.witness_refutes.Goals as goal

pub returns : goal.returns
returns c = refuted
