use Rattle.vlt_core.specs.View.{program_of, func_of}
use Rattle.cert_check.specs.Notes.{plain_notes}
use Rattle.cert_check.proofs.Instances.{Testing}
use Rattle.cert_check.proofs.whole.test_instances.Given as goal

abbrev pub invariant-loop-i : goal.invariant-loop-i
invariant-loop-i l = Testing (program_of l.p) (func_of l.f) (plain_notes l.notes) l.list l.i l.count
