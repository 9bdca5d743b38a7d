use Rattle.vlt_core.specs.View.{program_of}
use Rattle.vlt_rows.proofs.Looping.{case_found}
use Rattle.vlt_rows.proofs.statements.give_case.Goals as goal

pub returns-in-Some-case_at : goal.returns-in-Some-case_at
returns-in-Some-case_at g c =
    let variant = rw (c.in-Some.is, c.in-Some.t-is) at c.variant.ensures in
    let found = rw (c.in-Some-case_at.is, c.in-Some-case_at.d-is) at c.case_at.ensures in
    let keys = rw c.as_slice.ensures at c.give_keys.ensures in
    rw (← case_found (program_of c.args.p.now) c.args.opens c.args.case _ _ _ variant found) keys
