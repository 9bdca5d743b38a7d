use Rattle.vlt_core.specs.View.{program_of, func_of}
use Rattle.vlt_all_faults.proofs.Lists.{all_listed}
use Rattle.vlt_all_faults.proofs.list.faults_in.Goals as goal

pub returns-clause-findings : goal.returns-clause-findings
returns-clause-findings c =
    all_listed (program_of c.args.p.now) (func_of c.args.f.now) c.in_ok-bounds.bounds.keys c.in_ok-bounds.bounds.vars _ c.in_ok-bounds.ensures.bounds c.in_ok-list.ensures.listed
