use Rattle.std.proofs.Common.{ap}
use Rattle.vlt_core.specs.View.{program_of, func_of}
use Rattle.vlt_all_faults.specs.Tokens.{findings_of}
use Rattle.vlt_all_faults_lines.proofs.Telling.{none_of_external}
use Rattle.vlt_all_faults_lines.proofs.faults.faults_of.Goals as goal

pub returns-then-f-clause-findings : goal.returns-then-f-clause-findings
returns-then-f-clause-findings c = λ fit. none_of_external (program_of c.args.p.now) (func_of c.args.f.now) _ c.if-f.true (ap findings_of c.new.ensures.items)
