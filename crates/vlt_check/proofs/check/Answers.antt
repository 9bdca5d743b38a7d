use Rattle.vlt_core.specs.View.{program_of}
use Rattle.vlt_core_laws.proofs.One.{one_fault}
use Rattle.vlt_check.specs.Checks.{fault_of}
use Rattle.vlt_check.proofs.Listed.{on_ok, checked_accepted, refused_rejected}
use Rattle.vlt_check.proofs.check.Goals as goal

pub returns-clause-accepted : goal.returns-clause-accepted
returns-clause-accepted c = on_ok _ (λ all q. checked_accepted (program_of c.args.p.now) all q) c.check_funcs.ensures.ok

pub returns-clause-not_accepted : goal.returns-clause-not_accepted
returns-clause-not_accepted c =
    record { holds = λ x e. refused_rejected (program_of c.args.p.now) (fault_of x).function (c.check_funcs.ensures.refused.holds x e) }

pub returns-clause-only : goal.returns-clause-only
returns-clause-only c = record {
  holds = λ x e well y q. one_fault (program_of c.args.p.now) y (fault_of x) q (c.check_funcs.ensures.first.holds x e well);
}
