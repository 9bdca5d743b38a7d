use Rattle.vlt_core.specs.View.{program_of}
use Rattle.vlt_check.specs.Checks.{fault_of}
use Rattle.vlt_check_laws.proofs.Formed.{formed_shown}
use Rattle.vlt_witness.proofs.witness.Goals as goal

pub returns-in-Some-clause-shows : goal.returns-in-Some-clause-shows
returns-in-Some-clause-shows c = rw c.in-Some.is at c.in_ok-paths_for.ensures.shows

pub returns-in-None-clause-none : goal.returns-in-None-clause-none
returns-in-None-clause-none c = λ e. c.in_ok-paths_for.ensures.none c.in-None.is

pub returns-in-None-clause-first : goal.returns-in-None-clause-first
returns-in-None-clause-first c = λ e well first.
    c.in_ok-paths_for.ensures.none c.in-None.is (formed_shown (program_of c.args.p.now) (fault_of c.args.fault.now) well first)
