use Rattle.vlt_core.specs.View.{program_of}
use Rattle.cert_text_laws.proofs.fit.verified_programs_run_alike.Goals as goal

pub returns-clause-alike : goal.returns-clause-alike
returns-clause-alike c = λ ordered p all fits verified.
    c.accepted_programs_are_lowered_rightly.ensures.alike (program_of p) (c.verified_are_accepted_programs.ensures ordered p all fits verified)

pub returns-clause-defined : goal.returns-clause-defined
returns-clause-defined c = λ ordered p all fits verified.
    c.accepted_programs_are_lowered_rightly.ensures.defined (program_of p) (c.verified_are_accepted_programs.ensures ordered p all fits verified)
