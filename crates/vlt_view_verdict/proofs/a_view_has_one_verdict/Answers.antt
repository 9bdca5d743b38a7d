use Rattle.vlt_view_verdict.specs.Verdicts.{view_program_told}
use Rattle.vlt_view_verdict.proofs.Judged.{gives_well_formed}
use Rattle.vlt_view_verdict.proofs.a_view_has_one_verdict.Goals as goal

pub returns : goal.returns
returns c = λ v with_main a b is one other.
    c.programs_have_one_verdict.ensures (view_program_told v with_main) a b (gives_well_formed c.view_programs_are_judgeable.ensures v is with_main) one other
