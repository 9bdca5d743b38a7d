-- It can't be that a tree that a text has is of no verdict.
use Rattle.std.proofs.Common.{◌≡◌, inl, inr, Result, Ok, Err, refl}
use Rattle.vlt_core.specs.Core.{Program}
use Rattle.vlt_core_laws.specs.Fit.{IsWellFormed}
use Rattle.vlt_fit_laws.specs.Fit.{ProgramsAreFit}
use Rattle.vlt_elaboration.specs.Elaboration.{Refused}
use Rattle.vlt_base.specs.Sure.{Surely}
use Rattle.vlt_check_laws.specs.Judged.{IsJudged}
use Rattle.vlt_base.proofs.Surely.{sure, so}
use Rattle.vlt_elaboration.specs.Programs.{program_told}
use Rattle.vlt_verdict.specs.Verdicts.{Verdict, refused, faulty, accepted, IsVerdict}
use Rattle.vlt_verdict.specs.Laws.{ProgramsHaveSomeVerdict, HasSomeVerdict}
use Rattle.vlt_verdict.proofs.Single.{gives_well_formed}

abbrev Judged : Result Program Refused → Type 0
Judged told = (v : Verdict) × IsVerdict told v

of_program : (told : Result Program Refused) (p : Program) → told ≡ Ok p → IsJudged p → Judged told
of_program told p gives (inl is) = (accepted p, (gives, is))
of_program told p gives (inr (x, first)) = (faulty p first.func x, (gives, record { there = first.there; first = first }))

pub programs_have_some : ((p : Program) → IsWellFormed p → Surely (IsJudged p)) → ProgramsHaveSomeVerdict
programs_have_some judged told formed = by told refl
  where
    by : (r : Result Program Refused) → told ≡ r → Surely (Judged told)
    by (Ok p) gives = so (judged p (formed p gives)) (of_program told p gives)
    by (Err r) gives = sure (refused r, gives)

pub some_verdict : ProgramsAreFit → ProgramsHaveSomeVerdict → HasSomeVerdict
some_verdict fit some t tree = some (program_told t) (gives_well_formed fit t tree)
