-- An accepted program surely has a least certificate.
use Rattle.std.specs.Prelude.{List}
use Rattle.vlt_base.specs.Sure.{Surely}
use Rattle.vlt_core.specs.Core.{Program}
use Rattle.vlt_core.specs.Derives.{IsAccepted}
use Rattle.vlt_core.specs.Kinded.{IsKinded}
use Rattle.vlt_core_laws.specs.Fit.{IsWellFormed}
use Rattle.cert_format.specs.Notes.{Note}
use Rattle.cert_fit_laws.specs.Limits.{IsLimitedProgram}
use Rattle.cert_least_laws.specs.LeastNotes.{IsLeastCertificate}
use Rattle.cert_least_laws.specs.Bodies.Narrow.{HasNarrow}

-- It can't be that a program with such sets of states that breaks no rule, keeps the limits of
-- certificates and is accepted has none.
abbrev pub AcceptedProgramsHaveOne : Type 0
AcceptedProgramsHaveOne =
    (p : Program) → IsKinded p → IsLimitedProgram p → IsWellFormed p → HasNarrow p →
    IsAccepted p → Surely ((all : List (List Note)) × IsLeastCertificate p all)
