-- Programs of certificates are such as the laws on checks and runs want them.
use Rattle.std.specs.Prelude.{◌≡◌, ℕ, Bool, false, List, Some, slice_get}
use Rattle.vlt_core.specs.Core.{Func, Program}
use Rattle.vlt_core.specs.Derives.{IsAccepted}
use Rattle.vlt_core.specs.Instances.{HasNoBounds}
use Rattle.vlt_core.specs.Kinded.{IsKinded}
use Rattle.vlt_core.specs.Proper.{HasProperBodies}
use Rattle.vlt_core.specs.View.{program_of}
use Rattle.vlt_core.specs.declared.program.Program.{Program as CodeProgram}
use Rattle.vlt_core_laws.specs.Arms.{HasArmsStmts}
use Rattle.vlt_core_laws.specs.States.{HasStates}
use Rattle.cert_format.specs.Notes.{Note}
use Rattle.cert_format.specs.Certificate.{FitsCertificate}
use Rattle.cert_fit_laws.specs.Formed.{IsFormed}
use Rattle.cert_fit_laws.specs.Annotation.{IsVerified}

abbrev pub CertificatesAreFormed : Type 0
CertificatesAreFormed =
    (ordered : Bool) (p : Program) (all : List (List Note)) → FitsCertificate ordered p all →
    IsFormed p

-- Operators have as many operands as they take, and numbers are those that a text can write.
abbrev pub CertificatesAreProper : Type 0
CertificatesAreProper =
    (ordered : Bool) (p : Program) (all : List (List Note)) → FitsCertificate ordered p all →
    HasProperBodies p

-- In version 1 no clause has a bound entry.
abbrev pub FirstVersionHasNoBounds : Type 0
FirstVersionHasNoBounds =
    (p : Program) (all : List (List Note)) → FitsCertificate false p all → HasNoBounds p

-- ---- where no rule on names and types is broken

-- each switch has an arm, since each variant has a case
abbrev pub CertificatesHaveArms : Type 0
CertificatesHaveArms =
    (ordered : Bool) (p : Program) (all : List (List Note)) → FitsCertificate ordered p all →
    IsKinded p → (g : ℕ) (f : Func) → slice_get p.fns g ≡ Some f → HasArmsStmts f.body

-- each set of states of a program of the code has a state
abbrev pub CertificatesHaveStates : Type 0
CertificatesHaveStates =
    (ordered : Bool) (p : CodeProgram) (all : List (List Note)) →
    FitsCertificate ordered (program_of p) all → IsKinded (program_of p) →
    HasStates (program_of p)

-- A program of the code follows the rules on keys where its notes hold in its bodies.
abbrev pub CertificatesAreAccepted : Type 0
CertificatesAreAccepted =
    (ordered : Bool) (p : CodeProgram) (all : List (List Note)) →
    FitsCertificate ordered (program_of p) all → IsVerified (program_of p) all →
    IsAccepted (program_of p)
