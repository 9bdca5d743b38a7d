-- Programs of certificates are all that the laws on checks, runs and C programs ask for.
use Rattle.std.specs.Prelude.{Bool, List}
use Rattle.vlt_core.specs.Kinded.{IsKinded}
use Rattle.vlt_core.specs.View.{program_of}
use Rattle.vlt_core.specs.declared.program.Program.{Program}
use Rattle.vlt_fit_laws.specs.Fit.{IsFitProgram}
use Rattle.c_lower_accepted.specs.Accepted.{IsAcceptedProgram}
use Rattle.c_lower_accepted.specs.Promise.{RunsAlike, IsDefined}
use Rattle.cert_format.specs.Notes.{Note}
use Rattle.cert_format.specs.Certificate.{FitsCertificate}
use Rattle.cert_fit_laws.specs.Annotation.{IsVerified}

-- Of a program of the code that breaks no rule on names and types.
abbrev pub CertificatesAreFit : Type 0
CertificatesAreFit =
    (ordered : Bool) (p : Program) (all : List (List Note)) →
    FitsCertificate ordered (program_of p) all → IsKinded (program_of p) →
    IsFitProgram (program_of p)

-- ---- programs whose certificate verifies, of both versions

-- they are all that the law on C programs asks for
abbrev pub VerifiedAreAcceptedPrograms : Type 0
VerifiedAreAcceptedPrograms =
    (ordered : Bool) (p : Program) (all : List (List Note)) →
    FitsCertificate ordered (program_of p) all → IsVerified (program_of p) all →
    IsAcceptedProgram (program_of p)

-- so a run and that of its C program are the same
abbrev pub VerifiedRunAlike : Type 0
VerifiedRunAlike =
    (ordered : Bool) (p : Program) (all : List (List Note)) →
    FitsCertificate ordered (program_of p) all → IsVerified (program_of p) all →
    RunsAlike (program_of p)

-- and the second breaks no rule of C
abbrev pub VerifiedAreDefined : Type 0
VerifiedAreDefined =
    (ordered : Bool) (p : Program) (all : List (List Note)) →
    FitsCertificate ordered (program_of p) all → IsVerified (program_of p) all →
    IsDefined (program_of p)
