-- What is so of least certificates.
use Rattle.std.specs.Prelude.{◌≡◌, ◌↔◌, ℕ, true, List, Some, slice_get}
use Rattle.vlt_core.specs.Core.{done, Func, Program}
use Rattle.cert_format.specs.Notes.{Note}
use Rattle.cert_format.specs.Places.{unplaced_program}
use Rattle.cert_fit_laws.specs.Annotation.{IsLocalCertificate}
use Rattle.cert_fit_laws.specs.Complete.{AreComplete}
use Rattle.cert_least_laws.specs.LeastNotes.{IsLeastCertificate}

-- A program has at most one.
abbrev pub LeastCertificatesAreOne : Type 0
LeastCertificatesAreOne =
    (p : Program) (all other : List (List Note)) →
    IsLeastCertificate p all → IsLeastCertificate p other → all ≡ other

-- Its notes hold in each instance of each body.
abbrev pub LeastCertificatesAreLocal : Type 0
LeastCertificatesAreLocal =
    (p : Program) (all : List (List Note)) → IsLeastCertificate p all → IsLocalCertificate p all

-- externals have no statements
abbrev pub HasBlankExternals : Program → Type 0
HasBlankExternals p =
    (g : ℕ) (f : Func) → slice_get p.fns g ≡ Some f → f.external ≡ true → f.body ≡ done

-- Its notes are complete, and fit rows.
abbrev pub LeastCertificatesAreComplete : Type 0
LeastCertificatesAreComplete =
    (p : Program) (all : List (List Note)) → HasBlankExternals p → IsLeastCertificate p all →
    AreComplete p p.fns all

-- It is the same one without the program's places.
abbrev pub LeastCertificatesHaveNoPlaces : Type 0
LeastCertificatesHaveNoPlaces =
    (p : Program) (all : List (List Note)) →
    IsLeastCertificate p all ↔ IsLeastCertificate (unplaced_program p) all
