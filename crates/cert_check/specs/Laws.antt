-- Notes hold exactly where their tests do; tests fail first in one way at most.
use Rattle.std.specs.Prelude.{◌≡◌, ◌↔◌, ℕ, true, false, List}
use Rattle.vlt_core.specs.Core as core
use Rattle.vlt_core.specs.Core.{Func, Program}
use Rattle.vlt_core.specs.Flow.{passes}
use Rattle.vlt_core.specs.Bodies.{flow_of}
use Rattle.vlt_core.specs.KindedBodies.{ends}
use Rattle.vlt_core.specs.Local.{Notes, IsLocalIn}
use Rattle.cert_format.specs.Notes.{Note}
use Rattle.cert_fit_laws.specs.Annotation.{IsLocalCertificate}
use Rattle.cert_check.specs.Tests.{Test, Hold, body_tests, Failure, FirstFails}
use Rattle.cert_check.specs.Whole.{HoldAt, ProgramRefusal, IsFirstRefusal}

abbrev pub TestsSayLocal : Type 0
TestsSayLocal = (p : Program) (f : Func) (a : Notes) → Hold (body_tests p f a) ↔ IsLocalIn p f a

-- those of a program, in each instance of each of its functions
abbrev pub TestsSayLocalCertificate : Type 0
TestsSayLocalCertificate = (p : Program) (all : List (List Note)) →
    ((g : ℕ) → HoldAt p all g) ↔ IsLocalCertificate p all

-- where all tests hold, none fails
abbrev pub NoneFails : Type 0
NoneFails = (ts : List Test) (x : Failure) → Hold ts → FirstFails ts x → ⊥

abbrev pub FailsInOneWay : Type 0
FailsInOneWay = (ts : List Test) (x y : Failure) → FirstFails ts x → FirstFails ts y → x ≡ y

-- where the notes of a program hold, it has no first refusal, and else one at most
abbrev pub NoneIsRefused : Type 0
NoneIsRefused = (p : Program) (all : List (List Note)) (x : ProgramRefusal) → IsLocalCertificate p all → IsFirstRefusal p all x → ⊥

abbrev pub RefusedInOneWay : Type 0
RefusedInOneWay = (p : Program) (all : List (List Note)) (x y : ProgramRefusal) → IsFirstRefusal p all x → IsFirstRefusal p all y → x ≡ y

-- a statement that ends has no way on
abbrev pub EndsDontPass : Type 0
EndsDontPass = (p : Program) (f : Func) (s : core.Form) (left : List core.Tok) → ends s ≡ true → passes (flow_of p f left s) ≡ false
