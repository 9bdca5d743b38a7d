-- Why there is no certificate of a program.
use Rattle.std.specs.Prelude.{◌≡◌, ℕ, false, ◌⊎◌, length, Option, Some, slice_get, Result, Err}
use Rattle.vlt_core.specs.Core.{Func, Program}
use Rattle.vlt_core.specs.Instances.{instance, IsOrigin}
use Rattle.vlt_core.specs.Local.{Notes, IsLocalIn}
use Rattle.vlt_core.specs.Bodies.{body_flow}
use Rattle.vlt_core.specs.Derives.{start_map}
use Rattle.vlt_flow.specs.Unfit as walk
use Rattle.vlt_flow.specs.Notes.Noted.{IsUnnoted}
use Rattle.vlt_flow.specs.declared.errors.Stop.{Stop}
use Rattle.vlt_flow.specs.declared.errors.Stop.TheVariants as stop
use Rattle.cert_values.specs.declared.declarations.names.Unwritten.{Unwritten}
use Rattle.cert_values.specs.declared.declarations.names.Unwritten.TheVariants as unwritten
use Rattle.cert_emit.specs.declared.errors.CertificateError.{CertificateError}
use Rattle.cert_emit.specs.declared.errors.CertificateError.TheVariants.{Refused, Unfit, Name, Memory}

-- a fact for one of the errors
pub record IfError {A : Type 0} (e : CertificateError) (r : Result A CertificateError)
    (P : Type 0) : Type 0 where
  pub holds : r ≡ Err e → P

-- no annotation holds in the body
abbrev pub IsRefused : Program → Func → Type 0
IsRefused p f = (a : Notes) → IsLocalIn p f a → ⊥

-- the body can't be walked, or it has no notes
abbrev pub IsUnfit : Program → Func → Type 0
IsUnfit p f =
    walk.IsUnfit p f ⊎
    IsUnnoted (length f.keys) (length f.vars) (body_flow p f) (start_map p f)

-- an instance of the function of which this holds
pub record HasInstance (p : Program) (f : Func) (P : Func → Type 0) : Type 0 where
  pub origin : Option ℕ
  pub is : IsOrigin p f origin
  pub holds : P (instance p f origin)

-- a function with a body, and such an instance of it
pub record HasBody (p : Program) (P : Func → Type 0) : Type 0 where
  pub number : ℕ
  pub func : Func
  pub there : slice_get p.fns number ≡ Some func
  pub with_body : func.external ≡ false
  pub in_some : HasInstance p func P

abbrev pub HasRefused : Program → Type 0
HasRefused p = HasBody p (IsRefused p)

abbrev pub HasUnfit : Program → Type 0
HasUnfit p = HasBody p (IsUnfit p)

-- what the errors of the parts are
abbrev pub error_of_stop : Stop → CertificateError
error_of_stop stop.Refused = Refused
error_of_stop stop.Unfit = Unfit
error_of_stop stop.Memory = Memory

abbrev pub error_of_text : Unwritten → CertificateError
error_of_text unwritten.Name = Name
error_of_text unwritten.Memory = Memory
