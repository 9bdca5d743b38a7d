-- Accepted programs have no fault.
use Rattle.std.proofs.Common.{◌≡◌, ℕ, false, Option, Some, slice_get}
use Rattle.vlt_core.specs.Core.{Tok, Func, Program}
use Rattle.vlt_core.specs.Instances.{instance, IsOrigin}
use Rattle.vlt_core.specs.Bodies.{body_flow}
use Rattle.vlt_core.specs.Derives.{IsAccepted, start_map}
use Rattle.vlt_core.specs.Faults.{FlowFault, FaultKind, HasFault, IsFirstFault, IsFirstIn}
use Rattle.vlt_core_laws.proofs.Formed.{formed_bodies}
use Rattle.vlt_core_laws.proofs.Deriving.{annotated}
use Rattle.vlt_core_laws.specs.Fit.{IsWellFormed}
use Rattle.vlt_check.proofs.Listed.{none_in_local}

pub none_accepted : (p : Program) (g : ℕ) (f : Func) (o : Option ℕ) → IsWellFormed p → IsAccepted p → slice_get p.fns g ≡ Some f → f.external ≡ false →
    IsOrigin p f o → HasFault p (instance p f o) → ⊥
none_accepted p g f o well ok there body origin fault =
    let fit = formed_bodies p g f o well there body origin in
    let some = annotated (body_flow p (instance p f o)) (start_map p (instance p f o)) fit.fit.jumping (ok g f o there body origin) in
    none_in_local p (instance p f o) some.0 some.1 fault

has_fault : (p : Program) (f : Func) (at : ℕ) (t : Tok) (k : FaultKind) → IsFirstIn p f at t k → HasFault p f
has_fault p f at t k q = (q.spot, (t, q.faulty))

pub no_first : (p : Program) (x : FlowFault) → IsWellFormed p → IsAccepted p → IsFirstFault p x → ⊥
no_first p x well ok q =
    none_accepted p x.function q.func x.origin well ok q.there q.with_body q.first.is
    (has_fault p (instance p q.func x.origin) x.at x.tok x.kind q.first.first)
