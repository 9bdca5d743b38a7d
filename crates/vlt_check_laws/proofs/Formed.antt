-- The laws of programs that break no rule on names and types.
use Rattle.vlt_core.specs.Core.{Program}
use Rattle.vlt_core.specs.Instances.{instance}
use Rattle.vlt_core.specs.Bodies.{body_flow}
use Rattle.vlt_core.specs.Derives.{IsAccepted, start_map}
use Rattle.vlt_core.specs.Faults.{FlowFault, IsFirstFault}
use Rattle.vlt_core_laws.proofs.Formed.{formed_bodies}
use Rattle.vlt_core_laws.proofs.Deriving.{annotated}
use Rattle.vlt_core_laws.specs.Fit.{IsWellFormed}
use Rattle.vlt_check_laws.specs.Shown.{HasWitness, IsFault}
use Rattle.vlt_check_laws.proofs.Refuting.{refuted}
use Rattle.vlt_check_laws.proofs.Showing.{fault_shown, first_is_fault}

pub none_accepted : (p : Program) (x : FlowFault) → IsWellFormed p → IsAccepted p → HasWitness p x → ⊥
none_accepted p x well ok h =
    let w = h.shown in let f = instance p w.func x.origin in
    let fit = formed_bodies p x.function w.func x.origin well w.there w.with_body w.origin in
    let some = annotated (body_flow p f) (start_map p f) fit.fit.jumping (ok x.function w.func x.origin w.there w.with_body w.origin) in
    refuted p f x h.first h.second some.0 w.shows some.1

pub formed_fault_shown : (p : Program) (x : FlowFault) → IsWellFormed p → IsFault p x → HasWitness p x
formed_fault_shown p x well w = fault_shown p x w (formed_bodies p x.function w.func x.origin well w.there w.with_body w.origin).fit.tame

pub formed_shown : (p : Program) (x : FlowFault) → IsWellFormed p → IsFirstFault p x → HasWitness p x
formed_shown p x well w = formed_fault_shown p x well (first_is_fault p x w)
