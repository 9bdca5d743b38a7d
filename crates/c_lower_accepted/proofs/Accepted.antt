-- Accepted programs never end in a fault, so their C programs do the same.
use Rattle.vlt_sound.proofs.Whole.{promises}
use Rattle.c_lower_runs.proofs.Theorem.{lowered_same, lowered_defined}
use Rattle.c_lower_accepted.specs.Accepted.{AcceptedRunAlike, AcceptedAreDefined}
use Rattle.c_lower_accepted.proofs.Lowerable.{lowerable}

pub accepted_alike : AcceptedRunAlike
accepted_alike p h fuel heap depth input answers fed =
    lowered_same p (lowerable p h) fuel heap depth input answers fed ((promises p h.kinded h.accepted h.sizes h.states h.narrow).0 fuel heap depth input answers)

pub accepted_defined : AcceptedAreDefined
accepted_defined p h fuel heap depth input answers fed =
    lowered_defined p (lowerable p h) fuel heap depth input answers fed ((promises p h.kinded h.accepted h.sizes h.states h.narrow).0 fuel heap depth input answers)
