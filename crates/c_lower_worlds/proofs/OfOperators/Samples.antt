-- Runs of a few programs and of their C programs, computed: both end alike, write the same and leave the same fuel.
use Rattle.std.proofs.Common.{◌≡◌, ℕ, ℤ, pos, List, [], ◌∷◌, refl}
use Rattle.vlt_core.specs.Core.{Program}
use Rattle.c_lower.specs.Lowering.{lowered}
use Rattle.c_lower.proofs.Samples.{lists, pool, sockets}
use Rattle.c_lower_worlds.proofs.OfOperators.SourceRuns.{source_seen}
use Rattle.c_lower_worlds.proofs.OfOperators.CRuns.{c_seen}

-- within this fuel, nine objects and calls nine deep
abbrev RunAlike : Program → (fuel : ℕ) → List ℤ → List (List ℤ) → Type 0
RunAlike p fuel input answers = c_seen (lowered p) fuel 9 9 input answers ≡ source_seen p fuel 9 9 input answers

lists_run_alike : RunAlike lists 20 (pos 7 ∷ pos 1 ∷ pos 9 ∷ []) []
unfolding c_seen source_seen
lists_run_alike = refl

-- the fuel ends in the loop
short_lists_run_alike : RunAlike lists 2 (pos 7 ∷ pos 1 ∷ pos 9 ∷ []) []
unfolding c_seen source_seen
short_lists_run_alike = refl

pool_runs_alike : RunAlike pool 20 [] []
unfolding c_seen source_seen
pool_runs_alike = refl

-- a socket is bound, and three calls are accepted
sockets_run_alike : RunAlike sockets 20 []
    ([] ∷ (pos 0 ∷ []) ∷ [] ∷ (pos 1 ∷ []) ∷ (pos 2 ∷ []) ∷ (pos 3 ∷ []) ∷ [] ∷ [])
unfolding c_seen source_seen
sockets_run_alike = refl

-- it isn't bound
unbound_sockets_run_alike : RunAlike sockets 20 [] ([] ∷ (pos 1 ∷ pos 98 ∷ []) ∷ [] ∷ [])
unfolding c_seen source_seen
unbound_sockets_run_alike = refl

-- the host's answer doesn't keep the clause
broken_sockets_run_alike : RunAlike sockets 20 [] ([] ∷ (pos 2 ∷ []) ∷ [])
unfolding c_seen source_seen
broken_sockets_run_alike = refl
