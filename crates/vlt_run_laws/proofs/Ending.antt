-- Where a run has ended, no statement comes next.
use Rattle.std.proofs.Common.{◌≡◌, ℕ, zero, suc, List, [], ◌∷◌}
use Rattle.vlt_core.specs.Core.{done, next, Func}
use Rattle.vlt_meaning.specs.World.{World, Frame, Outcome}
use Rattle.vlt_meaning.specs.Step.{goes, ends, left_block}
use Rattle.vlt_meaning.specs.Calls.{back_in}
use Rattle.vlt_meaning.specs.Run.{Setup, focus_end}
use Rattle.vlt_meaning_laws.specs.Machine.Machine.{Task, list, closing, turn, unfocus, back, at, after_move}
use Rattle.vlt_run_laws.proofs.Moves.{Good}

module _ (r : Setup) (o : Outcome) (w : World) where
  pub ended_good : (n : ℕ) (f : Func) (ts : List Task) → Good r n (at f ts (ends o w))
  unfolding left_block back_in focus_end
  ended_good zero f ts = tt
  ended_good (suc n) f ts = (λ form frame v e. absurd (clash e.step), by ts (λ g us. ended_good n g us))
    where
      clash : {frame : Frame} {v : World} → ends o w ≡ goes frame v → ⊥
      clash e = cc

      by : (ts : List Task) → ((g : Func) (us : List Task) → Good r n (at g us (ends o w))) → Good r n (after_move r (at f ts (ends o w)))
      by [] again = again f []
      by (list done ∷ us) again = again f us
      by (list (next place form rest) ∷ us) again = again f us
      by (closing bound ∷ us) again = again f us
      by (turn e b ∷ us) again = again f us
      by (unfocus g q m k ∷ us) again = again f us
      by (back k ∷ us) again = again k.func us
