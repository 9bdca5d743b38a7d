-- The externals of a program of the code say sets of states below 32 alone.
use Rattle.std.proofs.Common.{◌≡◌, ℕ, true≢false, Some, IfSome, sym, ◌∙◌, subst, slice_get, ⊎_elim}
use Rattle.std.proofs.lemmas.Bool.{cases_lt}
use Rattle.vlt_base.specs.States.{has_state}
use Rattle.vlt_base.specs.declared.states.StateSet.{StateSet}
use Rattle.vlt_core.proofs.Sets.{none_above}
use Rattle.vlt_core.specs.Core.{Func}
use Rattle.vlt_core.specs.View.{program_of}
use Rattle.vlt_core.specs.declared.program.Program.{Program}
use Rattle.vlt_sound_worlds.specs.Limited.{IsNarrow}
use Rattle.vlt_sound.specs.Narrow.{IsNarrowHead, HasNarrowHeads}
use Rattle.cert_fit_laws.proofs.CodeSets.{result_has, after_has, payload_has, listed_has}

set_narrow : (s : StateSet) → IsNarrow (has_state s)
set_narrow s = record { below = λ i has. ⊎_elim (λ less. less) (λ past. absurd (true≢false (sym has ∙ none_above s i past))) (cases_lt i 32) }

head_narrow : (p : Program) (i : ℕ) (g : Func) → slice_get (program_of p).fns i ≡ Some g → IsNarrowHead (program_of p) g
head_narrow p i g at = record {
  after = λ j e states there is. subst (λ o. IfSome o IsNarrow) is (after_has IsNarrow set_narrow p i g j e at there);
  owned = λ states t args is. result_has IsNarrow set_narrow p i g states t args at is;
  payloads = λ t c j args d states u others of there is. payload_has IsNarrow set_narrow p t c j d states u others there is;
  listed = λ t c j args d k of there is. listed_has IsNarrow set_narrow p t c j d k there is;
}

pub narrow_heads : (p : Program) → HasNarrowHeads (program_of p)
narrow_heads p = record { heads = λ i g at external. head_narrow p i g at }
