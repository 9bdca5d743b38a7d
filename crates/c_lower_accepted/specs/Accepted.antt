-- Accepted programs, and what their C programs do.
use Rattle.std.specs.Prelude.{◌≡◌, ◌≤◌, ℕ, true, List, length, Some, slice_get}
use Rattle.vlt_core.specs.Core.{States, owning, CaseDecl, Func, Program}
use Rattle.vlt_core.specs.Lookups.{cases_of, case_at}
use Rattle.vlt_core.specs.Kinded.{IsKinded}
use Rattle.vlt_core.specs.Proper.{HasProperBodies}
use Rattle.vlt_core.specs.Derives.{IsAccepted}
use Rattle.vlt_core_laws.specs.States.{IsFilledSet, HasStates}
use Rattle.vlt_sound.specs.Sizes.{HasSizes}
use Rattle.vlt_sound.specs.Narrow.{HasNarrowHeads}
use Rattle.c_lower_accepted.specs.Promise.{RunsAlike, IsDefined}

-- What the lowering asks of a program, and the promise of runs doesn't: the grammar and its limits
-- give it.
pub record KeepsLimits (p : Program) : Type 0 where
  -- operators have as many operands as they want, and numbers are those that a text can write
  pub operators : HasProperBodies p
  -- limit 8
  pub payloads : (t c : ℕ) (d : CaseDecl) → case_at p t c ≡ Some d → length d.payload ≤ 8
  -- limit 9
  pub parameters : (g : ℕ) (gf : Func) → slice_get p.fns g ≡ Some gf → gf.external ≡ true →
      gf.params ≤ 16
  -- limit 7
  pub cases : (t : ℕ) → length (cases_of p t) ≤ 32
  -- sets of states in results and payloads have a state, as all sets that are written
  pub given : (g : ℕ) (gf : Func) (states : States) (t : ℕ) (args : List ℕ) →
      slice_get p.fns g ≡ Some gf → gf.external ≡ true → gf.result ≡ Some (owning states t args) →
      IsFilledSet states
  pub parts : (t c i : ℕ) (d : CaseDecl) (states : States) (u : ℕ) (others : List ℕ) →
      case_at p t c ≡ Some d → slice_get d.payload i ≡ Some (owning states u others) →
      IsFilledSet states

-- all that is asked of an accepted program
pub record IsAcceptedProgram (p : Program) : Type 0 where
  pub kinded : IsKinded p
  pub accepted : IsAccepted p
  pub sizes : HasSizes p
  pub states : HasStates p
  pub narrow : HasNarrowHeads p
  pub limits : KeepsLimits p

abbrev pub AcceptedRunAlike : Type 0
AcceptedRunAlike = (p : Program) → IsAcceptedProgram p → RunsAlike p

abbrev pub AcceptedAreDefined : Type 0
AcceptedAreDefined = (p : Program) → IsAcceptedProgram p → IsDefined p
