-- Externals whose answers give states with numbers below 32 alone.
use Rattle.std.specs.Prelude.{◌≡◌, ℕ, true, List, Some, slice_get}
use Rattle.vlt_core.specs.Core.{States, owning, CaseDecl, CaseKey, Entry, Func, Program}
use Rattle.vlt_core.specs.Lookups.{variant_in, case_at}
use Rattle.vlt_sound_worlds.specs.Limited.{IsNarrow}

-- each set of states that an answer takes one from has none with a number of 32 or more
pub record IsNarrowHead (p : Program) (g : Func) : Type 0 where
  pub after : (i : ℕ) (e : Entry) (states : States) → slice_get g.clause i ≡ Some e → e.after ≡ Some states →
      IsNarrow states
  pub owned : (states : States) (t : ℕ) (args : List ℕ) → g.result ≡ Some (owning states t args) → IsNarrow states
  pub payloads : (t c i : ℕ) (args : List ℕ) (d : CaseDecl) (states : States) (u : ℕ) (others : List ℕ) →
      variant_in g.result ≡ Some (record { type = t; args = args }) → case_at p t c ≡ Some d →
      slice_get d.payload i ≡ Some (owning states u others) → IsNarrow states
  pub listed : (t c i : ℕ) (args : List ℕ) (d : CaseDecl) (k : CaseKey) →
      variant_in g.result ≡ Some (record { type = t; args = args }) → case_at p t c ≡ Some d →
      slice_get d.keys i ≡ Some k → IsNarrow k.states

-- The same of each external of a program. What the code calls a set of states has states below 32 alone; the rules on names
-- and types ask no others, and a host may answer with any that a set has.
pub record HasNarrowHeads (p : Program) : Type 0 where
  pub heads : (i : ℕ) (g : Func) → slice_get p.fns i ≡ Some g → g.external ≡ true → IsNarrowHead p g
