-- Programs whose sets of states have no state from 32 on, so that a number of 32 bits says each of them.
use Rattle.std.specs.Prelude.{◌≡◌, ◌<◌, ℕ, IsTrue, Some, slice_get, IfSome}
use Rattle.vlt_core.specs.Core.{States, CaseDecl, CaseKey, Entry, Func, Program}
use Rattle.vlt_core.specs.Lookups.{release_set, case_at, owning_states}

-- no state from 32 on
pub record IsNarrow (s : States) : Type 0 where
  pub below : (i : ℕ) → IsTrue (s i) → i < 32

-- each set that a program says is narrow
pub record HasNarrow (p : Program) : Type 0 where
  pub released : (t : ℕ) → IsNarrow (release_set p t)
  pub owned : (g : ℕ) (f : Func) (v : ℕ) (states : States) → slice_get p.fns g ≡ Some f →
      owning_states f v ≡ Some states → IsNarrow states
  pub listed : (t c i : ℕ) (d : CaseDecl) (k : CaseKey) → case_at p t c ≡ Some d →
      slice_get d.keys i ≡ Some k → IsNarrow k.states
  pub after : (g : ℕ) (f : Func) (i : ℕ) (e : Entry) → slice_get p.fns g ≡ Some f →
      slice_get f.clause i ≡ Some e → IfSome e.after IsNarrow
  pub before : (g : ℕ) (f : Func) (i : ℕ) (e : Entry) → slice_get p.fns g ≡ Some f →
      slice_get f.clause i ≡ Some e → IfSome e.before IsNarrow
