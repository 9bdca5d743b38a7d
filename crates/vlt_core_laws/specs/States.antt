-- Programs whose sets of states aren't empty.
use Rattle.std.specs.Prelude.{◌≡◌, ℕ, IsTrue, Some, slice_get, IfSome}
use Rattle.vlt_core.specs.Core.{States, CaseDecl, CaseKey, Entry, Func, Program}
use Rattle.vlt_core.specs.Lookups.{all_states, release_set, case_at, owning_states}

pub record IsFilledSet (states : States) : Type 0 where
  pub state : ℕ
  pub has : IsTrue (states state)

-- each set of states in a function's owning types has one
abbrev pub OwnsFilled : Func → Type 0
OwnsFilled f = (v : ℕ) (states : States) → owning_states f v ≡ Some states → IsFilledSet states

-- Each set that a program says has a state. What the code calls a set of states always has one.
pub record HasStates (p : Program) : Type 0 where
  pub all : (t : ℕ) → IsFilledSet (all_states p t)
  pub released : (t : ℕ) → IsFilledSet (release_set p t)
  pub owned : (g : ℕ) (f : Func) (v : ℕ) (states : States) → slice_get p.fns g ≡ Some f → owning_states f v ≡ Some states → IsFilledSet states
  pub listed : (t c i : ℕ) (d : CaseDecl) (k : CaseKey) → case_at p t c ≡ Some d → slice_get d.keys i ≡ Some k → IsFilledSet k.states
  pub after : (g : ℕ) (f : Func) (i : ℕ) (e : Entry) → slice_get p.fns g ≡ Some f → slice_get f.clause i ≡ Some e → IfSome e.after IsFilledSet
  pub before : (g : ℕ) (f : Func) (i : ℕ) (e : Entry) → slice_get p.fns g ≡ Some f → slice_get f.clause i ≡ Some e → IfSome e.before IsFilledSet
