-- Programs whose states have numbers below 32, so that a number of 32 bits says each of their sets of states.
use Rattle.std.specs.Prelude.{◌≡◌, ℕ, ◌<◌, ◌≤◌, ◌^◌, IsTrue, Some, slice_get, IfSome}
use Rattle.vlt_base.specs.States.{is_bit}
use Rattle.vlt_core.specs.Core.{States, Ty, FieldDecl, CaseDecl, CaseKey, Entry, Func, Program}
use Rattle.vlt_core.specs.Lookups.{all_states, release_set, fields_of, case_at, owning_states}
use Rattle.vlt_core_laws.specs.States.{IsFilledSet}
use Rattle.vlt_resolve_laws.specs.KindsLaws.Said.{TypeSays}

-- each set of states that a program says has the property
pub record ProgramSays (P : States → Type 0) (p : Program) : Type 0 where
  pub all : (t : ℕ) → P (all_states p t)
  pub released : (t : ℕ) → P (release_set p t)
  pub owned : (g : ℕ) (f : Func) (v : ℕ) (states : States) → slice_get p.fns g ≡ Some f → owning_states f v ≡ Some states → P states
  pub listed : (t c i : ℕ) (d : CaseDecl) (k : CaseKey) → case_at p t c ≡ Some d → slice_get d.keys i ≡ Some k → P k.states
  pub after : (g : ℕ) (f : Func) (i : ℕ) (e : Entry) → slice_get p.fns g ≡ Some f → slice_get f.clause i ≡ Some e → IfSome e.after P
  pub before : (g : ℕ) (f : Func) (i : ℕ) (e : Entry) → slice_get p.fns g ≡ Some f → slice_get f.clause i ≡ Some e → IfSome e.before P
  -- the states in which a field may be touched, and those of its type
  pub touched : (t i : ℕ) (d : FieldDecl) → slice_get (fields_of p t) i ≡ Some d → P d.states
  pub fields : (t i : ℕ) (d : FieldDecl) → slice_get (fields_of p t) i ≡ Some d → TypeSays P d.ty
  pub payloads : (t c i : ℕ) (d : CaseDecl) (ty : Ty) → case_at p t c ≡ Some d → slice_get d.payload i ≡ Some ty → TypeSays P ty
  pub results : (g : ℕ) (f : Func) (ty : Ty) → slice_get p.fns g ≡ Some f → f.result ≡ Some ty → TypeSays P ty

-- no state of the set has a number of 32 or more
abbrev pub IsNarrowSet : States → Type 0
IsNarrowSet states = (i : ℕ) → IsTrue (states i) → i < 32

abbrev pub HasNarrowStates : Program → Type 0
HasNarrowStates = ProgramSays IsNarrowSet

-- the set is that of the bits that are 1 in a number of 32 bits, and not 0
pub record IsMask (states : States) : Type 0 where
  pub number : ℕ
  pub some : 1 ≤ number
  pub small : number < 2 ^ 32
  pub same : is_bit number ≡ states

abbrev pub HasMasks : Program → Type 0
HasMasks = ProgramSays IsMask

-- a set is one that has a state, and none of 32 or more
abbrev pub NarrowSetsAreMasks : Type 0
NarrowSetsAreMasks = (states : States) → IsFilledSet states → IsNarrowSet states → IsMask states
