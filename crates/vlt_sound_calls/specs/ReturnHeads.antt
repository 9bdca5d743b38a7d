-- What is known without a run of an external's head.
use Rattle.std.specs.Prelude.{◌≡◌, ℕ, ◌<◌, true, IsTrue, List, [], length, Some, slice_get}
use Rattle.vlt_core.specs.Core.{States, Ty, int, bool, tracked, owning, guarded, CaseKey, CaseDecl, Entry, Func, Program}
use Rattle.vlt_core.specs.Lookups.{all_states, fields_of, key_type, variant_in, case_at, is_new, after_set}
use Rattle.vlt_core.specs.Types.{keys_of_ty}
use Rattle.vlt_core.specs.KindedHeads.{has, new_keys, tracked_keys}
use Rattle.vlt_sound_worlds.specs.Members.{In}
use Rattle.vlt_sound_worlds.specs.Fits.{header_type}
use Rattle.vlt_sound_calls.specs.Among.{Among}

-- a type that has no fields, and states of it
pub record IsHostType (p : Program) (allowed : States) (type : ℕ) : Type 0 where
  pub bare : fields_of p type ≡ []
  pub states : (s : ℕ) → IsTrue (allowed s) → IsTrue (all_states p type s)

abbrev pub IsHostPayload : Program → Ty → Type 0
IsHostPayload p int = Unit {0}
IsHostPayload p bool = Unit {0}
IsHostPayload p (owning states t args) = IsHostType p states t
IsHostPayload p ty = ⊥

-- A key that a case of the result lists: it is that of a reference among the parameters, and has the header's type, whose
-- states are those of the case.
pub record IsHostKey (p : Program) (g : Func) (type : ℕ) (args : List ℕ) (k : CaseKey) : Type 0 where
  pub key : ℕ
  pub is : slice_get args k.position ≡ Some key
  pub known : has (tracked_keys g) key ≡ true
  pub of : ℕ
  pub header : header_type p type k.position ≡ Some of
  pub typed : key_type g key ≡ Some of
  pub states : (s : ℕ) → IsTrue (k.states s) → IsTrue (all_states p of s)

pub record IsHostCase (p : Program) (g : Func) (type : ℕ) (args : List ℕ) (d : CaseDecl) : Type 0 where
  pub payload : (i : ℕ) (ty : Ty) → slice_get d.payload i ≡ Some ty →
      IsHostPayload p ty × ((k : ℕ) → In k (keys_of_ty ty) → k < length args)
  pub keys : (i : ℕ) (k : CaseKey) → slice_get d.keys i ≡ Some k → IsHostKey p g type args k

pub record HasHostHead (p : Program) (g : Func) : Type 0 where
  -- a key of the clause, `new` ones aside, is that of a reference among the parameters
  pub known : (e : Entry) → Among e g.clause → (is_new e ≡ true → ⊥) → has (tracked_keys g) e.key ≡ true
  -- which has a type
  pub typed : (k : ℕ) → has (tracked_keys g) k ≡ true → (t : ℕ) × (key_type g k ≡ Some t)
  -- what the clause says of a key for after the call are states of its type
  pub after : (e : Entry) (t s : ℕ) → Among e g.clause → key_type g e.key ≡ Some t → IsTrue (after_set p g e s) →
      IsTrue (all_states p t s)
  -- a `new` key has the type of the result
  pub fresh : (e : Entry) (t : ℕ) (args : List ℕ) → Among e g.clause → is_new e ≡ true →
      g.result ≡ Some (tracked e.key t args) → key_type g e.key ≡ Some t
  -- a reference that is given is for a `new` key, and its type has no fields
  pub references : (k t : ℕ) (args : List ℕ) → g.result ≡ Some (tracked k t args) →
      (has (new_keys g) k ≡ true) × (fields_of p t ≡ [])
  pub unguarded : (k t : ℕ) (args : List ℕ) → g.result ≡ Some (guarded k t args) → ⊥
  pub owned : (states : States) (t : ℕ) (args : List ℕ) → g.result ≡ Some (owning states t args) →
      IsHostType p states t
  pub cases : (t c : ℕ) (args : List ℕ) (d : CaseDecl) →
      variant_in g.result ≡ Some (record { type = t; args = args }) → case_at p t c ≡ Some d → IsHostCase p g t args d

-- the same of each external of a program
pub record HasHosts (p : Program) : Type 0 where
  pub heads : (i : ℕ) (g : Func) → slice_get p.fns i ≡ Some g → g.external ≡ true → HasHostHead p g
