-- A reference in scope is one to the object that its key names.
use Rattle.std.specs.Prelude.{◌≡◌, ℕ, Bool, true, false, List, [], ◌∷◌, Option, Some}
use Rattle.vlt_core.specs.Core.{Ty, a_key, tracked, Entry, Func}
use Rattle.vlt_core.specs.Lookups.{var_type, is_new}
use Rattle.vlt_core.specs.Types.{keys_of_ty}
use Rattle.vlt_core.specs.KindedHeads.{has, head_keys, new_keys}
use Rattle.vlt_core.specs.KindedScopes.{Ids}
use Rattle.vlt_core_laws.specs.Scoped.{is_bound}
use Rattle.vlt_meaning.specs.World.{Value, one, reference, Frame}
use Rattle.vlt_meaning.specs.Step as step
use Rattle.vlt_meaning.specs.Step.{Step}
use Rattle.vlt_meaning.specs.Calls.{entries_after}

-- What is known of a scope without a run: the keys of the types of variables in scope are in scope,
-- and what is in scope was bound, as the keys of the head were.
pub record IsKnownScope (f : Func) (ids : Ids) : Type 0 where
  pub typed : (v k : ℕ) (ty : Ty) → has ids.vars v ≡ true → var_type f v ≡ Some ty →
      has (keys_of_ty ty) k ≡ true → has ids.keys k ≡ true
  pub ever : (k : ℕ) → has ids.keys k ≡ true → has ids.keys_ever k ≡ true
  pub bound : (k : ℕ) → is_bound ids.bound (a_key k) ≡ true → has ids.keys_ever k ≡ true
  pub head : (k : ℕ) → has (head_keys f) k ≡ true → has ids.keys_ever k ≡ true

-- the value is a reference to the object that the key names
pub record IsOfKey (keys : ℕ → Option ℕ) (k : ℕ) (a : Value) : Type 0 where
  pub number : ℕ
  pub is : a ≡ one (reference number)
  pub named : keys k ≡ Some number

-- each reference of these variables that has a value
pub record NamesRight (f : Func) (vars : List ℕ) (s : Frame) : Type 0 where
  pub at : (v k t : ℕ) (args : List ℕ) → has vars v ≡ true →
      var_type f v ≡ Some (tracked k t args) →
      (a : Value) → s.vars v ≡ Some a → IsOfKey s.keys k a

pub record IsInScope (f : Func) (ids : Ids) (s : Frame) : Type 0 where
  pub known : IsKnownScope f ids
  pub names : NamesRight f ids.vars s

-- ---- what is promised of a step

-- From the frame s to s2: the references of these variables are right, and the keys that were bound
-- name what they named.
pub record Arrives (f : Func) (a : Ids) (vars : List ℕ) (s s2 : Frame) : Type 0 where
  pub names : NamesRight f vars s2
  pub kept : (k : ℕ) → has a.keys_ever k ≡ true → s2.keys k ≡ s.keys k

-- what is kept for an entry: the object that its key named, or the one of the reference that is
-- returned
abbrev pub IsKeptBy : (new : Bool) → (keys : ℕ → Option ℕ) → Option Value → (key : ℕ) → ℕ → Type 0
IsKeptBy true keys a k n = a ≡ Some (one (reference n))
IsKeptBy false keys a k n = keys k ≡ Some n

abbrev pub IsKeptFor : (keys : ℕ → Option ℕ) → Option Value → Entry → ℕ → Type 0
IsKeptFor keys a e n = IsKeptBy (is_new e) keys a e.key n

abbrev pub AreKeptFor : (keys : ℕ → Option ℕ) → Option Value → List Entry → List ℕ → Type 0
AreKeptFor keys a [] [] = Unit {0}
AreKeptFor keys a (e ∷ es) (n ∷ ns) = IsKeptFor keys a e n × AreKeptFor keys a es ns
AreKeptFor keys a _ _ = ⊥

-- The function gives back an object for each entry of its clause that is held after the call, and a
-- reference that isn't new is one to what its key names.
pub record IsReturned (f : Func) (keys : ℕ → Option ℕ) (a : Option Value) (kept : List ℕ)
    : Type 0 where
  pub entries : AreKeptFor keys a (entries_after f) kept
  pub result : (k t : ℕ) (args : List ℕ) → f.result ≡ Some (tracked k t args) →
      has (new_keys f) k ≡ false → (b : Value) → a ≡ Some b → IsOfKey keys k b

-- Where the step goes on, these variables are in scope; where it jumps, those that were.
abbrev pub Promise : Func → Ids → (vars : List ℕ) → Frame → Step → Type 0
Promise f a vars s (step.goes s2 w) = Arrives f a vars s s2
Promise f a vars s (step.jumps c s2 w) = Arrives f a a.vars s s2
Promise f a vars s (step.leaves v kept w) = IsReturned f s.keys v kept
Promise f a vars s (step.ends o w) = Unit {0}
