-- When a key's status in a held map tells the truth about the objects.
use Rattle.std.specs.Prelude.{◌≡◌, ℕ, IsTrue, Option, None, Some}
use Rattle.vlt_core.specs.Core.{States}
use Rattle.vlt_core.specs.Maps.{Status, absent, held, lent, full}
use Rattle.vlt_meaning.specs.World as world
use Rattle.vlt_meaning.specs.World.{Owner, Object}

abbrev pub IsOfType : Option ℕ → (type : ℕ) → Type 0
IsOfType None t = Unit {0}
IsOfType (Some wanted) t = t ≡ wanted

-- the object under a key is the one that the key names, and of the key's type if it has one
pub record IsNamed (type name : Option ℕ) (o : Object) (n : ℕ) : Type 0 where
  pub named : name ≡ Some n
  pub typed : IsOfType type o.type

abbrev pub AllowsHeld : Status → (state : ℕ) → Type 0
AllowsHeld (held states) s = IsTrue (states s)
AllowsHeld _ s = ⊥

abbrev pub AllowsLent : Status → (state : ℕ) → Type 0
AllowsLent (lent states) s = IsTrue (states s)
AllowsLent _ s = ⊥

-- the object that a key names has this owner
pub record NamesOwned (name : Option ℕ) (os : ℕ → Object) (owner : Owner) : Type 0 where
  pub number : ℕ
  pub named : name ≡ Some number
  pub owned : (os number).owner ≡ owner

abbrev pub HasKey : Status → (depth key : ℕ) → (name : Option ℕ) → (ℕ → Object) → Type 0
HasKey absent d k name os = Unit {0}
HasKey (held states) d k name os = NamesOwned name os (world.held d k)
HasKey (lent states) d k name os = NamesOwned name os (world.lent d k)
HasKey full d k name os = ⊥

-- what is under a key of the frame at this depth is what the key's status says
pub record KeyAgrees (type : Option ℕ) (status : Status) (depth key : ℕ) (name : Option ℕ)
    (os : ℕ → Object) : Type 0 where
  pub held : (n : ℕ) → (os n).owner ≡ world.held depth key → IsNamed type name (os n) n × AllowsHeld status (os n).state
  pub lent : (n : ℕ) → (os n).owner ≡ world.lent depth key → IsNamed type name (os n) n × AllowsLent status (os n).state
  pub has : HasKey status depth key name os

-- an object is under a key of the frame at a depth
abbrev pub IsUnder : (depth key : ℕ) → Owner → Type 0
IsUnder d k (world.held e j) = (e ≡ d) × (j ≡ k)
IsUnder d k (world.lent e j) = (e ≡ d) × (j ≡ k)
IsUnder d k _ = ⊥

-- an object is as it was but for its cells
pub record IsSameObject (old new : Object) : Type 0 where
  pub owner : new.owner ≡ old.owner
  pub type : new.type ≡ old.type
  pub state : new.state ≡ old.state

-- what was under the key and what is now is the same
pub record SameUnder (depth key : ℕ) (old new : ℕ → Object) : Type 0 where
  pub to : (m : ℕ) → IsUnder depth key (old m).owner → (new m).owner ≡ (old m).owner
  pub back : (m : ℕ) → IsUnder depth key (new m).owner → IsSameObject (old m) (new m)

-- one object has this owner, which stands for a key, and no other is under the key
pub record IsOnly (owner : Owner) (type : Option ℕ) (states : States) (depth key : ℕ) (name : Option ℕ)
    (os : ℕ → Object) : Type 0 where
  pub number : ℕ
  pub named : name ≡ Some number
  pub owned : (os number).owner ≡ owner
  pub typed : IsOfType type (os number).type
  pub state : IsTrue (states (os number).state)
  pub only : (m : ℕ) → IsUnder depth key (os m).owner → m ≡ number
