-- What references stand for: objects of a type, and objects that a guard's object adopted.
use Rattle.std.specs.Prelude.{◌≡◌, ◌⊎◌, ℕ, ◌<◌, List, [], ◌∷◌, length, Option}
use Rattle.vlt_meaning.specs.World.{gone, adopted_by, Object}
use Rattle.vlt_sound_worlds.specs.Look.{look}
use Rattle.vlt_sound_worlds.specs.Members.{In}

-- A focus that isn't ended: the guard's object is lent under a key of the frame at a depth, for the other one.
pub record Focus : Type 0 where
  pub depth : ℕ
  pub guard_key : ℕ
  pub guard : ℕ
  pub number : ℕ

-- The objects, for each the objects that stood for its type's header when it was made, and the open foci.
pub record Scene : Type 0 where
  pub objects : List Object
  pub heads : ℕ → List (Option ℕ)
  pub foci : List Focus

-- an object of a type under these heads, whatever has become of it
pub record IsOf (s : Scene) (type : ℕ) (heads : List (Option ℕ)) (n : ℕ) : Type 0 where
  pub within : n < length s.objects
  pub typed : (look s.objects n).type ≡ type
  pub headed : s.heads n ≡ heads

abbrev pub IsFocusOn : List Focus → (guard number : ℕ) → Type 0
IsFocusOn [] g n = ⊥
IsFocusOn (f ∷ fs) g n = ((f.guard ≡ g) × (f.number ≡ n)) ⊎ IsFocusOn fs g n

pub record HasEnded (s : Scene) (g : ℕ) : Type 0 where
  pub within : g < length s.objects
  pub gone : (look s.objects g).owner ≡ gone

-- What a reference that g guards stands for: g is released, or it has adopted the object, or it is lent for a focus on
-- it.
abbrev pub IsGuardedBy : Scene → (guard number : ℕ) → Type 0
IsGuardedBy s g n = HasEnded s g ⊎ (((look s.objects n).owner ≡ adopted_by g) ⊎ IsFocusOn s.foci g n)

-- What references stand for isn't lost.
pub record Grows (s s' : Scene) : Type 0 where
  pub kinds : (t : ℕ) (hs : List (Option ℕ)) (n : ℕ) → IsOf s t hs n → IsOf s' t hs n
  pub guards : (g n : ℕ) → IsGuardedBy s g n → IsGuardedBy s' g n

-- the objects of a list are in the states that they were in, and of the types
pub record SameStates (s s' : Scene) (ns : List ℕ) : Type 0 where
  pub state : (n : ℕ) → In n ns → (look s'.objects n).state ≡ (look s.objects n).state
  pub type : (n : ℕ) → In n ns → (look s'.objects n).type ≡ (look s.objects n).type
