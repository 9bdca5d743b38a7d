-- Things by their numbers, from 0, and the places that hold them.
use Rattle.std.specs.Prelude.{◌≡◌, ◌≢◌, ◌⊎◌, ◌≤◌, ◌<◌, ℕ, zero, suc, Bool, true, false, if◌then◌else◌, List, [], ◌∷◌, ◌++◌, map, length, Option, Some, None, slice_get}
use Rattle.std.specs.List.{count_by}
use Rattle.vlt_base.specs.Parents.{Parents, is_at_or_below}
use Rattle.vlt_rings.specs.declared.places.Mark.TheVariants.{Free, Doomed, Live}
use Rattle.vlt_rings.specs.declared.places.Place.{Place}
use Rattle.vlt_rings.specs.declared.places.Places.{Places}
use Rattle.vlt_rings.specs.Places.{count_of, IsMarked}
pub use Rattle.vlt_rings.specs.Places.{IsFresh, IsSettled}

-- where a thing is, and the number of its parent
pub record Thing : Type 0 where
  pub place : ℕ
  pub parent : Option ℕ

-- by number; a thing that is gone isn't there
abbrev pub Things : Type 0
Things = List (Option Thing)

abbrev pub IsAt : Things → ℕ → Thing → Type 0
IsAt ts n t = slice_get ts n ≡ Some (Some t)

abbrev pub is_there : Option Thing → Bool
is_there None = false
is_there (Some t) = true

abbrev pub count_things : Things → ℕ
count_things = count_by is_there

abbrev pub parent_of : Option Thing → Option ℕ
parent_of None = None
parent_of (Some t) = t.parent

-- what is gone has no parent
abbrev pub parents_of : Things → Parents
parents_of = map parent_of

-- how many things can be there at a time
abbrev pub budget_of : Places → ℕ
budget_of h = h.budget

-- how many things were made
abbrev pub made_in : Places → ℕ
made_in h = h.made

-- how many places there are, which is as many as were needed at a time
abbrev pub places_in : Places → ℕ
places_in h = length h.places.items

-- the number of the parent, and its place; while a release is under way the parent may be doomed
abbrev pub ParentIs : List Place → (place number : Option ℕ) → Type 0
ParentIs ps None None = Unit {0}
ParentIs ps None (Some m) = ⊥
ParentIs ps (Some q) None = ⊥
ParentIs ps (Some q) (Some m) = (p : Place) × (slice_get ps q ≡ Some p) × (p.number ≡ m) × (p.mark ≢ Free)

pub record IsShown (ps : List Place) (ts : Things) (n : ℕ) (t : Thing) : Type 0 where
  pub what : Place
  pub at : slice_get ps t.place ≡ Some what
  pub number : what.number ≡ n
  pub live : what.mark ≡ Live
  pub parent : ParentIs ps what.parent t.parent

pub record IsKnown (ts : Things) (c n : ℕ) : Type 0 where
  pub thing : Thing
  pub at : IsAt ts n thing
  pub place : thing.place ≡ c

-- the places hold these things
pub record Hold (ps : List Place) (ts : Things) : Type 0 where
  pub shown : (n : ℕ) (t : Thing) → IsAt ts n t → IsShown ps ts n t
  pub known : (c : ℕ) (p : Place) → slice_get ps c ≡ Some p → p.mark ≡ Live → IsKnown ts c p.number
  pub count : count_of ps ≡ count_things ts

-- these are all things that were made
pub record Holds (h : Places) (ts : Things) : Type 0 where
  pub hold : Hold h.places.items ts
  pub made : length ts ≡ h.made

-- ---- what calls ask and do

-- the place has a thing
abbrev pub IsLiveAt : Places → ℕ → Type 0
IsLiveAt h c = IsMarked Live h.places.items c

-- the thing in the place has no parent, or it has one
abbrev pub IsLoneAt : Places → ℕ → Type 0
IsLoneAt h c = (p : Place) → slice_get h.places.items c ≡ Some p → p.parent ≡ None

abbrev pub IsHungAt : Places → ℕ → Type 0
IsHungAt h c = (p : Place) → slice_get h.places.items c ≡ Some p → p.parent ≢ None

-- a thing of this number was made there, which may be gone
pub record IsMadeAt (ts : Things) (c n : ℕ) : Type 0 where
  pub made : n < length ts
  pub place : (t : Thing) → IsAt ts n t → t.place ≡ c

-- what was made before is still known
abbrev pub KeepMade : (old new : Things) → Type 0
KeepMade old new = (c n : ℕ) → IsMadeAt old c n → IsMadeAt new c n

abbrev pub IsThereOrGone : Bool → Things → (n c : ℕ) → Type 0
IsThereOrGone true ts n c = IsKnown ts c n
IsThereOrGone false ts n c = slice_get ts n ≡ Some None

-- the place and the number of the thing's parent
pub record IsParentAt (ts : Things) (t : Thing) (c n : ℕ) : Type 0 where
  pub number : t.parent ≡ Some n
  pub made : IsMadeAt ts c n

abbrev pub IsParentOf : Things → Thing → Option (ℕ × ℕ) → Type 0
IsParentOf ts t None = t.parent ≡ None
IsParentOf ts t (Some r) = IsParentAt ts t r.0 r.1

-- a new thing without a parent is at the place
pub record IsMade (ts : Things) (c : ℕ) (old new : Places) : Type 0 where
  pub room : count_things ts < old.budget
  pub holds : Holds new (ts ++ Some (record { place = c; parent = None }) ∷ [])

abbrev pub IsMadeOrFull : Option ℕ → Things → (old new : Places) → Type 0
IsMadeOrFull None ts old new = old.budget ≤ count_things ts
IsMadeOrFull (Some c) ts old new = IsMade ts c old new

-- the thing n and all below it are gone, and all else is as before
pub record AreReleased (old : Things) (n : ℕ) (new : Places) : Type 0 where
  pub things : Things
  pub holds : Holds new things
  pub long : length things ≡ length old
  pub each : (k : ℕ) (t : Option Thing) → slice_get old k ≡ Some t
      → slice_get things k ≡ Some (if is_at_or_below (parents_of old) (n ∷ []) k then None else t)

-- ---- how a release is proved

-- a chain of so many parents leads from k to n
abbrev pub Leads : Things → (n steps k : ℕ) → Type 0
Leads ts n zero k = k ≡ n
Leads ts n (suc s) k = (t : Thing) × (m : ℕ) × IsAt ts k t × (t.parent ≡ Some m) × Leads ts n s m

pub record IsBelow (ts : Things) (n k : ℕ) : Type 0 where
  pub steps : ℕ
  pub chain : Leads ts n steps k

-- a release of n is under way
pub record Releasing (old : Things) (n : ℕ) (ps : List Place) (ts : Things) : Type 0 where
  pub hold : Hold ps ts
  pub long : length ts ≡ length old
  pub kept : (k : ℕ) → (slice_get ts k ≡ slice_get old k) ⊎ ((slice_get ts k ≡ Some None) × IsBelow old n k)
  pub doomed : (c : ℕ) (p : Place) → slice_get ps c ≡ Some p → p.mark ≡ Doomed → IsBelow old n p.number
  pub root : slice_get ts n ≡ Some None
