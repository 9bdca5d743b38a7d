-- Places for things, sorted into rings.
use Rattle.std.specs.Prelude.{◌≡◌, ◌≢◌, ◌⊎◌, ◌≤◌, ◌<◌, ◌+◌, ◌*◌, ◌^◌, ℕ, Bool, true, false, List, [], ◌∷◌, ◌++◌, length, Option, Some, None, slice_get, slice_set, vec_capacity}
use Rattle.std.specs.List.{count_by}
use Rattle.vlt_rings.specs.Rings.{IsRing, IsWhole, IsUnlinked, IsInserted, next_of, back_of, room_of}
use Rattle.vlt_rings.specs.declared.places.Mark.{Mark}
use Rattle.vlt_rings.specs.declared.places.Mark.TheVariants.{Free, Doomed, Live}
use Rattle.vlt_rings.specs.declared.places.Place.{Place}
use Rattle.vlt_rings.specs.declared.places.Places.{Places}

-- nodes: 0 begins the ring of free places, 1 that of the doomed ones, and for the place c a node begins the ring of
-- its children, and another stands for it
abbrev pub head : ℕ → ℕ
head c = 2 * c + 2

abbrev pub member : ℕ → ℕ
member c = 2 * c + 3

abbrev pub child_home : Option ℕ → Option ℕ
child_home None = None
child_home (Some q) = Some (head q)

abbrev pub home_by : Mark → Option ℕ → Option ℕ
home_by Free parent = Some 0
home_by Doomed parent = Some 1
home_by Live parent = child_home parent

-- the ring in which a place stands, if it doesn't stand alone
abbrev pub home : Place → Option ℕ
home p = home_by p.mark p.parent

abbrev pub IsIn : ℕ → List ℕ → Type 0
IsIn x [] = ⊥
IsIn x (y ∷ ys) = (y ≡ x) ⊎ IsIn x ys

pub record IsMember (ps : List Place) (h x : ℕ) : Type 0 where
  pub place : ℕ
  pub what : Place
  pub is : x ≡ member place
  pub at : slice_get ps place ≡ Some what
  pub home : home what ≡ Some h

-- the ring that begins at h has the places whose home it is
pub record HasMembers (ps : List Place) (next : List ℕ) (h : ℕ) : Type 0 where
  pub nodes : List ℕ
  pub ring : IsRing next h nodes
  pub are : (x : ℕ) → IsIn x nodes → IsMember ps h x
  pub all : (c : ℕ) (p : Place) → slice_get ps c ≡ Some p → home p ≡ Some h → IsIn (member c) nodes

abbrev pub IsHead : ℕ → Type 0
IsHead h = (c : ℕ) → h ≢ member c

pub record AreSorted (ps : List Place) (next : List ℕ) : Type 0 where
  pub heads : (h : ℕ) → IsHead h → h ≤ 2 * length ps + 1 → HasMembers ps next h
  pub alone : (c : ℕ) (p : Place) → slice_get ps c ≡ Some p → home p ≡ None → IsRing next (member c) []

-- each parent is a place
abbrev pub HaveParents : List Place → Type 0
HaveParents ps = (c q : ℕ) (p : Place) → slice_get ps c ≡ Some p → p.parent ≡ Some q → q < length ps

abbrev pub is_live : Mark → Bool
is_live Free = false
is_live Doomed = false
is_live Live = true

-- how many places have a thing
abbrev pub count_of : List Place → ℕ
count_of = count_by (λ p. is_live p.mark)

-- the places are sorted, and there is room for as many as the budget has
pub record IsSound (h : Places) : Type 0 where
  pub sorted : AreSorted h.places.items (next_of h.rings)
  pub whole : IsWhole h.rings
  pub long : length (next_of h.rings) ≡ 2 * length h.places.items + 2
  pub parents : HaveParents h.places.items
  pub few : h.budget < 2 ^ 30
  pub within : length h.places.items ≤ h.budget
  pub places_room : h.budget ≤ vec_capacity h.places
  pub rings_room : 2 * h.budget + 2 ≤ room_of h.rings
  pub count : h.live ≡ count_of h.places.items

-- the place stands in the ring that begins at h
pub record StandsIn (ps : List Place) (h c : ℕ) : Type 0 where
  pub what : Place
  pub at : slice_get ps c ≡ Some what
  pub home : home what ≡ Some h

abbrev pub HasNone : List Place → ℕ → Type 0
HasNone ps h = (c : ℕ) (p : Place) → slice_get ps c ≡ Some p → home p ≢ Some h

-- no place is about to be freed
pub record IsSettled (h : Places) : Type 0 where
  pub sound : IsSound h
  pub quiet : HasNone h.places.items 1

-- one place was changed so
abbrev pub WasSet : (Place → Place) → ℕ → List Place → List Place → Type 0
WasSet change c old new = (p : Place) → slice_get old c ≡ Some p → new ≡ slice_set old c (change p)

-- a node was taken out of its ring, and then it was put after h
pub record IsMoved (h i : ℕ) (old new : List ℕ) : Type 0 where
  pub between : List ℕ
  pub unlinked : IsUnlinked i old between
  pub inserted : IsInserted h i between new

pub record IsMarked (mark : Mark) (ps : List Place) (c : ℕ) : Type 0 where
  pub what : Place
  pub at : slice_get ps c ≡ Some what
  pub is : what.mark ≡ mark

-- there is one free place more
pub record WasPushed (old new : List Place) : Type 0 where
  pub what : Place
  pub is : new ≡ old ++ what ∷ []
  pub free : what.mark ≡ Free

-- as many places, and as many things made
pub record IsSameBut (old new : Places) : Type 0 where
  pub places : length new.places.items ≡ length old.places.items
  pub made : new.made ≡ old.made
  pub budget : new.budget ≡ old.budget

-- no thing was made yet, and there is room for as many as the budget has
pub record IsFresh (h : Places) : Type 0 where
  pub places : length h.places.items ≡ 0
  pub next : next_of h.rings ≡ 0 ∷ 1 ∷ []
  pub back : back_of h.rings ≡ 0 ∷ 1 ∷ []
  pub live : h.live ≡ 0
  pub made : h.made ≡ 0
  pub few : h.budget < 2 ^ 30
  pub places_room : h.budget ≤ vec_capacity h.places
  pub rings_room : 2 * h.budget + 2 ≤ room_of h.rings
