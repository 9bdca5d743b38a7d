-- Objects by their numbers, from 0, as the heap knows them, and what the calls do to them.
use Rattle.std.specs.Prelude.{◌≡◌, ◌<◌, ℕ, suc, nat_le, Bool, true, false, ◌||◌, if◌then◌else◌, List, [], ◌∷◌, length, map, replicate, Option, Some, None, pos, slice_get, slice_set}
use Rattle.std.specs.List.{count_by}
use Rattle.vlt_base.specs.Parents.{Parents, is_at_or_below}
use Rattle.vlt_meaning.specs.World.{max_made}
use Rattle.vlt_heap.specs.declared.slots.Slot.{Slot}
use Rattle.vlt_heap.specs.declared.slots.Slot.TheVariants.{Number}

-- a live object, and the place that it has
pub record Item : Type 0 where
  pub place : ℕ
  pub type : ℕ
  pub state : ℕ
  -- the number of the object that it is in or that adopted it
  pub parent : Option ℕ
  pub is_out : Bool
  pub slots : List Slot

-- an object that is gone isn't there
abbrev pub Items : Type 0
Items = List (Option Item)

abbrev pub IsAt : Items → (number : ℕ) → Item → Type 0
IsAt items n o = slice_get items n ≡ Some (Some o)

abbrev pub is_there : Option Item → Bool
is_there None = false
is_there (Some o) = true

abbrev pub live_count : Items → ℕ
live_count = count_by is_there

-- no object can be made
abbrev pub is_full : (budget : ℕ) → Items → Bool
is_full budget items = nat_le budget (live_count items) || nat_le max_made (length items)

-- ---- changes

abbrev pub new_item : (width type place : ℕ) → Item
new_item width t c =
    record { place = c; type = t; state = 0; parent = None; is_out = false; slots = replicate width (Number (pos 0)) }

abbrev pub with_slot : (i : ℕ) → Slot → Item → Item
with_slot i a o = record o { slots = slice_set o.slots i a }

abbrev pub with_state : ℕ → Item → Item
with_state s o = record o { state = s }

abbrev pub with_parent : Option ℕ → Item → Item
with_parent p o = record o { parent = p }

abbrev pub with_out : Bool → Item → Item
with_out b o = record o { is_out = b }

-- the object of this number is this one now
abbrev pub with_item : (number : ℕ) → Item → Items → Items
with_item n o items = slice_set items n (Some o)

abbrev pub parent_of : Option Item → Option ℕ
parent_of None = None
parent_of (Some o) = o.parent

-- what is gone has no parent
abbrev pub parents_of : Items → Parents
parents_of = map parent_of

abbrev pub without_from : (gone : ℕ → Bool) → (number : ℕ) → Items → Items
without_from gone k [] = []
without_from gone k (x ∷ xs) = (if gone k then None else x) ∷ without_from gone (suc k) xs

-- the object of this number is gone, and all below it
abbrev pub without : (number : ℕ) → Items → Items
without n items = without_from (is_at_or_below (parents_of items) (n ∷ [])) 0 items

-- ---- what was made

-- an object of this number was made at the place, which may be gone
pub record IsMadeAt (items : Items) (c n : ℕ) : Type 0 where
  pub made : n < length items
  pub place : (o : Item) → IsAt items n o → o.place ≡ c
