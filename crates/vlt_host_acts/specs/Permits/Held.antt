-- What is seen of the table of what a host holds.
use Rattle.std.specs.Prelude.{◌≡◌, ℕ, min, List, length, vec_capacity}
use Rattle.vlt_host_acts.specs.declared.permits.held.Held.{Held}
use Rattle.vlt_host_acts.specs.Permits.Numbers.{IsAscending}

-- the numbers of the objects, from 0
abbrev pub numbers_in : Held → List ℕ
numbers_in h = h.numbers.items

-- for how many objects there is room
abbrev pub room_in : Held → ℕ
room_in h = min (vec_capacity h.numbers) (vec_capacity h.places)

-- they ascend, and each has a place
pub record IsSound (h : Held) : Type 0 where
  pub ascending : IsAscending h.numbers.items
  pub places : length h.places.items ≡ length h.numbers.items
