-- The notes of a function as a certificate has them: maps by the numbers of its statements.
use Rattle.std.specs.Prelude.{ℕ, ◌==◌, Bool, true, false, if◌then◌else◌, List, [], ◌∷◌, Option, Some, None}
use Rattle.cert_rows.specs.Rows.{Maps}

-- Statements are numbered from 0, each before those inside it. A loop has the maps at its head and
-- those after it, a choice those after it; one for each instance.
pub data Note : Type 0 where
  at_loop : ℕ → (around exit : Maps) → Note
  at_join : ℕ → Maps → Note

-- ---- by number

-- the maps at the head of a loop, and those after a loop or a choice
pub record MapNotes : Type 0 where
  pub around : ℕ → Maps
  pub following : ℕ → Maps

abbrev pub around_of : List Note → ℕ → Maps
around_of [] n = []
around_of (at_loop m around exit ∷ notes) n = if m == n then around else around_of notes n
around_of (at_join m maps ∷ notes) n = around_of notes n

abbrev pub following_of : List Note → ℕ → Maps
following_of [] n = []
following_of (at_loop m around exit ∷ notes) n = if m == n then exit else following_of notes n
following_of (at_join m maps ∷ notes) n = if m == n then maps else following_of notes n

abbrev pub maps_of : List Note → MapNotes
maps_of notes = record { around = around_of notes; following = following_of notes }

-- ---- of a choice that ends there are none, and 0 stands in their place

abbrev pub join_of : (ends : Bool) → Maps → Option Maps
join_of true m = None
join_of false m = Some m

abbrev pub join_note : ℕ → Option Maps → List Note
join_note n None = []
join_note n (Some m) = at_join n m ∷ []
