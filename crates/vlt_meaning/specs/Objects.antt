-- Tests and changes of the list of all objects.
use Rattle.std.specs.Prelude.{ℕ, Bool, ◌||◌, not, if◌then◌else◌, List, [], ◌∷◌, map, Option, Some, None, Ok, Err, slice_get, slice_set}
use Rattle.std.specs.List.{list_all, enumerate_from}
use Rattle.vlt_base.specs.Parents.{Parents, is_at_or_below}
use Rattle.vlt_core.specs.Core.{States, Program}
use Rattle.vlt_core.specs.Lookups.{release_set}
use Rattle.vlt_meaning.specs.World.{Value, Owner, Object, gone, above, fault, missing, not_owned, wrong_state}
use Rattle.vlt_meaning.specs.Found.{Found, ◌>>=◌, Named, if_so}

abbrev pub named_in : (n : ℕ) → Option Object → Found Named
named_in n None = Err (fault missing (Some n))
named_in n (Some o) = Ok (record { number = n; object = o })

abbrev pub object_at : List Object → (n : ℕ) → Found Named
object_at objects n = named_in n (slice_get objects n)

abbrev pub in_states : States → Named → Found Named
in_states states n = if_so (states n.object.state) wrong_state n

-- the object at a position, whose owner passes the test
abbrev pub owned_at : (Owner → Bool) → List Object → (n : ℕ) → Found Named
owned_at from objects n = do
  m ← object_at objects n
  if_so (from m.object.owner) not_owned m

abbrev pub with_owner : Owner → Object → Object
with_owner owner o = record o { owner = owner }

abbrev pub with_state : (state : ℕ) → Object → Object
with_state s o = record o { state = s }

abbrev pub with_cell : (position : ℕ) → Value → Object → Object
with_cell i a o = record o { cells = slice_set o.cells i a }

abbrev pub changed_in : (n : ℕ) → (Object → Object) → List Object → Option Object → List Object
changed_in n change objects None = objects
changed_in n change objects (Some o) = slice_set objects n (change o)

-- the objects with the one at a position changed
abbrev pub with_changed_object : (n : ℕ) → (Object → Object) → List Object → List Object
with_changed_object n change objects = changed_in n change objects (slice_get objects n)

-- The objects at these positions get a new owner, one after another. Each has to pass the test when its turn comes.
abbrev pub objects_after_move : (Owner → Bool) → Owner → List ℕ → List Object → Found (List Object)
objects_after_move from to [] objects = Ok objects
objects_after_move from to (n ∷ ns) objects = do
  m ← owned_at from objects n
  objects_after_move from to ns (with_changed_object n (with_owner to) objects)

-- ---- what is below an object

-- the object that each object is in or was adopted by
abbrev pub parents_of : List Object → Parents
parents_of = map (λ o. above o.owner)

-- the object is a root or below one
abbrev pub is_under : List Object → (roots : List ℕ) → (n : ℕ) → Bool
is_under objects roots n = is_at_or_below (parents_of objects) roots n

abbrev pub with_numbers : List Object → List (ℕ × Object)
with_numbers objects = enumerate_from 0 objects

-- the object, and each one below it, is in a state of its own release set
abbrev pub is_releasable : Program → List Object → (n : ℕ) → Bool
is_releasable p objects n =
    list_all (λ q. not (is_under objects (n ∷ []) q.0) || release_set p q.1.type q.1.state) (with_numbers objects)

-- the object and all below it are released
abbrev pub objects_after_release : (n : ℕ) → List Object → List Object
objects_after_release n objects =
    map (λ q. if is_under objects (n ∷ []) q.0 then with_owner gone q.1 else q.1) (with_numbers objects)
