-- What a run works on, and what comes of it.
use Rattle.std.specs.Prelude.{ℕ, ◌+◌, ◌==◌, nat_le, ℤ, pos, Bool, true, false, ◌&&◌, ◌||◌, not, List, [], ◌∷◌, ◌++◌, length, Option, Some, None, codes}
use Rattle.std.specs.List.{flat_map, count_by}
use Rattle.std.specs.Fmt.{signed_decimal}
use Rattle.vlt_ops.specs.declared.TrapKind.{TrapKind}

-- ---- values. An object goes by its position in the list of all objects.

-- A number, where a bool is 0 or 1; a reference, tracked or guarded, that may be copied; or an object that the value
-- owns.
pub data Part : Type 0 where
  number : ℤ → Part
  reference : (n : ℕ) → Part
  owned : (n : ℕ) → Part

-- a value of a variant has its case, its payload, and the objects of its case's keys
pub data Value : Type 0 where
  one : Part → Value
  of_case : (case : ℕ) → List Part → (keys : List ℕ) → Value

abbrev pub objects_in_part : Part → List ℕ
objects_in_part (owned n) = n ∷ []
objects_in_part _ = []

-- the objects that a value owns
abbrev pub objects_in : Value → List ℕ
objects_in (one a) = objects_in_part a
objects_in (of_case c parts keys) = flat_map objects_in_part parts ++ keys

-- ---- objects

-- who has an object
pub data Owner : Type 0 where
  -- the running function at this depth, under a key; lent is what an open focus has
  held : (depth key : ℕ) → Owner
  lent : (depth key : ℕ) → Owner
  -- a value that owns it
  loose : Owner
  -- an owning field of an object
  inside : (n : ℕ) → Owner
  -- the object that adopted it
  adopted_by : (n : ℕ) → Owner
  -- the host
  out : Owner
  -- nobody, since it was released
  gone : Owner

pub record Object : Type 0 where
  pub type : ℕ
  pub state : ℕ
  pub cells : List Value
  pub owner : Owner

abbrev pub is_gone : Owner → Bool
is_gone gone = true
is_gone _ = false

abbrev pub is_out : Owner → Bool
is_out out = true
is_out _ = false

abbrev pub is_loose : Owner → Bool
is_loose loose = true
is_loose _ = false

abbrev pub is_inside : ℕ → Owner → Bool
is_inside n (inside m) = n == m
is_inside n _ = false

abbrev pub is_adopted_by : ℕ → Owner → Bool
is_adopted_by n (adopted_by m) = n == m
is_adopted_by n _ = false

abbrev pub is_held_under : (depth key : ℕ) → Owner → Bool
is_held_under d k (held e j) = d == e && k == j
is_held_under d k _ = false

abbrev pub is_lent_under : (depth key : ℕ) → Owner → Bool
is_lent_under d k (lent e j) = d == e && k == j
is_lent_under d k _ = false

-- the frame at this depth has it, held or lent
abbrev pub is_at : (depth : ℕ) → Owner → Bool
is_at d (held e j) = d == e
is_at d (lent e j) = d == e
is_at d _ = false

-- the object that an object is in or was adopted by
abbrev pub above : Owner → Option ℕ
above (inside n) = Some n
above (adopted_by n) = Some n
above _ = None

-- ---- events

pub data Event : Type 0 where
  printed : ℤ → Event
  -- a call of an external with its arguments
  called : (name : List ℕ) → List Value → Event

-- an object's number is one more than its position
abbrev pub object_text : ℕ → List ℕ
object_text n = codes " #" ++ signed_decimal (pos (n + 1))

abbrev pub part_text : Part → List ℕ
part_text (number z) = codes " " ++ signed_decimal z
part_text (reference n) = object_text n
part_text (owned n) = object_text n

-- no variant is handed to an external
abbrev pub argument_text : Value → List ℕ
argument_text (one a) = part_text a
argument_text (of_case c parts keys) = []

abbrev pub line_of : Event → List ℕ
line_of (printed z) = signed_decimal z ++ codes "\n"
line_of (called name args) = codes "@" ++ name ++ flat_map argument_text args ++ codes "\n"

abbrev pub event_text : List Event → List ℕ
event_text = flat_map line_of

-- ---- the world

-- Objects stand in order of creation, and none is ever taken out. `taken` counts the answers that were taken.
pub record World : Type 0 where
  pub objects : List Object
  pub fuel : ℕ
  pub input : List ℤ
  pub answers : List (List ℤ)
  pub taken : ℕ
  pub events : List Event

-- objects that aren't released
abbrev pub live_count : List Object → ℕ
live_count = count_by (λ o. not (is_gone o.owner))

-- how many objects a run makes at most, so that the numbers of all of them, from 1, are of 64-bit range
abbrev pub max_made : ℕ
max_made = 9223372036854775807

-- no object can be made
abbrev pub is_full : (heap : ℕ) → List Object → Bool
is_full heap objects = nat_le heap (live_count objects) || nat_le max_made (length objects)

-- A running function: its depth, the value of each variable that has one, and the object that each key names.
pub record Frame : Type 0 where
  pub depth : ℕ
  pub vars : ℕ → Option Value
  pub keys : ℕ → Option ℕ

-- ---- outcomes

-- why a step can't be done
pub data Reason : Type 0 where
  -- there is no such variable, key, field, case, function or object, or it is of another kind
  missing : Reason
  -- a variable has no value, or a key names no object
  no_value : Reason
  -- an owning variable has a value already
  not_empty : Reason
  -- the object isn't held, or isn't lent, under its key
  not_held : Reason
  -- the object isn't the one that the key names
  other_object : Reason
  -- the guard's object didn't adopt it
  not_guarded : Reason
  -- it is in no state that the step allows
  wrong_state : Reason
  -- it isn't in the value or the field that it is taken out of
  not_owned : Reason
  -- an object would adopt itself
  same_object : Reason
  -- a block or a function ends while it has an object
  left_behind : Reason
  -- a body ends without a return
  no_return : Reason

-- how a run ends
pub data Outcome : Type 0 where
  done : Outcome
  trap : TrapKind → Outcome
  fuel_end : Outcome
  heap_end : Outcome
  depth_end : Outcome
  input_end : Outcome
  answers_end : Outcome
  -- the answer at this position, from 1, doesn't keep its external's clause
  bad_answer : (position : ℕ) → Outcome
  -- a step can't be done, at this object where there is one
  fault : Reason → (object : Option ℕ) → Outcome

abbrev pub is_fault : Outcome → Bool
is_fault (fault reason object) = true
is_fault _ = false

-- a whole run: how it ends, the objects that main's clause holds then, and the world
pub record Ran : Type 0 where
  pub outcome : Outcome
  pub kept : List ℕ
  pub world : World
