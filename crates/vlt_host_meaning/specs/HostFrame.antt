-- The host as a caller: a frame of depth 0 that has, for each object that the host holds, a key and a variable with a reference.
-- Both have the object's own position for their number, so the objects alone say what the host holds.
use Rattle.std.specs.Prelude.{ℕ, Bool, false, if◌then◌else◌, List, Option, None, Some, slice_get, filter}
use Rattle.vlt_meaning.specs.World.{reference, Value, one, Object, is_held_under, Frame}
use Rattle.vlt_meaning.specs.Objects.{with_numbers}

abbrev pub holds_in : (n : ℕ) → Option Object → Bool
holds_in n None = false
holds_in n (Some o) = is_held_under 0 n o.owner

-- the host holds the object at this position
abbrev pub host_holds : List Object → (n : ℕ) → Bool
host_holds objects n = holds_in n (slice_get objects n)

-- the objects that the host holds, each with its position
abbrev pub held_objects : List Object → List (ℕ × Object)
held_objects objects = filter (λ q. host_holds objects q.0) (with_numbers objects)

abbrev pub host_key : List Object → (k : ℕ) → Option ℕ
host_key objects k = if host_holds objects k then Some k else None

abbrev pub host_var : List Object → (v : ℕ) → Option Value
host_var objects v = if host_holds objects v then Some (one (reference v)) else None

abbrev pub host_frame : List Object → Frame
host_frame objects = record { depth = 0; vars = host_var objects; keys = host_key objects }
