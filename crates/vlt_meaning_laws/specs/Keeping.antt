-- What a step keeps of the world that it began with.
use Rattle.std.specs.Prelude.{◌≡◌, ℕ, ◌≤◌, ℤ, List, ◌++◌, Option, Some, slice_get}
use Rattle.vlt_meaning.specs.World.{Object, World, Event}
use Rattle.vlt_meaning.specs.Step.{Step, goes, jumps, leaves, ends}

-- the world that a step comes to
abbrev pub world_after : Step → World
world_after (goes frame w) = w
world_after (jumps c frame w) = w
world_after (leaves a kept w) = w
world_after (ends o w) = w

-- there is an object, of this type
pub record HasType (found : Option Object) (type : ℕ) : Type 0 where
  pub object : Object
  pub at : found ≡ Some object
  pub same : object.type ≡ type

-- each object stands at its position still, and has its type
pub record KeepsObjects (before after : List Object) : Type 0 where
  pub each : (n : ℕ) (o : Object) → slice_get before n ≡ Some o → HasType (slice_get after n) o.type

-- What holds of the world before and the one after whatever was done: no fuel is won, events are only added, answers
-- and input are only taken, and no object is taken out, numbered anew or of another type.
pub record IsLater (before after : World) : Type 0 where
  pub fuel : after.fuel ≤ before.fuel
  pub events : List Event
  pub added : after.events ≡ before.events ++ events
  pub taken : before.taken ≤ after.taken
  pub read : List ℤ
  pub input : before.input ≡ read ++ after.input
  pub objects : KeepsObjects before.objects after.objects
