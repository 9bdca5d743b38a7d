-- The frame of a function that a host calls.
use Rattle.std.specs.Prelude.{◌≡◌, ◌<◌, ℕ, true, List, map, length, slice_get, vec_capacity}
use Rattle.vlt_core.specs.Core.{Func}
use Rattle.vlt_core.specs.KindedHeads.{parameters_of}
use Rattle.vlt_meaning.specs.World.{Part, reference, Object}
use Rattle.vlt_meaning.specs.World as world
use Rattle.vlt_meaning.specs.Calls.{callee_frame}
use Rattle.vlt_acts.specs.declared.values.values.Values.{Values}
use Rattle.vlt_acts.specs.Values.Shown.{ShowsFrame, key_at}
use Rattle.vlt_host_meaning.specs.Calls.{Argument, number, object, value_of_argument}
use Rattle.vlt_host_meaning.specs.HostFrame.{host_frame}
use Rattle.vlt_host_meaning.specs.Permitted.{arguments_fit, host_keys}
use Rattle.vlt_host_acts.specs.declared.permits.hosted.Hosted.{Hosted}
use Rattle.vlt_host_acts.specs.Permits.Hosted.{ShowsHosted}

-- the frame of the function is shown, of whatever objects in which the arguments fit
abbrev pub ShowsCalled : Hosted → Func → List Argument → Values → Type 0
ShowsCalled h f args values =
    (objects : List Object) (s : ShowsHosted h objects) → arguments_fit objects (parameters_of f) args ≡ true →
    ShowsFrame s.items values
    (callee_frame f (host_keys f args objects) (map value_of_argument args) (host_frame objects))

-- ---- how the code is proved

-- the one part of an argument's value
abbrev pub part_of_argument : Argument → Part
part_of_argument (number z) = world.number z
part_of_argument (object n) = reference n

-- only slots of so many keys changed
pub record AreKeysSet (keys : ℕ) (old new : Values) : Type 0 where
  pub before : (j : ℕ) → j < key_at old 0 → slice_get new.slots.items j ≡ slice_get old.slots.items j
  pub long : length new.slots.items ≡ length old.slots.items
  pub room : vec_capacity new.slots ≡ vec_capacity old.slots
  pub base : new.base ≡ old.base
  pub vars : new.vars ≡ old.vars
  pub width : new.width ≡ old.width
