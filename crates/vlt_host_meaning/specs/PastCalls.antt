-- Objects that a host's calls leave. Fuel, input and answers may be others at each call, so each has a world of its own, with the
-- objects that the last one left.
use Rattle.std.specs.Prelude.{◌≡◌, ℕ, if◌then◌else◌, List, [], ◌∷◌, Option, None, Some, slice_get}
use Rattle.vlt_core.specs.Core.{Func}
use Rattle.vlt_meaning.specs.World.{Object, World}
use Rattle.vlt_meaning.specs.Step.{with_objects}
use Rattle.vlt_meaning.specs.Run.{Setup}
use Rattle.vlt_host_meaning.specs.Calls.{Argument}
use Rattle.vlt_host_meaning.specs.Permitted.{is_permitted}
use Rattle.vlt_host_meaning.specs.OneCall.{CallEnd, came_back, stopped, host_calls}

-- the number of the function, its arguments, and the world but for its objects
pub record PastCall : Type 0 where
  pub number : ℕ
  pub args : List Argument
  pub world : World

unfoldable pub where_back : CallEnd → (World → Option (List Object)) → Option (List Object)
where_back (came_back text a w) go = go w
where_back (stopped text o w) go = None

-- goes on where the call of the function is permitted and comes back
unfoldable pub after_call : Setup → (number : ℕ) → Option Func → List Argument → World → (World → Option (List Object)) →
    Option (List Object)
after_call r i None args w go = None
after_call r i (Some f) args w go =
    if is_permitted r.program i f args w.objects then where_back (host_calls r f args w) go else None

abbrev pub objects_after : Setup → List PastCall → List Object → Option (List Object)
objects_after r [] objects = Some objects
objects_after r (c ∷ cs) objects =
    after_call r c.number (slice_get r.program.fns c.number) c.args (with_objects c.world objects) (λ w.
    objects_after r cs w.objects)

-- some calls come back, beginning with a host that holds nothing, and leave these objects
pub record IsLeftByCalls (r : Setup) (objects : List Object) : Type 0 where
  pub calls : List PastCall
  pub are : objects_after r calls [] ≡ Some objects
