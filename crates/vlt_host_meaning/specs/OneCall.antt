-- One call of a host that is permitted.
use Rattle.std.specs.Prelude.{ℕ, ◌-◌, ◌==◌, nat_lt, if◌then◌else◌, List, [], ◌++◌, map, Option, None}
use Rattle.vlt_core.specs.Core.{Func, Program}
use Rattle.vlt_meaning.specs.World.{Value, event_text, Object, World, Outcome, fuel_end, depth_end, fault, no_return}
use Rattle.vlt_meaning.specs.Step.{Step, goes, jumps, leaves, ends, with_found, with_objects}
use Rattle.vlt_meaning.specs.Calls.{called_instance, passed_objects, handed_over, callee_frame, binding, with_holders}
use Rattle.vlt_meaning.specs.Run.{Setup}
use Rattle.vlt_meaning.specs.Does.{does}
use Rattle.vlt_host_meaning.specs.Calls.{Argument, value_of_argument}
use Rattle.vlt_host_meaning.specs.HostFrame.{host_frame}
use Rattle.vlt_host_meaning.specs.Permitted.{host_keys}
use Rattle.vlt_host_meaning.specs.Lines.{call_line, result_line}

-- how a call ends, with what it has written: it comes back, or the run ends in it
pub data CallEnd : Type 0 where
  came_back : (text : List ℕ) → Option Value → World → CallEnd
  stopped : (text : List ℕ) → Outcome → World → CallEnd

-- ---- into the function

-- the instance of a function for the state that the object of its bound entry has before the call
abbrev pub host_instance : Program → Func → List Argument → List Object → Func
host_instance p f args objects = called_instance p f (host_keys f args objects) (host_frame objects) objects

abbrev pub without_events : World → World
without_events w = record w { events = [] }

-- the world in which the body begins: the function has the objects of its clause
abbrev pub world_inside : Func → List Argument → World → World
world_inside f args w =
    with_objects (without_events w)
    (handed_over (host_keys f args w.objects) (host_frame w.objects) f.clause w.objects)

-- what the body of an instance does, in a frame of depth 1
unfoldable pub instance_does : Setup → Func → List Argument → World → Step
instance_does r f args w =
    with_found (passed_objects r.program f (host_keys f args w.objects) (host_frame w.objects) w.objects f.clause)
    (without_events w) (λ ns.
    does r f f.body
    (callee_frame f (host_keys f args w.objects) (map value_of_argument args) (host_frame w.objects))
    (world_inside f args w))

abbrev pub body_does : Setup → Func → List Argument → World → Step
body_does r f args w = instance_does r (host_instance r.program f args w.objects) args w

-- ---- and back

-- the host holds what the clause has after the call, each object under the host's own key for it
abbrev pub held_by_host : (kept : List ℕ) → List Object → List Object
held_by_host kept objects = with_holders 0 (map (λ n. binding n n) kept) objects

-- the end of a call whose body came to this step, where the line of the call is written before
unfoldable pub end_of_body : (line : List ℕ) → Step → CallEnd
end_of_body line (leaves a kept w) =
    came_back (line ++ event_text w.events ++ result_line a) a (with_objects w (held_by_host kept w.objects))
end_of_body line (ends o w) = stopped (line ++ event_text w.events) o w
end_of_body line (goes frame w) = stopped (line ++ event_text w.events) (fault no_return None) w
end_of_body line (jumps c frame w) = stopped (line ++ event_text w.events) (fault no_return None) w

-- ---- the whole call

abbrev pub spent : World → World
spent w = record w { fuel = w.fuel - 1 }

-- a unit of fuel is spent, the call is written, and then the function takes a frame
unfoldable pub host_calls : Setup → Func → List Argument → World → CallEnd
host_calls r f args w =
    if w.fuel == 0 then stopped [] fuel_end w
    else if nat_lt 0 r.depth then end_of_body (call_line f.name args) (body_does r f args (spent w))
    else stopped (call_line f.name args) depth_end (spent w)
