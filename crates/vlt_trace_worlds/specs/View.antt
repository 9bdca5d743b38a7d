-- What the values, objects, frames and worlds of the code stand for.
use Rattle.std.specs.Prelude.{ℕ, List, map, reverse, Option, Some, None, Result, Ok, Err, slice_get}
use Rattle.std.specs.Option.{option_map}
use Rattle.vlt_meaning.specs.World as w
use Rattle.vlt_meaning.specs.Found.{Found}
use Rattle.vlt_meaning.specs.Found as found
use Rattle.vlt_trace_worlds.specs.declared.worlds.Part.{Part}
use Rattle.vlt_trace_worlds.specs.declared.worlds.Part.TheVariants as part
use Rattle.vlt_trace_worlds.specs.declared.worlds.Value.{Value}
use Rattle.vlt_trace_worlds.specs.declared.worlds.Value.TheVariants as value
use Rattle.vlt_trace_worlds.specs.declared.worlds.Owner.{Owner}
use Rattle.vlt_trace_worlds.specs.declared.worlds.Owner.TheVariants as owner
use Rattle.vlt_trace_worlds.specs.declared.worlds.Object.{Object}
use Rattle.vlt_trace_worlds.specs.declared.stops.Reason.{Reason}
use Rattle.vlt_trace_worlds.specs.declared.stops.Reason.TheVariants as reason
use Rattle.vlt_trace_worlds.specs.declared.stops.Stop.{Stop}
use Rattle.vlt_trace_worlds.specs.declared.stops.Stop.TheVariants as stop
use Rattle.vlt_trace_worlds.specs.declared.worlds.Named.{Named}
use Rattle.vlt_trace_worlds.specs.declared.worlds.Frame.{Frame}
use Rattle.vlt_trace_worlds.specs.declared.worlds.Event.{Event}
use Rattle.vlt_trace_worlds.specs.declared.worlds.Event.TheVariants as event
use Rattle.vlt_trace_worlds.specs.declared.worlds.World.{World}

abbrev pub part_view : Part → w.Part
part_view (part.Number z) = w.number z
part_view (part.Reference n) = w.reference n
part_view (part.Owned n) = w.owned n

abbrev pub value_view : Value → w.Value
value_view (value.One a) = w.one (part_view a)
value_view (value.OfCase c parts keys) = w.of_case c (map part_view parts) keys

abbrev pub owner_view : Owner → w.Owner
owner_view (owner.Held d k) = w.held d k
owner_view (owner.Lent d k) = w.lent d k
owner_view owner.Loose = w.loose
owner_view (owner.Inside n) = w.inside n
owner_view (owner.AdoptedBy n) = w.adopted_by n
owner_view owner.Out = w.out
owner_view owner.Gone = w.gone

abbrev pub object_view : Object → w.Object
object_view o = record { type = o.type_id.0; state = o.state; cells = map value_view o.cells; owner = owner_view o.owner }

abbrev pub objects_view : List Object → List w.Object
objects_view = map object_view

abbrev pub reason_view : Reason → w.Reason
reason_view reason.Missing = w.missing
reason_view reason.NoValue = w.no_value
reason_view reason.NotEmpty = w.not_empty
reason_view reason.NotHeld = w.not_held
reason_view reason.OtherObject = w.other_object
reason_view reason.NotGuarded = w.not_guarded
reason_view reason.WrongState = w.wrong_state
reason_view reason.NotOwned = w.not_owned
reason_view reason.SameObject = w.same_object
reason_view reason.LeftBehind = w.left_behind
reason_view reason.NoReturn = w.no_return

abbrev pub outcome_of : Stop → w.Outcome
outcome_of (stop.Trap t) = w.trap t
outcome_of stop.FuelEnd = w.fuel_end
outcome_of stop.HeapEnd = w.heap_end
outcome_of stop.DepthEnd = w.depth_end
outcome_of stop.InputEnd = w.input_end
outcome_of stop.AnswersEnd = w.answers_end
outcome_of (stop.BadAnswer n) = w.bad_answer n
outcome_of (stop.Fault r n) = w.fault (reason_view r) n

abbrev pub named_view : Named → found.Named
named_view m = record { number = m.number; object = object_view m.object.now }

-- what the code finds, or how it says that the run ends
abbrev pub found_of : {A B : Type 0} → (A → B) → Result A Stop → Found B
found_of view (Ok a) = Ok (view a)
found_of view (Err s) = Err (outcome_of s)

-- ---- frames

abbrev pub joined : {A : Type 0} → Option (Option A) → Option A
joined None = None
joined (Some a) = a

abbrev pub var_in : List (Option Value) → ℕ → Option w.Value
var_in vars x = option_map value_view (joined (slice_get vars x))

abbrev pub key_in : List (Option ℕ) → ℕ → Option ℕ
key_in keys k = joined (slice_get keys k)

abbrev pub frame_view : Frame → w.Frame
frame_view f = record { depth = f.depth; vars = var_in f.vars; keys = key_in f.keys }

-- ---- the world

abbrev pub event_view : Event → w.Event
event_view (event.Printed z) = w.printed z
event_view (event.Called name args) = w.called name (map value_view args)

abbrev pub world_view : World → w.World
world_view v = record {
  objects = objects_view v.objects.items;
  fuel = v.fuel;
  input = reverse v.input;
  answers = reverse (map (λ a. a) v.answers);
  taken = v.taken;
  events = map event_view v.events.items;
}
