-- The keys that cases list, and the objects of values.
use Rattle.std.specs.Prelude.{ℕ, List, [], Option, Some, None, slice_get}
use Rattle.std.specs.List.{filter_map}
use Rattle.std.specs.Option.{option_map}
use Rattle.vlt_base.specs.States.{has_state}
use Rattle.vlt_core.specs.Core as core
use Rattle.vlt_core.specs.Core.{States, CaseDecl}
use Rattle.vlt_core.specs.Lookups.{KeyIn}
use Rattle.vlt_meaning.specs.World.{Object, Frame, is_loose}
use Rattle.vlt_meaning.specs.Found.{Found, ◌>>=◌, Named}
use Rattle.vlt_meaning.specs.Objects.{in_states, owned_at}
use Rattle.vlt_meaning.specs.Values.{held_object}
use Rattle.vlt_trace_steps.specs.declared.cases.CaseKey.{CaseKey}

abbrev pub case_key_view : CaseKey → KeyIn
case_key_view k = record { key = k.key.0; states = has_state k.states }

abbrev pub listed_keys : Option CaseDecl → List core.CaseKey
listed_keys None = []
listed_keys (Some d) = d.keys

-- the key of a function that stands for a key of a header
abbrev pub key_for : (args : List ℕ) → core.CaseKey → Option KeyIn
key_for args k = option_map (λ j. record { key = j; states = k.states }) (slice_get args k.position)

abbrev pub keys_for : (args : List ℕ) → List core.CaseKey → List KeyIn
keys_for args = filter_map (key_for args)

-- the object that the frame holds under a case's key, in a state that the case says
abbrev pub packed_object : KeyIn → Frame → List Object → Found Named
packed_object k frame objects = held_object k.key frame objects >>= in_states k.states

-- the object that a value owns, in one of these states
abbrev pub unpacked_object : States → List Object → (n : ℕ) → Found Named
unpacked_object states objects n = owned_at is_loose objects n >>= in_states states
