-- What a host's calls write beside the events of the functions: a line before each call, one with its result, and one at the end.
use Rattle.std.specs.Prelude.{ℕ, List, [], ◌++◌, Option, None, Some, slice_get, codes}
use Rattle.std.specs.List.{flat_map}
use Rattle.vlt_core.specs.Core.{Name, SetDecl, Program}
use Rattle.vlt_core.specs.Lookups.{set_in}
use Rattle.vlt_meaning.specs.World.{Value, object_text, argument_text, Object}
use Rattle.vlt_host_meaning.specs.Calls.{Argument, value_of_argument}
use Rattle.vlt_host_meaning.specs.HostFrame.{held_objects}

abbrev pub call_line : Name → List Argument → List ℕ
call_line name args =
    codes "!" ++ name ++ flat_map (λ a. argument_text (value_of_argument a)) args ++ codes "\n"

abbrev pub result_line : Option Value → List ℕ
result_line None = []
result_line (Some a) = codes "=" ++ argument_text a ++ codes "\n"

abbrev pub state_name : (state : ℕ) → Option SetDecl → List ℕ
state_name s None = []
state_name s (Some d) = of_name (slice_get d.states s)
  where
    of_name : Option Name → List ℕ
    of_name None = []
    of_name (Some name) = codes "@" ++ name

-- nothing where the object's type has no state set
abbrev pub state_text : Program → Object → List ℕ
state_text p o = of_set (set_in (slice_get p.types o.type))
  where
    of_set : Option ℕ → List ℕ
    of_set None = []
    of_set (Some i) = state_name o.state (slice_get p.sets i)

abbrev pub held_line : Program → List Object → List ℕ
held_line p objects =
    codes "held" ++ flat_map (λ q. object_text q.0 ++ state_text p q.1) (held_objects objects) ++ codes "\n"
