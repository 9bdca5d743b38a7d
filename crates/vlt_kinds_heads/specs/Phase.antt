-- All heads of a file: what is refused in them, and what they become.
use Rattle.std.specs.Prelude.{ℕ, Bool, true, false, List, [], ◌∷◌, ◌++◌, length, map, Option, Some, None}
use Rattle.std.specs.Option.{option_map}
use Rattle.std.specs.Map.{lookup}
use Rattle.std.specs.Str.{bytes_eq}
use Rattle.vlt_syntax.specs.Tree as s
use Rattle.vlt_syntax.specs.Tree.{States, Entry, ResultType, Parameter, Head, Decl}
use Rattle.vlt_core.specs.Core as core
use Rattle.vlt_core.specs.Core.{TypeDecl}
use Rattle.vlt_kinds_types.specs.declared.names.found.Refusal.{Refusal}
use Rattle.vlt_kinds_types.specs.Names.Refusals.{of_each}
use Rattle.vlt_kinds_types.specs.Files.{File, shape_at, state_names, number_of}
use Rattle.vlt_kinds_types.specs.Types.{core_ty, known_states, states_listed}
use Rattle.vlt_kinds_heads.specs.Places.{clause_in, entry_key}
use Rattle.vlt_kinds_heads.specs.Keys.{Keys, facts_of, keys_of}
use Rattle.vlt_kinds_heads.specs.Heads.{head_refused}
use Rattle.vlt_kinds_heads.specs.Externals.{external_refused}
use Rattle.vlt_kinds_heads.specs.declared.facts.Facts.{Facts}
use Rattle.vlt_kinds_heads.specs.declared.facts.Typing.{Typing}

unfoldable pub extern_refused : File → List TypeDecl → Head → List Refusal
extern_refused file types h = head_refused file h ++ external_refused file types h (keys_of file h)

abbrev pub heads_refused_in : File → List TypeDecl → Decl → List Refusal
heads_refused_in file types (s.extern h at) = extern_refused file types h
heads_refused_in file types (s.function h b at) = head_refused file h
heads_refused_in file types _ = []

-- what the rules on heads refuse, where the declared types are these
unfoldable pub heads_refused : File → List TypeDecl → List Decl → List Refusal
heads_refused file types ds = of_each (heads_refused_in file types) ds

-- ---- what a head becomes that isn't refused

abbrev pub number_in : Option Facts → ℕ
number_in None = 0
number_in (Some f) = f.number

abbrev pub key_number : Keys → List ℕ → ℕ
key_number keys k = number_in (lookup (bytes_eq k) keys)

abbrev pub key_decl : List ℕ × Facts → core.KeyDecl
key_decl e = record { name = e.0; key_type = option_map (λ t. t.type_id) e.1.typing }

abbrev pub typed_states : File → Option Typing → Option (List (List ℕ))
typed_states file None = None
typed_states file (Some had) = state_names file (shape_at file had.type_id)

-- the states that an entry names
abbrev pub states_named : Option (List (List ℕ)) → Option States → Option core.States
states_named known None = None
states_named known (Some ss) = Some (states_listed known (Some ss))

abbrev pub core_entry_in : Keys → Option (List (List ℕ)) → Entry → core.Entry
core_entry_in keys known (s.held k) = record {
  mode = core.kept;
  key = key_number keys k.key.text;
  before = states_named known k.states;
  after = states_named known k.states;
}
core_entry_in keys known (s.changed k before after) = record {
  mode = core.kept;
  key = key_number keys k.text;
  before = states_named known (Some before);
  after = states_named known (Some after);
}
core_entry_in keys known (s.bound k v b) = record {
  mode = core.up_to (number_of (known_states known) b);
  key = key_number keys k.text;
  before = None;
  after = None;
}
core_entry_in keys known (s.taken k at) = record {
  mode = core.taken;
  key = key_number keys k.key.text;
  before = states_named known k.states;
  after = None;
}
core_entry_in keys known (s.given k at) = record {
  mode = core.given;
  key = key_number keys k.key.text;
  before = None;
  after = states_named known k.states;
}
core_entry_in keys known (s.fresh k at) = record {
  mode = core.fresh;
  key = key_number keys k.key.text;
  before = None;
  after = states_named known k.states;
}

unfoldable pub core_entry : File → Keys → Entry → core.Entry
core_entry file keys e = core_entry_in keys (typed_states file (facts_of keys (entry_key e).text).typing) e

abbrev pub core_result : File → Keys → ResultType → Option core.Ty
core_result file keys (s.void at) = None
core_result file keys (s.value t) = Some (core_ty file (key_number keys) t)

abbrev pub core_parameter : File → Keys → Parameter → core.VarDecl
core_parameter file keys p = record { name = p.name.text; ty = core_ty file (key_number keys) p.ty }

-- the name that stands for the state of a bound entry's object; none where the clause has no such entry
abbrev pub state_variable : List Entry → List ℕ
state_variable [] = []
state_variable (s.bound k v b ∷ es) = v.text
state_variable (e ∷ es) = state_variable es

-- the function with an empty body; its keys are numbered by their first places, its variables are the parameters
unfoldable pub core_head : File → (external : Bool) → Head → Keys → core.Func
core_head file external h keys = record {
  name = h.name.text;
  external = external;
  result = core_result file keys h.result_type;
  params = length h.parameters;
  clause = map (core_entry file keys) (clause_in h.clause);
  keys = map key_decl keys;
  vars = map (core_parameter file keys) h.parameters;
  body = core.done;
  end = 0;
}

abbrev pub core_heads_in : File → Decl → List core.Func
core_heads_in file (s.extern h at) = core_head file true h (keys_of file h) ∷ []
core_heads_in file (s.function h b at) = core_head file false h (keys_of file h) ∷ []
core_heads_in file _ = []

abbrev pub core_heads : File → List Decl → List core.Func
core_heads file = of_each (core_heads_in file)
