-- The places of a head: the types in it, the keys in them, and the names that it binds.
use Rattle.std.specs.Prelude.{ℕ, Bool, true, false, List, [], ◌∷◌, ◌++◌, map, Option, Some, None}
use Rattle.vlt_syntax.specs.Tree as s
use Rattle.vlt_syntax.specs.Tree.{Name, States, Entry, ResultType, Parameter, Head}
use Rattle.vlt_kinds_types.specs.Files.{File}
use Rattle.vlt_kinds_types.specs.Types.{KeyUse, ty_uses}

-- the keys in a result's type, and in the types of parameters, in the order of the text
abbrev pub result_uses : File → ResultType → List KeyUse
result_uses file (s.void at) = []
result_uses file (s.value t) = ty_uses file t

abbrev pub parameter_uses : File → List Parameter → List KeyUse
parameter_uses file [] = []
parameter_uses file (p ∷ ps) = ty_uses file p.ty ++ parameter_uses file ps

abbrev pub clause_in : Option (List Entry) → List Entry
clause_in None = []
clause_in (Some es) = es

abbrev pub entry_key : Entry → Name
entry_key (s.held k) = k.key
entry_key (s.changed k before after) = k
entry_key (s.bound k v b) = k
entry_key (s.taken k at) = k.key
entry_key (s.given k at) = k.key
entry_key (s.fresh k at) = k.key

abbrev pub is_fresh : Entry → Bool
is_fresh (s.fresh k at) = true
is_fresh _ = false

-- the states of an entry before the call, and after it; an entry that changes nothing names one set, and a bound one the state
-- that bounds it
abbrev pub first_states : Entry → Option States
first_states (s.held k) = k.states
first_states (s.changed k before after) = Some before
first_states (s.bound k v b) = Some (s.one b)
first_states (s.taken k at) = k.states
first_states (s.given k at) = k.states
first_states (s.fresh k at) = k.states

abbrev pub second_states : Entry → Option States
second_states (s.changed k before after) = Some after
second_states _ = None

-- ---- names

-- a name that stands in a head, as that of a key or of a parameter
pub record HeadName : Type 0 where
  pub text : List ℕ
  pub at : ℕ
  pub is_key : Bool

abbrev pub used_name : KeyUse → HeadName
used_name u = record { text = u.key; at = u.at; is_key = true }

abbrev pub entry_name : Entry → HeadName
entry_name e = record { text = (entry_key e).text; at = (entry_key e).at.from; is_key = true }

abbrev pub parameter_name : Parameter → HeadName
parameter_name p = record { text = p.name.text; at = p.name.at.from; is_key = false }

abbrev pub parameter_names : File → List Parameter → List HeadName
parameter_names file [] = []
parameter_names file (p ∷ ps) = map used_name (ty_uses file p.ty) ++ (parameter_name p ∷ parameter_names file ps)

-- all of them in the order of the text
unfoldable pub head_names : File → Head → List HeadName
head_names file h =
    map used_name (result_uses file h.result_type)
    ++ (parameter_names file h.parameters ++ map entry_name (clause_in h.clause))
