-- The lines that tell which rule a program breaks, and where it breaks the rules on keys and on which paths.
use Rattle.std.specs.Prelude.{ℕ, zero, suc, ◌+◌, ◌==◌, if◌then◌else◌, List, [], ◌∷◌, ◌++◌, Option, Some, None, slice_get, codes}
use Rattle.std.specs.List.{flat_map}
use Rattle.std.specs.Fmt.{decimal}
use Rattle.vlt_base.specs.Place.{line_of, column_of}
use Rattle.vlt_core.specs.Core.{Name, States, Tok, a_key, a_var, SetDecl, CaseDecl, KeyDecl, VarDecl, Form, choose, loop, switch, focus, scope, Block, block, Stmts, done, next, Arms, no_arms, arm, Func, Program}
use Rattle.vlt_core.specs.Lookups.{set_in, key_type, case_at, VariantOf, variant_of}
use Rattle.vlt_core.specs.Instances.{Bound, bound_in}
use Rattle.vlt_core.specs.Maps.{Status, absent, held, lent, full, Wanted, wants_absent, wants_held, wants_in, wants_lent, wants_full}
use Rattle.vlt_core.specs.Faults.{FaultKind, at_row, at_join}
use Rattle.vlt_core.specs.Witness.{Pick, then_arm, else_arm, turn, exit, case_arm, Choice}

-- the line and the column of a byte, from 1
abbrev pub place_text : (text : List ℕ) → (at : ℕ) → List ℕ
place_text text at = decimal (line_of text at) ++ codes ":" ++ decimal (column_of text at)

-- ---- rules on names and types

-- a rule by its number, and the place where it is broken
abbrev pub kind_line : (text : List ℕ) → (rule at : ℕ) → List ℕ
kind_line text rule at = codes "kind " ++ decimal rule ++ codes " " ++ place_text text at ++ codes "\n"

-- ---- names

abbrev pub key_name : Option KeyDecl → Name
key_name None = []
key_name (Some d) = d.name

abbrev pub var_name : Option VarDecl → Name
var_name None = []
var_name (Some d) = d.name

-- a key or a variable, as the text names it; a hidden one has the empty name
abbrev pub token_name : Func → Tok → Name
token_name f (a_key k) = key_name (slice_get f.keys k)
token_name f (a_var v) = var_name (slice_get f.vars v)

abbrev pub names_in : Option SetDecl → Option (List Name)
names_in None = None
names_in (Some d) = Some d.states

abbrev pub names_of_set : Program → Option ℕ → Option (List Name)
names_of_set p None = None
names_of_set p (Some i) = names_in (slice_get p.sets i)

abbrev pub names_of_type : Program → Option ℕ → Option (List Name)
names_of_type p None = None
names_of_type p (Some t) = names_of_set p (set_in (slice_get p.types t))

-- the names of the states that a token's object can have, where its type has a set of states
abbrev pub state_names : Program → Func → Tok → Option (List Name)
state_names p f (a_key k) = names_of_type p (key_type f k)
state_names p f (a_var v) = None

abbrev pub name_of_state : Option Name → Name
name_of_state None = []
name_of_state (Some name) = name

abbrev pub named_state : Option (List Name) → (state : ℕ) → Name
named_state None s = []
named_state (Some names) s = name_of_state (slice_get names s)

-- a state of the object of a function's bound entry, as the text names it
abbrev pub bound_state : Program → Func → (state : ℕ) → Option Bound → Name
bound_state p f s None = []
bound_state p f s (Some b) = named_state (state_names p f (a_key b.key)) s

-- ---- statuses

-- The names of those states that are in the set, by number. The first name is that of state n.
abbrev pub named_in : States → (n : ℕ) → List Name → List Name
named_in states n [] = []
named_in states n (name ∷ names) =
    if states n then name ∷ named_in states (n + 1) names else named_in states (n + 1) names

-- one state by its name, more between braces
abbrev pub states_text : List Name → List ℕ
states_text [] = codes "@{}"
states_text (name ∷ []) = codes "@" ++ name
states_text (name ∷ names) = codes "@{" ++ name ++ flat_map (λ n. codes "," ++ n) names ++ codes "}"

-- nothing for a type without a set of states
abbrev pub in_states : Option (List Name) → States → List ℕ
in_states None states = []
in_states (Some names) states = states_text (named_in states 0 names)

abbrev pub status_text : Option (List Name) → Status → List ℕ
status_text names absent = codes "absent"
status_text names (held states) = codes "held" ++ in_states names states
status_text names (lent states) = codes "lent" ++ in_states names states
status_text names full = codes "full"

-- any state needs no name
abbrev pub wanted_text : Option (List Name) → Wanted → List ℕ
wanted_text names wants_absent = codes "absent"
wanted_text names wants_held = codes "held"
wanted_text names (wants_in states) = codes "held" ++ in_states names states
wanted_text names wants_lent = codes "lent"
wanted_text names wants_full = codes "full"

-- ---- faults

abbrev pub fault_text : Option (List Name) → FaultKind → List ℕ
fault_text names (at_row found wanted) =
    codes " found " ++ status_text names found ++ codes " wanted " ++ wanted_text names wanted
fault_text names (at_join present) = codes " joins absent and " ++ status_text names present

-- where a function breaks the rules on keys, by which token, and how
abbrev pub fault_line : (text : List ℕ) → Program → Func → (at : ℕ) → Tok → FaultKind → List ℕ
fault_line text p f at t kind =
    codes "protocol " ++ place_text text at ++ codes " " ++ token_name f t ++ fault_text (state_names p f t) kind ++ codes "\n"

-- ---- paths

-- an arm of a switch: the variable that is taken apart, and the case
pub record Tick : Type 0 where
  pub var : ℕ
  pub case : ℕ

abbrev pub first_tick : Option Tick → Option Tick → Option Tick
first_tick (Some x) y = Some x
first_tick None y = y

abbrev pub tick_at : (var i : ℕ) → Arms → Option Tick
tick_at v i no_arms = None
tick_at v zero (arm c vs b rest) = Some (record { var = v; case = c })
tick_at v (suc i) (arm c vs b rest) = tick_at v i rest

-- the arm of the position i of the switch at a place
abbrev mutual
  pub tick_in : (at i here : ℕ) → Form → Option Tick
  tick_in at i here (choose e a b) = first_tick (tick_in_block at i a) (tick_in_block at i b)
  tick_in at i here (loop e b) = tick_in_block at i b
  tick_in at i here (switch v arms end) = if here == at then tick_at v i arms else tick_in_arms at i arms
  tick_in at i here (focus y z b) = tick_in_block at i b
  tick_in at i here (scope b) = tick_in_block at i b
  tick_in at i here _ = None

  pub tick_in_block : (at i : ℕ) → Block → Option Tick
  tick_in_block at i (block ss bound end) = tick_in_stmts at i ss

  pub tick_in_stmts : (at i : ℕ) → Stmts → Option Tick
  tick_in_stmts at i done = None
  tick_in_stmts at i (next here s rest) = first_tick (tick_in at i here s) (tick_in_stmts at i rest)

  pub tick_in_arms : (at i : ℕ) → Arms → Option Tick
  tick_in_arms at i no_arms = None
  tick_in_arms at i (arm c vs b rest) = first_tick (tick_in_block at i b) (tick_in_arms at i rest)

abbrev pub case_text : Option CaseDecl → List ℕ
case_text None = []
case_text (Some d) = codes "'" ++ d.name

abbrev pub case_in : Program → Option VariantOf → (case : ℕ) → Option CaseDecl
case_in p None c = None
case_in p (Some v) c = case_at p v.type c

abbrev pub tick_text : Program → Func → Option Tick → List ℕ
tick_text p f None = []
tick_text p f (Some t) = case_text (case_in p (variant_of f t.var) t.case)

-- which way a path takes at a place
abbrev pub pick_text : Program → Func → (at : ℕ) → Pick → List ℕ
pick_text p f at then_arm = codes "then"
pick_text p f at else_arm = codes "else"
pick_text p f at turn = codes "turn"
pick_text p f at exit = codes "exit"
pick_text p f at (case_arm i) = tick_text p f (tick_in_stmts at i f.body)

abbrev pub choice_text : (text : List ℕ) → Program → Func → Choice → List ℕ
choice_text text p f c = codes " " ++ place_text text c.at ++ codes "=" ++ pick_text p f c.at c.pick

-- In which state the object of a bound entry comes, by the variable that stands for it. The instance goes by its origin; that of a
-- function without such an entry needs no words.
abbrev pub instance_text : Program → Func → (variable : Name) → (origin : Option ℕ) → List ℕ
instance_text p f v None = []
instance_text p f v (Some s) = codes " " ++ v ++ codes "=" ++ bound_state p f s (bound_in f.clause)

-- the choices of a path in the instance of these words
abbrev pub path_line : (text : List ℕ) → Program → Func → (instance : List ℕ) → List Choice → List ℕ
path_line text p f instance cs = codes "path" ++ instance ++ flat_map (choice_text text p f) cs ++ codes "\n"

-- one path, or the two to a join
abbrev pub paths_text :
    (text : List ℕ) → Program → Func → (instance : List ℕ) → (first : List Choice) → (second : Option (List Choice)) → List ℕ
paths_text text p f instance first None = path_line text p f instance first
paths_text text p f instance first (Some second) = path_line text p f instance first ++ path_line text p f instance second
