-- What the numbers of a program stand for: types with their states, fields and cases; variables, keys and clauses.
use Rattle.std.specs.Prelude.{ℕ, zero, suc, ◌==◌, nat_lt, Bool, true, false, ◌&&◌, ◌||◌, not, List, [], length, filter, Option, None, Some, slice_get}
use Rattle.std.specs.List.{range_with_len, filter_map, list_any}
use Rattle.std.specs.Option.{option_map}
use Rattle.vlt_core.specs.Core.{States, Ty, tracked, owning, guarded, variant, owning_variant, Link, SetDecl, FieldDecl, CaseDecl, TypeDecl, an_abstract, a_struct, a_variant, Mode, kept, taken, fresh, up_to, Entry, KeyDecl, Func, Program}

-- ---- states

abbrev pub no_states : States
no_states s = false

-- no state has a number of 32 or more
abbrev pub every_state : States
every_state s = nat_lt s 32

-- the state of a new object, and the only one of a type without a set
abbrev pub first_state : ℕ
first_state = 0

-- ---- types

abbrev pub set_in : Option TypeDecl → Option ℕ
set_in None = None
set_in (Some (an_abstract name set)) = set
set_in (Some (a_struct d)) = d.set
set_in (Some (a_variant d)) = None

abbrev pub count_in : Option SetDecl → ℕ
count_in None = 0
count_in (Some d) = length d.states

-- how many states an object of the type can have; a type without a set has one
abbrev pub state_count : Program → (type : ℕ) → ℕ
state_count p t = of_set (set_in (slice_get p.types t))
  where
    of_set : Option ℕ → ℕ
    of_set None = 1
    of_set (Some i) = count_in (slice_get p.sets i)

abbrev pub all_states : Program → (type : ℕ) → States
all_states p t s = nat_lt s (state_count p t)

-- ---- order of states

abbrev pub links_in : Option SetDecl → List Link
links_in None = []
links_in (Some d) = d.links

-- at most so many links lead from the first state to the second one, each to a state below 32
unfoldable pub leads_up : List Link → (steps : ℕ) → (from to : ℕ) → Bool
leads_up ls zero x y = x == y
leads_up ls (suc n) x y = x == y || list_any (λ l. l.lower == x && (every_state l.upper && leads_up ls n l.upper y)) ls

-- the links of a type's set
abbrev pub links_of_type : Program → (type : ℕ) → List Link
links_of_type p t = of_set (set_in (slice_get p.types t))
  where
    of_set : Option ℕ → List Link
    of_set None = []
    of_set (Some i) = links_in (slice_get p.sets i)

-- The states of a type up to this one; of a type without order that one alone. As there are 32 states, 31 links lead to
-- all that any number of links does.
abbrev pub states_up_to : Program → (type state : ℕ) → States
states_up_to p t b s = every_state s && (all_states p t s && leads_up (links_of_type p t) 31 s b)

-- ---- release

abbrev pub release_in : Program → (type : ℕ) → Option TypeDecl → States
release_in p t (Some (a_struct d)) = d.release
release_in p t _ = all_states p t

-- The states in which an object of the type may be released: those that a struct lists, and all of an abstract type.
abbrev pub release_set : Program → (type : ℕ) → States
release_set p t = release_in p t (slice_get p.types t)

abbrev pub fields_in : Option TypeDecl → List FieldDecl
fields_in (Some (a_struct d)) = d.fields
fields_in _ = []

-- the fields of a struct, none of any other type
abbrev pub fields_of : Program → (type : ℕ) → List FieldDecl
fields_of p t = fields_in (slice_get p.types t)

abbrev pub field_states_in : Option FieldDecl → States
field_states_in None = no_states
field_states_in (Some d) = d.states

-- the states in which a field of a type may be touched
abbrev pub permitted_in : Program → (type position : ℕ) → States
permitted_in p t i = field_states_in (slice_get (fields_of p t) i)

abbrev pub cases_in : Option TypeDecl → List CaseDecl
cases_in (Some (a_variant d)) = d.cases
cases_in _ = []

-- the cases of a variant, none of any other type
abbrev pub cases_of : Program → (type : ℕ) → List CaseDecl
cases_of p t = cases_in (slice_get p.types t)

abbrev pub case_at : Program → (type case : ℕ) → Option CaseDecl
case_at p t c = slice_get (cases_of p t) c

abbrev pub is_owning : Ty → Bool
is_owning (owning states t args) = true
is_owning (owning_variant t args) = true
is_owning _ = false

-- ---- variables and keys of a function

abbrev pub var_type : Func → (v : ℕ) → Option Ty
var_type f v = option_map (λ d. d.ty) (slice_get f.vars v)

-- a key, and the type of its object
pub record Reference : Type 0 where
  pub key : ℕ
  pub type : ℕ

abbrev pub tracked_in : Option Ty → Option Reference
tracked_in (Some (tracked k t args)) = Some (record { key = k; type = t })
tracked_in _ = None

abbrev pub guarded_in : Option Ty → Option Reference
guarded_in (Some (guarded k t args)) = Some (record { key = k; type = t })
guarded_in _ = None

-- what a tracked variable refers to: its key, and the type of its object
abbrev pub reference_of : Func → (x : ℕ) → Option Reference
reference_of f x = tracked_in (var_type f x)

-- what a guarded variable refers to: its guard, and the type of its own object
abbrev pub guarded_of : Func → (y : ℕ) → Option Reference
guarded_of f y = guarded_in (var_type f y)

abbrev pub owns : Option Ty → Bool
owns None = false
owns (Some t) = is_owning t

abbrev pub is_owning_var : Func → (v : ℕ) → Bool
is_owning_var f v = owns (var_type f v)

abbrev pub owning_vars : Func → List ℕ
owning_vars f = filter (is_owning_var f) (range_with_len 0 (length f.vars))

abbrev pub owning_states_in : Option Ty → Option States
owning_states_in (Some (owning states t args)) = Some states
owning_states_in _ = None

-- the states that a variable of type `tracked@S T` says
abbrev pub owning_states : Func → (v : ℕ) → Option States
owning_states f v = owning_states_in (var_type f v)

-- a variable's variant, with the keys that stand for its header
pub record VariantOf : Type 0 where
  pub type : ℕ
  pub args : List ℕ

abbrev pub variant_in : Option Ty → Option VariantOf
variant_in (Some (variant t args)) = Some (record { type = t; args = args })
variant_in (Some (owning_variant t args)) = Some (record { type = t; args = args })
variant_in _ = None

abbrev pub variant_of : Func → (v : ℕ) → Option VariantOf
variant_of f v = variant_in (var_type f v)

-- a key of the function that a case lists, and the states that the case says
pub record KeyIn : Type 0 where
  pub key : ℕ
  pub states : States

abbrev pub keys_in : (args : List ℕ) → Option CaseDecl → List KeyIn
keys_in args None = []
keys_in args (Some d) =
    filter_map (λ k. option_map (λ j. record { key = j; states = k.states }) (slice_get args k.position)) d.keys

-- the keys of the function that a case of a variable's variant lists
abbrev pub case_keys : Program → VariantOf → (case : ℕ) → List KeyIn
case_keys p v c = keys_in v.args (case_at p v.type c)

abbrev pub key_type_in : Option KeyDecl → Option ℕ
key_type_in None = None
key_type_in (Some d) = d.key_type

abbrev pub key_type : Func → (key : ℕ) → Option ℕ
key_type f k = key_type_in (slice_get f.keys k)

abbrev pub states_of_type : Program → Option ℕ → States
states_of_type p None = every_state
states_of_type p (Some t) = all_states p t

-- all states of a key's object; of a key without a type every state
abbrev pub states_of_key : Program → Func → (key : ℕ) → States
states_of_key p f k = states_of_type p (key_type f k)

abbrev pub up_to_in : Program → Option ℕ → (state : ℕ) → States
up_to_in p None b = no_states
up_to_in p (Some t) b = states_up_to p t b

-- the states of a key's object up to one; none of a key without a type
abbrev pub key_states_up_to : Program → Func → (key state : ℕ) → States
key_states_up_to p f k b = up_to_in p (key_type f k) b

-- ---- clauses

abbrev pub is_before : Mode → Bool
is_before kept = true
is_before taken = true
is_before (up_to b) = true
is_before _ = false

abbrev pub is_after : Mode → Bool
is_after taken = false
is_after _ = true

abbrev pub is_fresh : Mode → Bool
is_fresh fresh = true
is_fresh _ = false

-- the entry's key is held before the call, and after it
abbrev pub is_held_before : Entry → Bool
is_held_before e = is_before e.mode

abbrev pub is_held_after : Entry → Bool
is_held_after e = is_after e.mode

abbrev pub is_new : Entry → Bool
is_new e = is_fresh e.mode

-- held after, and not for a new object
abbrev pub is_given_back : Entry → Bool
is_given_back e = is_held_after e && not (is_new e)

-- the states that an entry names, or all of the key
abbrev pub states_or_all : Program → Func → (key : ℕ) → Option States → States
states_or_all p f k None = states_of_key p f k
states_or_all p f k (Some states) = states

-- the states in which an entry's key is held before and after, in the function that has the clause
abbrev pub before_set : Program → Func → Entry → States
before_set p f e = states_or_all p f e.key e.before

abbrev pub after_set : Program → Func → Entry → States
after_set p f e = states_or_all p f e.key e.after
