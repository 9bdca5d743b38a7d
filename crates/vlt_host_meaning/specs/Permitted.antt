-- Which calls a host may make.
use Rattle.std.specs.Prelude.{ℕ, ◌==◌, pos, Bool, true, false, ◌&&◌, ◌||◌, if◌then◌else◌, List, [], ◌∷◌, ◌++◌, length, map, filter, Option, None, Some, slice_get}
use Rattle.std.specs.List.{list_all, range_with_len}
use Rattle.vlt_ops.specs.Operator.{equals}
use Rattle.vlt_core.specs.Core.{States, Ty, int, bool, tracked, Mode, up_to, Entry, Func, Program}
use Rattle.vlt_core.specs.Lookups.{key_states_up_to, is_held_before, before_set}
use Rattle.vlt_core.specs.Types.{stands_for}
use Rattle.vlt_core.specs.KindedHeads.{are_apart, parameters_of}
use Rattle.vlt_meaning.specs.World.{Object}
use Rattle.vlt_meaning.specs.Calls.{Binding, binding}
use Rattle.vlt_host_meaning.specs.Calls.{Argument, number, object}
use Rattle.vlt_host_meaning.specs.EntryFunctions.{is_entry_function}
use Rattle.vlt_host_meaning.specs.HostFrame.{host_holds}

-- ---- arguments

abbrev pub is_of_type : (type : ℕ) → Option Object → Bool
is_of_type t None = false
is_of_type t (Some o) = o.type == t

abbrev pub argument_fits : List Object → Ty → Argument → Bool
argument_fits objects int (number z) = true
argument_fits objects bool (number z) = equals z (pos 0) || equals z (pos 1)
argument_fits objects (tracked k t args) (object n) = host_holds objects n && is_of_type t (slice_get objects n)
argument_fits objects ty a = false

-- as many as there are parameters, and each fits its own
abbrev pub arguments_fit : List Object → List Ty → List Argument → Bool
arguments_fit objects [] [] = true
arguments_fit objects (t ∷ ts) (a ∷ rest) = argument_fits objects t a && arguments_fit objects ts rest
arguments_fit objects ts rest = false

abbrev pub argument_binding : Ty → Argument → List Binding
argument_binding (tracked k t args) (object n) = binding n k ∷ []
argument_binding ty a = []

-- the keys of parameters, each with the object that is given for it
abbrev pub argument_bindings : List Ty → List Argument → List Binding
argument_bindings (t ∷ ts) (a ∷ rest) = argument_binding t a ++ argument_bindings ts rest
argument_bindings ts rest = []

-- the first object that is given for a key
abbrev pub object_of_key : List Binding → (k : ℕ) → Option ℕ
object_of_key [] k = None
object_of_key (b ∷ bs) k = if b.key == k then Some b.number else object_of_key bs k

abbrev pub is_that_object : (n : ℕ) → Option ℕ → Bool
is_that_object n None = false
is_that_object n (Some m) = m == n

-- for each key one object is given, however often
abbrev pub have_one_object : List Binding → Bool
have_one_object bs = list_all (λ b. is_that_object b.number (object_of_key bs b.key)) bs

-- ---- keys

abbrev pub or_unused : (unused : ℕ) → Option ℕ → ℕ
or_unused unused None = unused
or_unused unused (Some n) = n

-- The host's key for each key of the function. For one that no argument names, as that of a new object, it is a key that names
-- nothing.
abbrev pub host_keys : Func → List Argument → List Object → List ℕ
host_keys f args objects =
    map (λ k. or_unused (length objects) (object_of_key (argument_bindings (parameters_of f) args) k))
    (range_with_len 0 (length f.keys))

abbrev pub entries_before : Func → List Entry
entries_before f = filter is_held_before f.clause

-- the host's keys for those of the entries that are held before
abbrev pub keys_before : Func → List Argument → List Object → List ℕ
keys_before f args objects = map (λ e. stands_for (host_keys f args objects) e.key) (entries_before f)

-- ---- states

abbrev pub is_object_in : States → Option Object → Bool
is_object_in states None = false
is_object_in states (Some o) = states o.state

-- the states of an entry's set, of a bound entry those up to the bound
abbrev pub permitted_states : Program → Func → Entry → Mode → States
permitted_states p f e (up_to b) = key_states_up_to p f e.key b
permitted_states p f e _ = before_set p f e

-- each entry that is held before has its object in a state that it permits
abbrev pub are_in_states : Program → Func → (keys : List ℕ) → List Object → Bool
are_in_states p f keys objects =
    list_all (λ e. is_object_in (permitted_states p f e e.mode) (slice_get objects (stands_for keys e.key)))
    (entries_before f)

-- ---- permission

-- The function of this number may be called: arguments fit its parameters, one key has one object, the keys that the clause
-- takes have different ones, and each of these is in a state that its entry permits.
abbrev pub is_permitted : Program → (number : ℕ) → Func → List Argument → List Object → Bool
is_permitted p i f args objects =
    is_entry_function p i f && (arguments_fit objects (parameters_of f) args &&
    (have_one_object (argument_bindings (parameters_of f) args) &&
    (are_apart (keys_before f args objects) && are_in_states p f (host_keys f args objects) objects)))
