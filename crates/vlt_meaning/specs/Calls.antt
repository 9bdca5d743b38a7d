-- Calls and returns: the keys of a clause, handed to the callee and back. `keys` has the caller's key for each key of
-- the callee's head.
use Rattle.std.specs.Prelude.{ℕ, suc, ◌==◌, Bool, ◌&&◌, ◌||◌, not, if◌then◌else◌, List, [], ◌∷◌, ◌++◌, filter, Option, Some, None, is_none, Ok, Err, slice_get}
use Rattle.std.specs.List.{list_any, list_all}
use Rattle.std.specs.Option.{option_map, option_to_list, option_and_then}
use Rattle.vlt_core.specs.Core.{var, Operand, pure, Entry, Func, Program}
use Rattle.vlt_core.specs.Lookups.{owning_vars, is_held_before, is_held_after, is_new, before_set, after_set}
use Rattle.vlt_core.specs.Instances.{bound_in, instance}
use Rattle.vlt_meaning.specs.World.{Value, held, Object, is_at, World, Frame, fault, missing, no_return}
use Rattle.vlt_meaning.specs.Found.{Found, ◌>>=◌, or_fault, Named}
use Rattle.vlt_meaning.specs.Objects.{in_states, with_owner, with_changed_object, with_numbers}
use Rattle.vlt_meaning.specs.Values.{held_object, object_of}
use Rattle.vlt_meaning.specs.Step.{Step, goes, jumps, leaves, ends, with_objects, with_key, deliver}
use Rattle.vlt_meaning.specs.Operands.{with_operand}

abbrev pub entries_after : Func → List Entry
entries_after g = filter is_held_after g.clause

-- the object of the caller's key that stands for an entry's
abbrev pub caller_object : (keys : List ℕ) → Frame → Entry → Option ℕ
caller_object keys frame e = option_and_then frame.keys (slice_get keys e.key)

-- the object of an entry that is held before: the frame holds it under the key that stands for the entry's, in a state
-- of the entry's set
abbrev pub passed_object : Program → Func → (keys : List ℕ) → Frame → List Object → Entry → Found Named
passed_object p g keys frame objects e = do
  k ← or_fault missing (slice_get keys e.key)
  n ← held_object k frame objects
  in_states (before_set p g e) n

-- the objects of the entries that are held before
abbrev pub passed_objects : Program → Func → (keys : List ℕ) → Frame → List Object → List Entry → Found (List ℕ)
passed_objects p g keys frame objects [] = Ok []
passed_objects p g keys frame objects (e ∷ es) =
    if is_held_before e then (do
      n ← passed_object p g keys frame objects e
      ns ← passed_objects p g keys frame objects es
      Ok (n.number ∷ ns))
    else passed_objects p g keys frame objects es

-- ---- to the callee

abbrev pub state_in : Option Object → ℕ
state_in None = 0
state_in (Some o) = o.state

-- the state of the object that the caller's key names which stands for a key of the callee
abbrev pub state_under : (keys : List ℕ) → Frame → List Object → (key : ℕ) → ℕ
state_under keys frame objects k =
    state_in (option_and_then (slice_get objects) (option_and_then frame.keys (slice_get keys k)))

-- The callee's instance for the state that the object of its bound entry has now. In a state that the entry doesn't allow it
-- has no state for the object, so the call is a fault.
abbrev pub called_instance : Program → Func → (keys : List ℕ) → Frame → List Object → Func
called_instance p g keys frame objects =
    instance p g (option_map (λ b. state_under keys frame objects b.key) (bound_in g.clause))

abbrev pub changed_if : Option ℕ → (Object → Object) → List Object → List Object
changed_if None change objects = objects
changed_if (Some n) change objects = with_changed_object n change objects

-- the callee holds them during the call
abbrev pub handed_over : (keys : List ℕ) → Frame → List Entry → List Object → List Object
handed_over keys frame [] objects = objects
handed_over keys frame (e ∷ es) objects =
    if is_held_before e
    then
    changed_if (caller_object keys frame e) (with_owner (held (suc frame.depth) e.key))
    (handed_over keys frame es objects)
    else handed_over keys frame es objects

abbrev pub is_new_key : Func → (k : ℕ) → Bool
is_new_key g k = list_any (λ e. is_new e && e.key == k) g.clause

-- the object of a key of the callee's head; a new one has none yet
abbrev pub callee_key : Func → (keys : List ℕ) → Frame → (k : ℕ) → Option ℕ
callee_key g keys frame k = if is_new_key g k then None else option_and_then frame.keys (slice_get keys k)

-- a callee's frame has its parameters, and the objects of its head's keys
abbrev pub callee_frame : Func → (keys : List ℕ) → List Value → Frame → Frame
callee_frame g keys args frame =
    record { depth = suc frame.depth; vars = slice_get args; keys = callee_key g keys frame }

-- ---- back to the caller

-- a key of the caller with its object
pub record Binding : Type 0 where
  pub key : ℕ
  pub number : ℕ

abbrev pub binding : (n : ℕ) → (k : ℕ) → Binding
binding n k = record { key = k; number = n }

-- the caller's keys of the entries held after, each with the object of the callee's key
abbrev pub bindings : (keys : List ℕ) → List Entry → List ℕ → List Binding
bindings keys (e ∷ es) (n ∷ ns) =
    option_to_list (option_map (binding n) (slice_get keys e.key)) ++ bindings keys es ns
bindings keys _ _ = []

-- the keys name these objects, and the frame at the depth holds them
abbrev pub with_names : List Binding → Frame → Frame
with_names [] frame = frame
with_names (b ∷ bs) frame = with_names bs (with_key b.key b.number frame)

abbrev pub with_holders : (depth : ℕ) → List Binding → List Object → List Object
with_holders d [] objects = objects
with_holders d (b ∷ bs) objects = with_holders d bs (with_changed_object b.number (with_owner (held d b.key)) objects)

-- where a callee's body came to, for its caller
unfoldable pub back_in : Func → (target : Option ℕ) → (keys : List ℕ) → Func → Frame → Step → Step
back_in f target keys g frame (leaves a kept w) =
    deliver f target a (with_names (bindings keys (entries_after g) kept) frame)
    (with_objects w (with_holders frame.depth (bindings keys (entries_after g) kept) w.objects))
back_in f target keys g frame (ends o w) = ends o w
back_in f target keys g frame (goes _ w) = ends (fault no_return None) w
back_in f target keys g frame (jumps c _ w) = ends (fault no_return None) w

-- ---- returns

unfoldable pub with_returned : Program → Func → Option Operand → Frame → World →
    (Option Value → Frame → World → Step) → Step
with_returned p f None frame w go = go None frame w
with_returned p f (Some o) frame w go = with_operand p f o frame w (λ a frame w. go (Some a) frame w)

abbrev pub new_object : Program → Func → Option Operand → Entry → Frame → List Object → Found Named
new_object p f (Some (pure (var x))) e frame objects = object_of f (λ r. after_set p f e) x frame objects
new_object p f _ e frame objects = Err (fault missing None)

-- the object of a clause's key that is held after; for a new key the one of the variable that is returned
abbrev pub returned_object : Program → Func → Option Operand → Entry → Frame → List Object → Found Named
returned_object p f value e frame objects =
    if is_new e then new_object p f value e frame objects
    else held_object e.key frame objects >>= in_states (after_set p f e)

abbrev pub returned_objects : Program → Func → Option Operand → List Entry → Frame → List Object → Found (List ℕ)
returned_objects p f value [] frame objects = Ok []
returned_objects p f value (e ∷ es) frame objects = do
  n ← returned_object p f value e frame objects
  ns ← returned_objects p f value es frame objects
  Ok (n.number ∷ ns)

-- the frame holds and lends no object but these
abbrev pub holds_only : List ℕ → Frame → List Object → Bool
holds_only kept frame objects =
    list_all (λ q. not (is_at frame.depth q.1.owner) || list_any (λ n. n == q.0) kept) (with_numbers objects)

abbrev pub is_emptied : Func → Frame → Bool
is_emptied f frame = list_all (λ v. is_none (frame.vars v)) (owning_vars f)
