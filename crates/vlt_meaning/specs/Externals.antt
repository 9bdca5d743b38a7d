-- Calls of externals: what goes out to the host, and what comes of its answer.
use Rattle.std.specs.Prelude.{ℕ, ℤ, Bool, ◌&&◌, not, if◌then◌else◌, List, [], ◌∷◌, ◌++◌, map, filter, Option, Some, None, Ok, Err, IsTrue, slice_get}
use Rattle.std.specs.List.{flat_map, zip}
use Rattle.std.specs.Option.{option_map, option_to_list, option_and_then}
use Rattle.std.specs.Result.{is_ok}
use Rattle.vlt_core.specs.Core.{Ty, tracked, owning, CaseDecl, Entry, Func, Program}
use Rattle.vlt_core.specs.Lookups.{is_held_before, is_held_after, is_new, VariantOf, variant_in, KeyIn, keys_in, cases_of, case_keys, case_at}
use Rattle.vlt_meaning.specs.World.{Part, reference, owned, Value, one, of_case, objects_in, Owner, held, loose, out, Object, is_loose, is_out, is_at, called, World, Frame, Outcome, bad_answer, missing, no_value}
use Rattle.vlt_meaning.specs.World as world
use Rattle.vlt_meaning.specs.Found.{Found, ◌>>=◌, or_fault}
use Rattle.vlt_meaning.specs.Objects.{with_state, with_changed_object, objects_after_move}
use Rattle.vlt_meaning.specs.Step.{Step, with_found, with_objects, with_event, with_answer, with_moved, with_made, with_key, deliver}
use Rattle.vlt_meaning.specs.Calls.{entries_after, caller_object, passed_objects, Binding, binding}
use Rattle.vlt_meaning.specs.HostAnswers.{Piece, plain, new_in, Result, nothing, piece, case_with, Answer, answer_of}

-- ---- what goes out, and what comes back

abbrev pub is_taken : Entry → Bool
is_taken e = is_held_before e && not (is_held_after e)

abbrev pub is_given : Entry → Bool
is_given e = not (is_held_before e) && not (is_new e)

-- the keys of the head that the cases of its result list
abbrev pub keys_in_cases : Program → Option VariantOf → List ℕ
keys_in_cases p None = []
keys_in_cases p (Some v) =
    map (λ j. j.key) (flat_map (λ d. keys_in v.args (Some d)) (cases_of p v.type))

-- the keys of the head whose objects an answer can bring back: those that are given, and those in cases
abbrev pub awaited_keys : Program → Func → List ℕ
awaited_keys p g =
    map (λ e. e.key) (filter is_given g.clause) ++ keys_in_cases p (variant_in g.result)

-- the objects that the caller's keys name which stand for keys of the head
abbrev pub named_objects : (keys : List ℕ) → Frame → (head_keys : List ℕ) → Found (List ℕ)
named_objects keys frame [] = Ok []
named_objects keys frame (j ∷ js) = do
  k ← or_fault missing (slice_get keys j)
  n ← or_fault no_value (frame.keys k)
  ns ← named_objects keys frame js
  Ok (n ∷ ns)

-- the objects of the keys that are taken
abbrev pub taken_objects : (keys : List ℕ) → Frame → List Entry → List ℕ
taken_objects keys frame [] = []
taken_objects keys frame (e ∷ es) =
    (if is_taken e then option_to_list (caller_object keys frame e) else []) ++ taken_objects keys frame es

-- the objects of the keys that are given come back in order, each to its key; each has to be out
abbrev pub come_back : (keys : List ℕ) → Frame → List Entry → List Object → Found (List Object)
come_back keys frame [] objects = Ok objects
come_back keys frame (e ∷ es) objects =
    if is_given e then (do
      k ← or_fault missing (slice_get keys e.key)
      n ← or_fault missing (frame.keys k)
      back ← objects_after_move is_out (held frame.depth k) (n ∷ []) objects
      come_back keys frame es back)
    else come_back keys frame es objects

abbrev pub objects_of_keys : (keys : List ℕ) → Frame → List KeyIn → List ℕ
objects_of_keys keys frame = flat_map (λ j. option_to_list (option_and_then frame.keys (slice_get keys j.key)))

abbrev pub keys_of_case : Program → Option VariantOf → Result → List KeyIn
keys_of_case p (Some v) (case_with c states pieces) = case_keys p v c
keys_of_case p _ _ = []

-- the objects of the keys of the case that an answer gives
abbrev pub case_objects : Program → Func → (keys : List ℕ) → Frame → Result → List ℕ
case_objects p g keys frame r = objects_of_keys keys frame (keys_of_case p (variant_in g.result) r)

-- ---- states

abbrev pub case_states : Result → List ℕ
case_states (case_with c states pieces) = states
case_states _ = []

-- the states of the objects whose keys were there before
abbrev pub entry_states : (keys : List ℕ) → Frame → List Entry → (states : List ℕ) → List (ℕ × ℕ)
entry_states keys frame (e ∷ es) (s ∷ ss) =
    (if is_new e then [] else option_to_list (option_map (λ n. (n, s)) (caller_object keys frame e))) ++
    entry_states keys frame es ss
entry_states keys frame _ _ = []

-- objects by position, each with its new state
abbrev pub with_states : List (ℕ × ℕ) → List Object → List Object
with_states [] objects = objects
with_states (q ∷ qs) objects = with_states qs (with_changed_object q.0 (with_state q.1) objects)

-- the states that an answer gives to objects that were there before
abbrev pub with_answered : Program → Func → (keys : List ℕ) → Frame → Answer → List Object → List Object
with_answered p g keys frame a objects =
    with_states (zip (case_objects p g keys frame a.result) (case_states a.result))
    (with_states (entry_states keys frame (entries_after g) a.states) objects)

-- ---- answers that fit

-- what an answer says, and the objects when those that come back have come back
pub record Fitting : Type 0 where
  pub answer : Answer
  pub objects : List Object

-- An answer whose numbers fit, where each object that comes back is out at its turn. That its keys name
-- objects a call finds before it asks.
abbrev pub fitting : Program → Func → (keys : List ℕ) → Frame → (numbers : List ℤ) → List Object → Found Fitting
fitting p g keys frame numbers objects = do
  a ← or_fault missing (answer_of p g numbers)
  back ← come_back keys frame g.clause objects
  all ← objects_after_move is_out loose (case_objects p g keys frame a.result) back
  Ok (record { answer = a; objects = all })

-- an answer keeps its external's clause
abbrev pub KeepsClause : Program → Func → (keys : List ℕ) → Frame → (numbers : List ℤ) → List Object → Type 0
KeepsClause p g keys frame numbers objects = IsTrue (is_ok (fitting p g keys frame numbers objects))

abbrev pub or_bad : {A : Type 0} → (position : ℕ) → Found A → Found A
or_bad position (Ok a) = Ok a
or_bad position (Err o) = Err (bad_answer position)

-- ---- results

-- a new object that a host made
abbrev pub from_host : (type state : ℕ) → Owner → Object
from_host t s owner = record { type = t; state = s; cells = []; owner = owner }

abbrev pub type_in : Option Ty → ℕ
type_in (Some (tracked k t args)) = t
type_in (Some (owning states t args)) = t
type_in _ = 0

unfoldable pub with_pieces : (heap : ℕ) → List Ty → List Piece → World → (List Part → World → Step) → Step
with_pieces heap (t ∷ ts) (plain z ∷ rest) w go =
    with_pieces heap ts rest w (λ parts w. go (world.number z ∷ parts) w)
with_pieces heap (t ∷ ts) (new_in s ∷ rest) w go =
    with_made heap (from_host (type_in (Some t)) s loose) w (λ n w.
    with_pieces heap ts rest w (λ parts w. go (owned n ∷ parts) w))
with_pieces heap _ _ w go = go [] w

abbrev pub payload_in : Option CaseDecl → List Ty
payload_in None = []
payload_in (Some d) = d.payload

-- the caller's key for the key of a `new` entry, with the state that the answer gives its object
abbrev pub new_key : (keys : List ℕ) → List Entry → (states : List ℕ) → Option Binding
new_key keys (e ∷ es) (s ∷ ss) =
    if is_new e then option_map (binding s) (slice_get keys e.key) else new_key keys es ss
new_key keys _ _ = None

-- the object of a `new` key, where the clause has one; the result is a reference to it
unfoldable pub with_fresh : (heap type : ℕ) → Option Binding → Frame → World →
    (Option Value → Frame → World → Step) → Step
with_fresh heap t None frame w go = go None frame w
with_fresh heap t (Some b) frame w go =
    with_made heap (from_host t b.number (held frame.depth b.key)) w (λ n w.
    go (Some (one (reference n))) (with_key b.key n frame) w)

-- the result of a call; new objects are made for it
unfoldable pub with_result : (heap : ℕ) → Program → Func → (keys states : List ℕ) → Result → Frame → World →
    (Option Value → Frame → World → Step) → Step
with_result heap p g keys states nothing frame w go =
    with_fresh heap (type_in g.result) (new_key keys (entries_after g) states) frame w go
with_result heap p g keys states (piece (plain z)) frame w go = go (Some (one (world.number z))) frame w
with_result heap p g keys states (piece (new_in s)) frame w go =
    with_made heap (from_host (type_in g.result) s loose) w (λ n w. go (Some (one (owned n))) frame w)
with_result heap p g keys states (case_with c ss pieces) frame w go =
    with_found (or_fault missing (variant_in g.result)) w (λ v.
    with_pieces heap (payload_in (case_at p v.type c)) pieces w (λ parts w.
    go (Some (of_case c parts (case_objects p g keys frame (case_with c ss pieces)))) frame w))

-- The objects of keys are found first, so that an answer is bad only by what it says. Then the event is
-- written and the next answer taken, objects go out, and what the answer says is done.
unfoldable pub call_external : (heap : ℕ) → Program → Func → (target : Option ℕ) → (keys : List ℕ) → Func →
    List Value → Frame → World → Step
call_external heap p f target keys g args frame w =
    with_found (passed_objects p g keys frame w.objects g.clause) w (λ ns.
    with_found (named_objects keys frame (awaited_keys p g)) w (λ ms.
    with_answer (with_event w (called g.name args)) (λ numbers w.
    with_moved (is_at frame.depth) out (taken_objects keys frame g.clause) w (λ w.
    with_moved is_loose out (flat_map objects_in args) w (λ w.
    with_found (or_bad w.taken (fitting p g keys frame numbers w.objects)) w (λ q.
    with_result heap p g keys q.answer.states q.answer.result frame
    (with_objects w (with_answered p g keys frame q.answer q.objects)) (deliver f target)))))))
