-- What an answer says is done.
use Rattle.std.specs.Prelude.{◌≡◌, ◌⊎◌, ◌≤◌, ◌<◌, ℕ, ℤ, Bool, true, false, List, [], length, Option, None, Some, Result, Ok, Err, slice_get, vec_capacity}
use Rattle.std.specs.List.{zip}
use Rattle.std.specs.Borrow.{Bor}
use Rattle.vlt_base.specs.declared.ids.TypeId.{TypeId}
use Rattle.vlt_base.specs.declared.ids.KeyId.{KeyId}
use Rattle.vlt_core.specs.Core.{CaseDecl, CaseKey, Entry, Func, Program}
use Rattle.vlt_core.specs.View.{keys_of}
use Rattle.vlt_core.specs.Lookups.{VariantOf, is_new, variant_in, case_at}
use Rattle.vlt_meaning.specs.World.{Value, Object, Frame, Outcome, is_fault, is_out, loose}
use Rattle.vlt_meaning.specs.Found.{Found, ◌>>=◌}
use Rattle.vlt_meaning.specs.Objects.{objects_after_move}
use Rattle.vlt_meaning.specs.Calls.{is_new_key}
use Rattle.vlt_meaning.specs.HostAnswers.{Result as Given, result_read}
use Rattle.vlt_meaning.specs.Externals.{case_objects, case_states, fitting, or_bad, with_answered}
use Rattle.vlt_meaning_laws.specs.Machine.Reached.{NamesKeys}
use Rattle.vlt_heap.specs.declared.heap.Heap.{Heap}
use Rattle.vlt_heap.specs.Items.{Items}
use Rattle.vlt_heap.specs.Shown.{heap_of}
use Rattle.vlt_acts.specs.declared.values.values.Values.{Values}
use Rattle.vlt_acts.specs.Values.Parts.{HaveValue}
use Rattle.vlt_acts.specs.Values.Shown.{Seen}
use Rattle.vlt_acts.specs.Acts.Acts.{Shows}
use Rattle.vlt_steps.specs.declared.stop.Stop.{Stop}
use Rattle.vlt_acts.specs.Hosts.Stops.{outcome_of}
use Rattle.vlt_externals.specs.Back.{AreBack}
use Rattle.vlt_externals.specs.Results.Stated.{Sets}
use Rattle.vlt_externals.specs.Results.Results.{AreBefore, NamesCases, Made, result_made}

-- ---- keys that a call lists

-- the call lists a key of the head, which isn't that of a new object
pub record IsOldKey (g : Func) (keys : List ℕ) (j : ℕ) : Type 0 where
  pub listed : j < length keys
  pub old : is_new_key g j ≡ false

-- a key of a case stands for one of the head
pub record StandsFor (g : Func) (keys args : List ℕ) (k : CaseKey) : Type 0 where
  pub key : ℕ
  pub is : slice_get args k.position ≡ Some key
  pub listed : IsOldKey g keys key

-- the call lists the keys of the clause, those of new objects aside, and those of each case that it can give
pub record ListsKeys (p : Program) (g : Func) (keys : List ℕ) : Type 0 where
  pub entries : (i : ℕ) (e : Entry) → slice_get g.clause i ≡ Some e → is_new e ≡ false → IsOldKey g keys e.key
  pub cases : (v : VariantOf) (c i : ℕ) (d : CaseDecl) (k : CaseKey) → variant_in g.result ≡ Some v →
      case_at p v.type c ≡ Some d → slice_get d.keys i ≡ Some k → StandsFor g keys v.args k

-- ---- the case that an answer gives

abbrev pub variant_view : Option (TypeId × Bor (List KeyId)) → Option VariantOf
variant_view None = None
variant_view (Some q) = Some (record { type = q.0.0; args = keys_of q.1.now })

-- its objects come back to its value, or one of them wasn't out
abbrev pub ComesIn : Program → Func → (keys : List ℕ) → (result : List ℤ) → Values → (old new : Heap) → Bool → Type 0
ComesIn p g keys rs values old new b =
    (c : Seen old values) (given : Given) → NamesCases p g keys c.frame → result_read p g.result rs ≡ Some (given, []) →
    AreBack c.items new values c.frame b (objects_after_move is_out loose (case_objects p g keys c.frame given) c.objects)

-- they get their states
abbrev pub SetsResult : Program → Func → (keys : List ℕ) → (result : List ℤ) → Values → (old new : Heap) → Type 0
SetsResult p g keys rs values old new =
    (c : Seen old values) (given : Given) → NamesCases p g keys c.frame → result_read p g.result rs ≡ Some (given, []) →
    Sets values old new (λ frame. zip (case_objects p g keys frame given) (case_states given)) c

-- ---- the whole answer

-- what comes of an answer, the position of which is this one
abbrev pub made_of_answer : (budget : ℕ) → Program → Func → (keys : List ℕ) → (position : ℕ) → Frame → (numbers : List ℤ) → List Object → Found Made
made_of_answer b p g keys n frame zs objects = do
  q ← or_bad n (fitting p g keys frame zs objects)
  result_made b p g keys q.answer.states q.answer.result frame (with_answered p g keys frame q.answer q.objects)

pub record HasHeeded (before : Items) (heap : Heap) (values : Values) (to : ℕ) (r : Result (Unit {0}) Stop) (m : Made) : Type 0 where
  pub is : r ≡ Ok tt
  pub shows : Shows before heap values m.frame m.objects
  pub value : (a : Value) → m.value ≡ Some a → HaveValue shows.items values.slots.items to values.width a
  pub keys_before : AreBefore to values m.frame

pub record HasHalted (r : Result (Unit {0}) Stop) (o : Outcome) : Type 0 where
  pub stop : Stop
  pub is : r ≡ Err stop
  pub outcome : outcome_of stop ≡ Some o

-- what it says was done, or the run ends, or goes wrong
abbrev pub IsHeeded : Items → Heap → Values → (to : ℕ) → Result (Unit {0}) Stop → Found Made → Type 0
IsHeeded before heap values to r (Ok m) = HasHeeded before heap values to r m
IsHeeded before heap values to r (Err o) = (is_fault o ≡ true) ⊎ HasHalted r o

-- whatever the tables showed; the value stands after all that stood there
abbrev pub Heeds : Program → Func → (keys : List ℕ) → (position : ℕ) → List ℤ → (old new : Values) → (before after : Heap) → Result (Unit {0}) Stop → Type 0
Heeds p g keys n zs old new before after r =
    (c : Seen before old) → NamesKeys g keys c.frame →
    IsHeeded c.items after new (length old.slots.items) r (made_of_answer (heap_of before) p g keys n c.frame zs c.objects)

-- the frame stands where it stood, all below it is as it was, and there is as much room
pub record IsSameBelow (old new : Values) : Type 0 where
  pub below : (k : ℕ) → k < old.base → slice_get new.slots.items k ≡ slice_get old.slots.items k
  pub room : vec_capacity old.slots ≤ vec_capacity new.slots
  pub base : new.base ≡ old.base
  pub vars : new.vars ≡ old.vars
  pub width : new.width ≡ old.width
