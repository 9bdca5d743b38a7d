-- Where a step comes to, and the changes that steps are made of.
use Rattle.std.specs.Prelude.{ℕ, ◌+◌, ◌-◌, ◌==◌, ℤ, Bool, true, false, ◌&&◌, not, if◌then◌else◌, List, [], ◌∷◌, ◌++◌, length, Option, Some, None, is_some, is_none, Ok, Err}
use Rattle.std.specs.List.{list_any, list_all}
use Rattle.vlt_ops.specs.Operator.{bool_number}
use Rattle.vlt_core.specs.Core.{Tok, a_key, a_var, Func, Program}
use Rattle.vlt_core.specs.Lookups.{is_owning_var}
use Rattle.vlt_meaning.specs.World.{Value, Owner, Object, is_loose, is_held_under, Event, World, is_full, Frame, Reason, Outcome, fuel_end, heap_end, input_end, answers_end, fault, missing, not_empty, wrong_state, left_behind, no_value}
use Rattle.vlt_meaning.specs.Found.{Found, or_fault}
use Rattle.vlt_meaning.specs.Objects.{with_changed_object, objects_after_move, owned_at, is_releasable, objects_after_release}

-- the next statement; the next turn or the end of a loop; the function's end, with the value and the objects of the
-- clause's keys that are held after; or the end of the run
pub data Step : Type 0 where
  goes : Frame → World → Step
  jumps : (continues : Bool) → Frame → World → Step
  leaves : Option Value → (kept : List ℕ) → World → Step
  ends : Outcome → World → Step

-- goes on with what is found
unfoldable pub with_found : {A : Type 0} → Found A → World → (A → Step) → Step
with_found (Ok a) w go = go a
with_found (Err o) w go = ends o w

-- goes on where the test holds; else it is a fault, at this object where there is one
unfoldable pub where_so : Bool → Reason → (object : Option ℕ) → World → (World → Step) → Step
where_so true reason object w go = go w
where_so false reason object w go = ends (fault reason object) w

-- ---- the world

abbrev pub with_objects : World → List Object → World
with_objects w objects = record w { objects = objects }

abbrev pub with_changed : World → (n : ℕ) → (Object → Object) → World
with_changed w n change = with_objects w (with_changed_object n change w.objects)

abbrev pub with_event : World → Event → World
with_event w e = record w { events = w.events ++ e ∷ [] }

-- one unit of fuel less, or the end where there is none
unfoldable pub spend : World → (World → Step) → Step
spend w go = if w.fuel == 0 then ends fuel_end w else go (record w { fuel = w.fuel - 1 })

abbrev pub is_more : List ℤ → Bool
is_more [] = false
is_more _ = true

unfoldable pub first_input : List ℤ → World → (ℤ → World → Step) → Step
first_input [] w go = ends input_end w
first_input (z ∷ zs) w go = go z (record w { input = zs })

-- whether there is more input, or the next number of it
unfoldable pub with_input : (more : Bool) → World → (ℤ → World → Step) → Step
with_input true w go = go (bool_number (is_more w.input)) w
with_input false w go = first_input w.input w go

unfoldable pub first_answer : List (List ℤ) → World → (List ℤ → World → Step) → Step
first_answer [] w go = ends answers_end w
first_answer (a ∷ rest) w go = go a (record w { answers = rest; taken = w.taken + 1 })

-- an answer is taken, if there is one
unfoldable pub with_answer : World → (List ℤ → World → Step) → Step
with_answer w go = first_answer w.answers w go

-- a new object is the last one
unfoldable pub with_made : (heap : ℕ) → Object → World → (ℕ → World → Step) → Step
with_made heap o w go =
    if is_full heap w.objects then ends heap_end w
    else go (length w.objects) (with_objects w (w.objects ++ o ∷ []))

-- the objects at these positions, which pass the test, get a new owner
unfoldable pub with_moved : (Owner → Bool) → Owner → List ℕ → World → (World → Step) → Step
with_moved from to ns w go = with_found (objects_after_move from to ns w.objects) w (λ objects. go (with_objects w objects))

-- the object is released, with all below it
unfoldable pub with_released : Program → (n : ℕ) → World → (World → Step) → Step
with_released p n w go =
    where_so (is_releasable p w.objects n) wrong_state (Some n) w (λ w. go (with_objects w (objects_after_release n w.objects)))

-- the objects of a value are released, one after another
unfoldable pub with_dropped : Program → List ℕ → World → (World → Step) → Step
with_dropped p [] w go = go w
with_dropped p (n ∷ ns) w go =
    with_found (owned_at is_loose w.objects n) w (λ m. with_released p n w (λ w. with_dropped p ns w go))

-- ---- the frame

-- a map from numbers, changed at one
abbrev pub set_at : {A : Type 0} → ℕ → Option A → (ℕ → Option A) → ℕ → Option A
set_at x a old y = if y == x then a else old y

abbrev pub with_var : (v : ℕ) → Option Value → Frame → Frame
with_var v a frame = record frame { vars = set_at v a frame.vars }

abbrev pub with_key : (k : ℕ) → (n : ℕ) → Frame → Frame
with_key k n frame = record frame { keys = set_at k (Some n) frame.keys }

-- an owning variable is filled only while it is empty
abbrev pub is_fillable : Func → (v : ℕ) → Frame → Bool
is_fillable f v frame = not (is_owning_var f v && is_some (frame.vars v))

-- a variable gets a value
unfoldable pub fill : Func → (v : ℕ) → Value → Frame → World → Step
fill f v a frame w = where_so (is_fillable f v frame) not_empty None w (λ w. goes (with_var v (Some a) frame) w)

-- variables get as many values
unfoldable pub with_filled : Func → List ℕ → List Value → Frame → World → (Frame → Step) → Step
with_filled f (v ∷ vs) (a ∷ rest) frame w go =
    where_so (is_fillable f v frame) not_empty None w (λ w. with_filled f vs rest (with_var v (Some a) frame) w go)
with_filled f [] [] frame w go = go frame
with_filled f _ _ frame w go = ends (fault missing None) w

-- what a call gives, for the variable that it is for
unfoldable pub deliver : Func → (target : Option ℕ) → Option Value → Frame → World → Step
deliver f None a frame w = goes frame w
deliver f (Some v) a frame w = with_found (or_fault no_value a) w (λ a. fill f v a frame w)

-- ---- what comes after a statement

unfoldable pub then_do : Step → (Frame → World → Step) → Step
then_do (goes frame w) go = go frame w
then_do other go = other

-- after the body of a loop: its next turn, or its end
unfoldable pub then_turn : Step → (Frame → World → Step) → Step
then_turn (goes frame w) go = go frame w
then_turn (jumps true frame w) go = go frame w
then_turn (jumps false frame w) go = goes frame w
then_turn other go = other

-- nothing is held under a key, and an owning variable is empty
abbrev pub is_unused : Frame → List Object → Tok → Bool
is_unused frame objects (a_key k) = not (list_any (λ o. is_held_under frame.depth k o.owner) objects)
is_unused frame objects (a_var v) = is_none (frame.vars v)

abbrev pub are_unused : List Tok → Frame → World → Bool
are_unused bound frame w = list_all (is_unused frame w.objects) bound

-- A block that is left leaves nothing behind under what it bound. The function's end has a test of its own.
unfoldable pub left_block : List Tok → Step → Step
left_block bound (goes frame w) = where_so (are_unused bound frame w) left_behind None w (λ w. goes frame w)
left_block bound (jumps c frame w) = where_so (are_unused bound frame w) left_behind None w (λ w. jumps c frame w)
left_block bound other = other
