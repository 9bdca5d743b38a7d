-- What a statement without blocks comes to in the tables.
use Rattle.std.specs.Prelude.{◌≡◌, ◌<◌, ◌≤◌, ℕ, true, false, List, length, Result, Ok, Err, slice_get, vec_capacity, IfSome}
use Rattle.vlt_ops.specs.declared.TrapKind.{TrapKind}
use Rattle.vlt_core.specs.Lookups.{reference_of}
use Rattle.vlt_core.specs.Core.{Simple, Func, Program}
use Rattle.vlt_meaning.specs.World.{Object, World, Frame, Outcome, trap, is_fault}
use Rattle.vlt_meaning.specs.Step.{Step, goes, jumps, leaves, ends}
use Rattle.vlt_meaning.specs.Run.{Setup, does_simple}
use Rattle.vlt_heap.specs.declared.heap.Heap.{Heap}
use Rattle.vlt_heap.specs.Items.{Items, IsMadeAt}
use Rattle.vlt_heap.specs.Shown.{Holds}
use Rattle.vlt_acts.specs.declared.values.values.Values.{Values}
use Rattle.vlt_acts.specs.Values.Shown.{ShowObjects, ShowsFrame, Seen, key_at}

-- the setup of a run of the program
abbrev pub setup : Program → (heap depth : ℕ) → Setup
setup p heap depth = record { program = p; heap = heap; depth = depth }

-- The tables show this frame and these objects. What was made before is known still, so that the waiting frames' slots
-- keep what they refer to.
pub record Shows (before : Items) (heap : Heap) (values : Values) (frame : Frame) (objects : List Object) : Type 0 where
  pub items : Items
  pub holds : Holds heap items
  pub objects_shown : ShowObjects items values.width objects
  pub frame_shown : ShowsFrame items values frame
  pub kept : (c n : ℕ) → IsMadeAt before c n → IsMadeAt items c n

pub record HasDone (before : Items) (heap : Heap) (values : Values) (r : Result (Unit {0}) TrapKind) (frame : Frame) (w : World) : Type 0 where
  pub is : r ≡ Ok tt
  pub shows : Shows before heap values frame w.objects

-- the statement is done, or the run traps, or goes wrong
abbrev pub Does : (before : Items) → Heap → Values → Result (Unit {0}) TrapKind → Step → Type 0
Does before heap values r (goes frame w) = HasDone before heap values r frame w
Does before heap values r (ends (trap t) w) = r ≡ Err t
Does before heap values r (ends o w) = is_fault o ≡ true
Does before heap values r (jumps c frame w) = ⊥
Does before heap values r (leaves a kept w) = ⊥

-- whatever frame and objects the tables showed
abbrev pub DoesIt : (old : Heap) → Values → (new : Heap) → Values → Result (Unit {0}) TrapKind → Simple → Type 0
DoesIt old before new after r s =
    (c : Seen old before) (w : World) (n d : ℕ) → w.objects ≡ c.objects →
    Does c.items new after r (does_simple (setup c.program n d) c.func s c.frame w)

-- in this function, whatever the heap
abbrev pub DoesIn : Func → (old new : Values) → Simple → Type 0
DoesIn f old new s =
    (h : Heap) (c : Seen h old) (w : World) (n d : ℕ) → c.func ≡ f → w.objects ≡ c.objects →
    Does c.items h new (Ok tt) (does_simple (setup c.program n d) c.func s c.frame w)

-- there is a slot for the key of a tracked variable
abbrev pub HasKeySlot : Func → (x : ℕ) → Values → Type 0
HasKeySlot f x values = IfSome (reference_of f x) (λ r. key_at values r.key < length values.slots.items)

-- the statement doesn't go wrong, for some frame and objects that the tables show
pub record IsRight (heap : Heap) (values : Values) (s : Simple) : Type 0 where
  pub seen : Seen heap values
  pub world : World
  pub objects : world.objects ≡ seen.objects
  pub heap_budget : ℕ
  pub depth : ℕ
  pub right : (o : Outcome) (w : World) → does_simple (setup seen.program heap_budget depth) seen.func s seen.frame world ≡ ends o w → is_fault o ≡ false

-- the frame stands where it stood, all below it is as it was, and there is as much room
pub record IsSameFrame (old new : Values) : Type 0 where
  pub below : (k : ℕ) → k < old.base → slice_get new.slots.items k ≡ slice_get old.slots.items k
  pub long : length new.slots.items ≡ length old.slots.items
  pub room : vec_capacity old.slots ≤ vec_capacity new.slots
  pub base : new.base ≡ old.base
  pub vars : new.vars ≡ old.vars
  pub width : new.width ≡ old.width
