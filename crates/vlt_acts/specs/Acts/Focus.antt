-- What a focus comes to in the tables.
use Rattle.std.specs.Prelude.{◌≡◌, ℕ, Some, Ok}
use Rattle.vlt_core.specs.Core.{Func}
use Rattle.vlt_core.specs.Lookups.{Reference, reference_of, guarded_of}
use Rattle.vlt_meaning.specs.World.{reference, one, held, lent, adopted_by, World, Frame}
use Rattle.vlt_meaning.specs.Found.{Named}
use Rattle.vlt_meaning.specs.Objects.{with_owner}
use Rattle.vlt_meaning.specs.Values.{held_object, guarded_object}
use Rattle.vlt_meaning.specs.Run.{lent_object}
use Rattle.vlt_meaning.specs.Step.{with_changed, with_var, with_key}
use Rattle.vlt_heap.specs.declared.slots.Obj.{Obj}
use Rattle.vlt_heap.specs.declared.heap.Heap.{Heap}
use Rattle.vlt_heap.specs.Items.{Items, IsMadeAt}
use Rattle.vlt_acts.specs.declared.values.values.Values.{Values}
use Rattle.vlt_acts.specs.Values.Shown.{Seen}
use Rattle.vlt_acts.specs.declared.acts.focus.Focus.{Focus}
use Rattle.vlt_acts.specs.Acts.Acts.{Shows}

-- what a focus on y as z finds
pub record FindsFocus (h : Heap) (v : Values) (c : Seen h v) (w : World) (y z : ℕ) : Type 0 where
  pub guard : Reference
  pub is_guard : guarded_of c.func y ≡ Some guard
  pub key : Reference
  pub is_key : reference_of c.func z ≡ Some key
  pub adopter : Named
  pub is_adopter : held_object guard.key c.frame w.objects ≡ Ok adopter
  pub object : Named
  pub is_object : guarded_object guard y c.frame w.objects ≡ Ok object

-- it finds all, for some frame and objects that the tables show
pub record CanFocus (h : Heap) (v : Values) (y z : ℕ) : Type 0 where
  pub seen : Seen h v
  pub world : World
  pub objects : world.objects ≡ seen.objects
  pub finds : FindsFocus h v seen world y z

abbrev pub focused_frame : (key number z : ℕ) → Frame → Frame
focused_frame k n z frame = with_var z (Some (one (reference n))) (with_key k n frame)

-- the guard's object is lent, and the other one is held
abbrev pub focused_world : (depth guard key : ℕ) → (adopter number : ℕ) → World → World
focused_world d g k a n w = with_changed (with_changed w a (with_owner (lent d g))) n (with_owner (held d k))

-- what is shown then; both objects are known by their places
pub record HasFocused (before : Items) (heap : Heap) (values : Values) (frame : Frame) (w : World) (object adopter : Obj) (n a : ℕ) : Type 0 where
  pub shows : Shows before heap values frame w.objects
  pub object_made : IsMadeAt shows.items object.0 n
  pub adopter_made : IsMadeAt shows.items adopter.0 a

abbrev pub IsFocus : (h : Heap) (v : Values) (c : Seen h v) (w : World) (y z : ℕ) → FindsFocus h v c w y z → (new : Heap) → (values : Values) → Focus → Type 0
IsFocus h v c w y z f new values r =
    HasFocused c.items new values (focused_frame f.key.key f.object.number z c.frame)
    (focused_world c.frame.depth f.guard.key f.key.key f.adopter.number f.object.number w) r.object r.adopter f.object.number f.adopter.number

-- what the end of a focus finds: the object in focus and its adopter, at their places
pub record FindsEnd (h : Heap) (v : Values) (c : Seen h v) (w : World) (object adopter : Obj) : Type 0 where
  pub key : ℕ
  pub guard : ℕ
  pub number : ℕ
  pub adopter_number : ℕ
  pub object_named : Named
  pub is_object : held_object key c.frame w.objects ≡ Ok object_named
  pub is_number : object_named.number ≡ number
  pub adopter_named : Named
  pub is_adopter : lent_object guard adopter_number c.frame w.objects ≡ Ok adopter_named
  pub object_made : IsMadeAt c.items object.0 number
  pub adopter_made : IsMadeAt c.items adopter.0 adopter_number

pub record CanEnd (h : Heap) (v : Values) (object adopter : Obj) : Type 0 where
  pub seen : Seen h v
  pub world : World
  pub objects : world.objects ≡ seen.objects
  pub finds : FindsEnd h v seen world object adopter

-- the object goes back to its adopter, which is held again
abbrev pub unfocused_world : (depth guard : ℕ) → (adopter number : ℕ) → World → World
unfocused_world d g a n w = with_changed (with_changed w n (with_owner (adopted_by a))) a (with_owner (held d g))

abbrev pub HasEnded : (h : Heap) (v : Values) (c : Seen h v) (w : World) (object adopter : Obj) → FindsEnd h v c w object adopter → (new : Heap) → Type 0
HasEnded h v c w object adopter f new =
    Shows c.items new v c.frame (unfocused_world c.frame.depth f.guard f.adopter_number f.number w).objects

-- ---- what the calls do, whatever frame and objects the tables showed

abbrev pub Focuses : Func → (y z : ℕ) → (old : Heap) → Values → (new : Heap) → Values → Focus → Type 0
Focuses g y z old before new after r =
    (c : Seen old before) (w : World) → c.func ≡ g → w.objects ≡ c.objects → (f : FindsFocus old before c w y z) →
    IsFocus old before c w y z f new after r

abbrev pub Unfocuses : Focus → (old : Heap) → Values → (new : Heap) → Type 0
Unfocuses r old values new =
    (c : Seen old values) (w : World) → w.objects ≡ c.objects → (f : FindsEnd old values c w r.object r.adopter) →
    HasEnded old values c w r.object r.adopter f new
