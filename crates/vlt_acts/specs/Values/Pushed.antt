-- Values that were put at the end of the table.
use Rattle.std.specs.Prelude.{◌≡◌, ◌+◌, ◌*◌, ℕ, true, List, [], ◌∷◌, length, Result, Ok, Err}
use Rattle.vlt_ops.specs.declared.TrapKind.{TrapKind}
use Rattle.vlt_heap.specs.declared.slots.Slot.{Slot}
use Rattle.vlt_heap.specs.Items.{Items}
use Rattle.vlt_meaning.specs.World.{Value, Object, World, Frame, trap, is_fault}
use Rattle.vlt_meaning_laws.specs.Machine.Got.{Got, got, stopped}
use Rattle.vlt_acts.specs.declared.values.values.Values.{Values}
use Rattle.vlt_acts.specs.Values.Parts.{HaveValue}
use Rattle.vlt_acts.specs.Values.Shown.{ShowObjects, ShowsFrame}

-- so many slots each have these values
abbrev pub HaveValues : Items → List Slot → (from width : ℕ) → List Value → Type 0
HaveValues items slots k width [] = Unit {0}
HaveValues items slots k width (a ∷ rest) =
    HaveValue items slots k width a × HaveValues items slots (k + width) width rest

-- this frame and these objects are shown
pub record Shows (items : Items) (values : Values) (frame : Frame) (objects : List Object) : Type 0 where
  pub objects_shown : ShowObjects items values.width objects
  pub frame_shown : ShowsFrame items values frame

pub record HasPushed (items : Items) (old new : Values) (r : Result (Unit {0}) TrapKind) (a : Value) (frame : Frame) (w : World) : Type 0 where
  pub is : r ≡ Ok tt
  pub value : HaveValue items new.slots.items (length old.slots.items) old.width a
  pub shows : Shows items new frame w.objects

-- the value stands at the end, or the run traps, or goes wrong
abbrev pub IsPushed : Items → (old new : Values) → Result (Unit {0}) TrapKind → Got Value → Type 0
IsPushed items old new r (got a frame w) = HasPushed items old new r a frame w
IsPushed items old new r (stopped (trap t) w) = r ≡ Err t
IsPushed items old new r (stopped o w) = is_fault o ≡ true

pub record HavePushed (items : Items) (old new : Values) (r : Result (Unit {0}) TrapKind) (values : List Value) (frame : Frame) (w : World) : Type 0 where
  pub is : r ≡ Ok tt
  pub long : length new.slots.items ≡ length old.slots.items + length values * old.width
  pub values_at : HaveValues items new.slots.items (length old.slots.items) old.width values
  pub shows : Shows items new frame w.objects

abbrev pub ArePushed : Items → (old new : Values) → Result (Unit {0}) TrapKind → Got (List Value) → Type 0
ArePushed items old new r (got values frame w) = HavePushed items old new r values frame w
ArePushed items old new r (stopped (trap t) w) = r ≡ Err t
ArePushed items old new r (stopped o w) = is_fault o ≡ true
