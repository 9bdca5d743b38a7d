-- What a function is entered with, and what the table shows then.
use Rattle.std.specs.Prelude.{◌≡◌, ℕ, List, length, Ok}
use Rattle.vlt_core.specs.Core.{Func}
use Rattle.vlt_heap.specs.declared.heap.Heap.{Heap}
use Rattle.vlt_meaning.specs.World.{Value, World}
use Rattle.vlt_meaning.specs.Calls.{passed_objects, handed_over, callee_frame}
use Rattle.vlt_acts.specs.declared.values.values.Values.{Values}
use Rattle.vlt_acts.specs.Values.Shown.{Seen}
use Rattle.vlt_acts.specs.Values.Pushed.{HaveValues, Shows}
use Rattle.vlt_acts.specs.Frames.Frames.{frame_end, NamesOwn, Stands}

-- after the frame of f the values of the arguments stand, and the objects that g's clause wants are there
pub record IsCall (f g : Func) (keys : List ℕ) (h : Heap) (values : Values) (c : Seen h values) (w : World) (args : List Value) : Type 0 where
  pub caller : c.func ≡ f
  pub objects : w.objects ≡ c.objects
  pub names : NamesOwn f c.frame
  pub count : length args ≡ g.params
  pub values_at : HaveValues c.items values.slots.items (frame_end values.width values.base f) values.width args
  pub numbers : List ℕ
  pub passed : passed_objects c.program g keys c.frame w.objects g.clause ≡ Ok numbers

-- the callee's frame runs, and the caller's stands below it
pub record HasEntered (f g : Func) (keys : List ℕ) (h : Heap) (old new : Values) (c : Seen h old) (w : World) (args : List Value) : Type 0 where
  pub shows : Shows c.items new (callee_frame g keys args c.frame) (handed_over keys c.frame g.clause w.objects)
  pub stands : Stands c.items new f old.base c.frame

-- whatever the table showed
abbrev pub Enters : (f g : Func) → (keys : List ℕ) → (old new : Values) → Type 0
Enters f g keys old new =
    (h : Heap) (c : Seen h old) (w : World) (args : List Value) → IsCall f g keys h old c w args →
    HasEntered f g keys h old new c w args
