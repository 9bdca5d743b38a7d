-- Objects that come back from the host, and the states that they get.
use Rattle.std.specs.Prelude.{◌≡◌, ◌⊎◌, ℕ, Bool, true, false, List, [], ◌∷◌, Some, Ok, Err}
use Rattle.vlt_core.specs.Core.{Entry}
use Rattle.vlt_heap.specs.declared.heap.Heap.{Heap}
use Rattle.vlt_heap.specs.declared.slots.Obj.{Obj}
use Rattle.vlt_heap.specs.Items.{Items, with_state as item_state}
use Rattle.vlt_heap.specs.Shown.{Changes, Tells}
use Rattle.vlt_meaning.specs.World.{Object, Frame}
use Rattle.vlt_meaning.specs.Found.{Found}
use Rattle.vlt_meaning.specs.Objects.{with_state, with_changed_object}
use Rattle.vlt_meaning.specs.Externals.{is_given, come_back}
use Rattle.vlt_acts.specs.declared.values.values.Values.{Values}
use Rattle.vlt_acts.specs.Values.Shown.{Seen}
use Rattle.vlt_acts.specs.Acts.Acts.{Shows}
use Rattle.vlt_externals.specs.Sent.{IsNamed}

-- each key that is given names an object
abbrev pub AreGiven : (keys : List ℕ) → Frame → List Entry → Type 0
AreGiven keys frame [] = Unit {0}
AreGiven keys frame (e ∷ es) = (is_given e ≡ true → IsNamed keys frame e) × AreGiven keys frame es

-- all came back, or one of them wasn't out
abbrev pub AreBack : Items → Heap → Values → Frame → Bool → Found (List Object) → Type 0
AreBack items heap values frame b (Ok objects) = (b ≡ true) × Shows items heap values frame objects
AreBack items heap values frame b (Err o) = b ≡ false

-- whatever frame and objects the tables showed
abbrev pub ComesBack : (keys : List ℕ) → List Entry → Values → (old new : Heap) → Bool → Type 0
ComesBack keys es values old new b =
    (c : Seen old values) → AreGiven keys c.frame es →
    AreBack c.items new values c.frame b (come_back keys c.frame es c.objects)

-- the object of this number at the place is there, and its state is set
pub record HasSet (o : Obj) (number state : ℕ) (old new : Heap) : Type 0 where
  pub there : Tells true o number old
  pub changes : Changes o (item_state state) old new

-- so it is, or it is gone, and nothing changed
abbrev pub IsStateSet : Obj → (number state : ℕ) → (old new : Heap) → Type 0
IsStateSet o n s old new = HasSet o n s old new ⊎ (Tells false o n old × (new ≡ old))

-- the object that a key names gets a state
abbrev pub Becomes : (key state : ℕ) → Values → (old new : Heap) → Type 0
Becomes k s values old new =
    (c : Seen old values) (n : ℕ) → c.frame.keys k ≡ Some n →
    Shows c.items new values c.frame (with_changed_object n (with_state s) c.objects)
