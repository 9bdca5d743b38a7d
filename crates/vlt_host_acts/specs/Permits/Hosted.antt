-- Which objects a heap and the table of a host show.
use Rattle.std.specs.Prelude.{◌≡◌, ◌≤◌, ℕ, List}
use Rattle.vlt_heap.specs.declared.heap.Heap.{Heap}
use Rattle.vlt_heap.specs.Items.{Items}
use Rattle.vlt_heap.specs.Shown as heaps
use Rattle.vlt_heap.specs.Shown.{Holds, heap_of}
use Rattle.vlt_meaning.specs.World.{Object}
use Rattle.vlt_acts.specs.Values.Shown.{ShowObjects}
use Rattle.vlt_host_meaning.specs.HostClean.{held_numbers}
use Rattle.vlt_host_acts.specs.declared.permits.held.Held.{Held}
use Rattle.vlt_host_acts.specs.declared.permits.hosted.Hosted.{Hosted}
use Rattle.vlt_host_acts.specs.Permits.Held.{IsSound, numbers_in}

-- these are all objects, and the table has those of them that the host holds
pub record ShowsHeld (heap : Heap) (held : Held) (objects : List Object) : Type 0 where
  pub items : Items
  -- how many slots a cell takes
  pub width : ℕ
  pub holds : Holds heap items
  pub shown : ShowObjects items width objects
  pub numbers : numbers_in held ≡ held_numbers objects

abbrev pub ShowsHosted : Hosted → List Object → Type 0
ShowsHosted h objects = ShowsHeld h.heap.now h.held.now objects

-- some objects are shown, and each has one of the places
pub record IsHosted (h : Hosted) : Type 0 where
  pub heap : heaps.IsSound h.heap.now
  pub held : IsSound h.held.now
  pub places : heap_of h.heap.now ≤ h.places
  pub objects : List Object
  pub shown : ShowsHosted h objects
