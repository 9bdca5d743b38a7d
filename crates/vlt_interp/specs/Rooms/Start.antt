-- What a run begins with.
use Rattle.std.specs.Prelude.{◌≡◌, [], length, vec_capacity}
use Rattle.vlt_base.specs.declared.Budgets.{Budgets}
use Rattle.vlt_core.specs.Core.{Program}
use Rattle.vlt_heap.specs.Shown.{Holds, IsSound, heap_of, slots_of}
use Rattle.vlt_acts.specs.Values.Shown.{IsTable}
use Rattle.vlt_interp.specs.Tasks.Sizes.{IsWide}
use Rattle.vlt_interp.specs.declared.rooms.start.Start.{Start}
use Rattle.vlt_interp.specs.Rooms.Rooms.{HoldsFields, HoldsFrames, HoldsTasks, HoldsLine}

-- nothing was put into the tables, and there is room for a whole run
pub record IsSet (p : Program) (b : Budgets) (s : Start) : Type 0 where
  pub wide : IsWide p s.values.width
  pub heap : IsSound s.heap
  pub no_objects : Holds s.heap []
  pub budget : heap_of s.heap ≡ b.heap
  pub cells : HoldsFields p s.values.width (slots_of s.heap)
  pub table : IsTable s.values
  pub no_values : length s.values.slots.items ≡ 0
  pub values : HoldsFrames p b.depth s.values.width (vec_capacity s.values.slots)
  pub no_tasks : length s.tasks.items ≡ 0
  pub tasks : HoldsTasks p b.depth (vec_capacity s.tasks)
  pub line : HoldsLine p (vec_capacity s.line)
