-- How many slots a run that a host begins can need.
use Rattle.std.specs.Prelude.{ℕ, ◌+◌}
use Rattle.vlt_core.specs.Core.{Program}
use Rattle.vlt_core.specs.Widths.{slots_needed}

-- the slots of so many frames and objects, with one more for each object
abbrev pub slots_needed_by_host : Program → (depth heap : ℕ) → ℕ
slots_needed_by_host p depth heap = slots_needed p depth heap + heap
