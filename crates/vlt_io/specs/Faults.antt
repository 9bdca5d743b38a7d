-- Counts that stay at their last value.
use Rattle.std.specs.Prelude.{ℕ, ◌+◌, min}
use Rattle.vlt_io.specs.declared.faults.Faults.{Faults}
use Rattle.vlt_io.specs.Outside.{last_count}

abbrev pub count_of : Faults → ℕ
count_of faults = faults.count

-- the next value of a count
abbrev pub one_more : ℕ → ℕ
one_more n = min (n + 1) last_count
