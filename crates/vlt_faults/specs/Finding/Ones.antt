-- The code's tables of single statuses.
use Rattle.std.specs.Prelude.{ℕ, ◌-◌, ◌+◌, ◌^◌, Bool, true, false}
use Rattle.vlt_base.specs.States.{is_bit}
use Rattle.vlt_core.specs.Found.{one_absent, one_held, one_lent, one_full}
use Rattle.vlt_core_laws.specs.Sweep.{Many}
use Rattle.vlt_faults.specs.declared.finding.ones.Ones.{Ones}

abbrev pub many_of : Ones → Many
many_of m one_absent = m.absent
many_of m (one_held i) = is_bit m.held i
many_of m (one_lent i) = is_bit m.lent i
many_of m one_full = m.full

abbrev pub lacks : Bool → ℕ
lacks true = 0
lacks false = 1

-- how much could still come
abbrev pub gap_of : Ones → ℕ
gap_of m = lacks m.absent + (lacks m.full + ((2 ^ 32 - m.held) + (2 ^ 32 - m.lent)))
