-- Calls that are counted, some of which are to fail.
use Rattle.std.specs.Prelude.{ℕ, Bool, ◌==◌, List}
use Rattle.std.specs.List.{list_any}
use Rattle.vlt_io.specs.declared.calls.Calls.{Calls}
use Rattle.vlt_io.specs.Faults.{count_of, one_more}

abbrev pub failing_of : Calls → List ℕ
failing_of calls = calls.failing.items

abbrev pub made_of : Calls → ℕ
made_of calls = calls.made

abbrev pub faults_of : Calls → ℕ
faults_of calls = count_of calls.faults

-- whether the call after so many is among those that are to fail
abbrev pub is_to_fail : List ℕ → ℕ → Bool
is_to_fail failing made = list_any (λ number. number == one_more made) failing
