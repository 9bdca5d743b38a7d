-- That a program is accepted or has a first fault.
use Rattle.std.specs.Prelude.{◌⊎◌}
use Rattle.vlt_core.specs.Core.{Program}
use Rattle.vlt_core.specs.Derives.{IsAccepted}
use Rattle.vlt_core.specs.Faults.{FlowFault, IsFirstFault}

-- the program follows the rules on keys, or this is its first fault
abbrev pub IsJudged : Program → Type 0
IsJudged p = IsAccepted p ⊎ ((x : FlowFault) × IsFirstFault p x)
