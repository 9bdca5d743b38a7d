-- That one fault is told.
use Rattle.std.specs.Prelude.{◌≡◌}
use Rattle.vlt_core.specs.Core.{Program}
use Rattle.vlt_core.specs.Faults.{FlowFault, IsFirstFault}

-- a program has at most one first fault
abbrev pub HasOneFirstFault : Program → Type 0
HasOneFirstFault p = (x y : FlowFault) → IsFirstFault p x → IsFirstFault p y → x ≡ y
