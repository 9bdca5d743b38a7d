-- A fault of the code, as a plain one.
use Rattle.std.specs.Prelude.{◌≡◌, ℕ, false, List, Option, None}
use Rattle.vlt_core.specs.Core.{Tok, Func, Program}
use Rattle.vlt_core.specs.Instances.{instance, IsOrigin}
use Rattle.vlt_core.specs.Witness.{Choice, IsWitnessIn}
use Rattle.vlt_core.specs.Maps.{absent}
use Rattle.vlt_core.specs.Faults as s
use Rattle.vlt_core.specs.View.{tok_of}
use Rattle.vlt_core.specs.FaultView.{kind_of}
use Rattle.vlt_core.specs.declared.held.FlowFault.{FlowFault}

abbrev pub fault_view : FlowFault → s.FlowFault
fault_view x = record { function = x.fn_id.0; origin = x.origin; at = x.at; tok = tok_of x.tok; kind = kind_of x.kind }

-- A fault at a join of this place. In which function and instance, and what is present there, doesn't count for whether paths show it.
abbrev pub join_fault : Tok → (at : ℕ) → s.FlowFault
join_fault t at = record { function = 0; origin = None; at = at; tok = t; kind = s.at_join absent }

-- The function has a body and an instance of the fault's origin, and there the paths show the fault.
abbrev pub ShowsIn : Program → Func → s.FlowFault → (first : List Choice) → Option (List Choice) → Type 0
ShowsIn p f x first second = ((f.external ≡ false) × IsOrigin p f x.origin) × IsWitnessIn p (instance p f x.origin) x first second
