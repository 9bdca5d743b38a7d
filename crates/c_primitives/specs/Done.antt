-- What a change of the blocks gives.
use Rattle.std.specs.Prelude.{ℕ, ℤ, pos, if◌then◌else◌, Bool, true, false, Option, Some, None, Result, Ok, Err}
use Rattle.vlt_ops.specs.declared.TrapKind.TheVariants.{Overflow, ZeroDivisor}
use Rattle.vlt_ops.specs.Operator.{equals}
use Rattle.c_syntax.specs.declared.rules.TheConstants as rule
use Rattle.c_memory.specs.declared.cells.Ref.{Ref}
use Rattle.c_values.specs.declared.value.Value.{Value}
use Rattle.c_values.specs.declared.value.Value.TheVariants.{Number, Reference}
use Rattle.c_primitives.specs.declared.halt.Halt.{Halt}
use Rattle.c_primitives.specs.declared.halt.Halt.TheVariants.{Broken, Stopped}
use Rattle.vlt_steps.specs.declared.stop.Stop.TheVariants.{Trap, BadAnswer}
use Rattle.c_primitives.specs.declared.world.Talk.{Talk}
use Rattle.c_primitives.specs.declared.world.Talk.TheVariants.{Calling, Reading}

abbrev pub done_as : Result (Unit {0}) ℕ → Result (Option Value) Halt
done_as (Ok u) = Ok None
done_as (Err r) = Err (Broken r)

abbrev pub parent_as : Result Ref ℕ → Result (Option Value) Halt
parent_as (Ok r) = Ok (Some (Reference (Some r)))
parent_as (Err r) = Err (Broken r)

abbrev pub back_as : (taken : ℕ) → Result Bool ℕ → Result (Option Value) Halt
back_as taken (Ok true) = Ok None
back_as taken (Ok false) = Err (Stopped (BadAnswer taken))
back_as taken (Err r) = Err (Broken r)

abbrev pub is_reading : Talk → Bool
is_reading (Reading zs) = true
is_reading _ = false

abbrev pub number_as : Option ℤ → Result (Option Value) Halt
number_as (Some z) = Ok (Some (Number z))
number_as None = Err (Broken rule.NO_REGISTER)

abbrev pub reference_as : Option (Option Ref) → Result (Option Value) Halt
reference_as (Some p) = Ok (Some (Reference p))
reference_as None = Err (Broken rule.NO_REGISTER)

abbrev pub halt_of_trap : ℤ → Halt
halt_of_trap z =
    if equals z (pos 1) then Stopped (Trap Overflow)
    else if equals z (pos 2) then Stopped (Trap ZeroDivisor)
    else Broken rule.MISUSED

abbrev pub told_of : Talk → Option ℕ
told_of (Calling told) = Some told
told_of _ = None
