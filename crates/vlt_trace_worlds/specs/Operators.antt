-- What an operator gives by the values of its sides.
use Rattle.std.specs.Prelude.{◌≡◌, ℤ, pos, Result}
use Rattle.vlt_ops.specs.declared.Op.{Op}
use Rattle.vlt_ops.specs.Operator.{applied}
use Rattle.vlt_meaning.specs.World as w
use Rattle.vlt_meaning.specs.Found.{Found, ◌>>=◌}
use Rattle.vlt_meaning.specs.Values.{number_in, is_number, or_trap, value_of_both}
use Rattle.vlt_trace_worlds.specs.View.{value_view, found_of}
use Rattle.vlt_trace_worlds.specs.Steps.{Finds}
use Rattle.vlt_trace_worlds.specs.declared.worlds.Value.{Value}
use Rattle.vlt_trace_worlds.specs.declared.stops.Stop.{Stop}
use Rattle.vlt_trace_worlds.specs.declared.stops.Halt.{Halt}
use Rattle.vlt_trace_worlds.specs.declared.values.Sides.{Sides}
use Rattle.vlt_trace_worlds.specs.declared.values.Sides.TheVariants.{Left, Right, Both}

-- from the left side's number and the right side's value
abbrev pub of_both : Op → ℤ → Found w.Value → Found w.Value
of_both op a b = do
  v ← b
  z ← number_in v
  or_trap (applied op a z)

-- of an operator with one side
abbrev pub of_unary : Op → Found w.Value → Found w.Value
of_unary op b = do
  v ← b
  z ← number_in v
  or_trap (applied op z (pos 0))

-- of any value of which the code has the number
abbrev pub IsUnaryValue : Op → Result ℤ Stop → Result Value Halt → Type 0
IsUnaryValue op y r =
    (x : Found w.Value) → found_of (λ z. z) y ≡ (x >>= number_in) → Finds value_view r (of_unary op x)

abbrev pub IsBinaryValue : Op → ℤ → Result ℤ Stop → Result Value Halt → Type 0
IsBinaryValue op a y r =
    (x : Found w.Value) → found_of (λ z. z) y ≡ (x >>= number_in) → Finds value_view r (of_both op a x)

-- by the sides that say what the operator gives
abbrev pub given_by : Sides → Op → ℤ → Found w.Value → Found w.Value
given_by Left op a b = is_number a
given_by Right op a b = b
given_by Both op a b = of_both op a b

abbrev pub AreSides : Op → ℤ → Sides → Type 0
AreSides op a x = (b : Found w.Value) → value_of_both op a b ≡ given_by x op a b
