-- Which sides of an operator say what it gives. This serves the proof alone.
use Rattle.std.specs.Prelude.{◌≡◌, ℤ}
use Rattle.vlt_ops.specs.declared.Op.{Op}
use Rattle.vlt_ops.specs.Operator.{applied}
use Rattle.vlt_meaning.specs.World.{Value}
use Rattle.vlt_meaning.specs.Found.{Found, ◌>>=◌}
use Rattle.vlt_meaning.specs.Values.{number_in, is_number, or_trap, value_of_both}
use Rattle.vlt_acts.specs.declared.values.exprs.Sides.{Sides}
use Rattle.vlt_acts.specs.declared.values.exprs.Sides.TheVariants.{Left, Right, Both}

abbrev pub of_both : Op → ℤ → Found Value → Found Value
of_both op a b = do
  v ← b
  z ← number_in v
  or_trap (applied op a z)

abbrev pub given_by : Sides → Op → ℤ → Found Value → Found Value
given_by Left op a b = is_number a
given_by Right op a b = b
given_by Both op a b = of_both op a b

abbrev pub IsAsked : Op → ℤ → Sides → Type 0
IsAsked op a x = (b : Found Value) → value_of_both op a b ≡ given_by x op a b
