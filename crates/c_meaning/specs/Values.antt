-- The values of expressions and arguments, each with the rule that is broken where there is none.
use Rattle.std.specs.Prelude.{ℕ, ℤ, pos, true, if◌then◌else◌, List, [], ◌∷◌, Option, Some, None, Result, Ok, Err}
use Rattle.vlt_ops.specs.declared.Op.{Op}
use Rattle.vlt_ops.specs.declared.Op.TheVariants as op
use Rattle.vlt_ops.specs.declared.TrapKind.{TrapKind}
use Rattle.vlt_ops.specs.declared.TrapKind.TheVariants.{Overflow, ZeroDivisor}
use Rattle.vlt_ops.specs.Operator.{applied, is_true, bool_number}
use Rattle.c_syntax.specs.declared.rules.TheConstants as rule
use Rattle.c_syntax.specs.declared.program.CVar.{CVar}
use Rattle.c_syntax.specs.declared.program.CCell.{CCell}
use Rattle.c_syntax.specs.declared.program.CCell.TheVariants as cell
use Rattle.c_syntax.specs.C as c
use Rattle.c_syntax.specs.C.{Expr, Arg}
use Rattle.c_meaning.specs.Blocks.{Blocks, read_number, read_reference}
use Rattle.c_meaning.specs.World.{Value, number, reference, Vars}

infixl 10 ◌>>=◌
abbrev pub ◌>>=◌ : {A B : Type 0} → Result A ℕ → (A → Result B ℕ) → Result B ℕ
◌>>=◌ (Err r) go = Err r
◌>>=◌ (Ok a) go = go a

abbrev pub or_unset : Option Value → Result Value ℕ
or_unset None = Err rule.UNSET
or_unset (Some a) = Ok a

-- The kinds let no value of the other type come here.
abbrev pub a_number : Value → Result ℤ ℕ
a_number (number z) = Ok z
a_number (reference p) = Err rule.UNSET

abbrev pub a_reference : Value → Result (Option ℕ) ℕ
a_reference (number z) = Err rule.UNSET
a_reference (reference p) = Ok p

abbrev pub p_variable : ℕ → CVar
p_variable n = record { reference = true; number = n }

-- the reference in the `p` variable of a cell
abbrev pub base_in : ℕ → Vars → Result (Option ℕ) ℕ
base_in p vars = do
  a ← or_unset (vars (p_variable p))
  a_reference a

abbrev pub cell_value : CCell → Vars → Blocks → Result Value ℕ
cell_value (cell.Number p i) vars bs = do
  b ← base_in p vars
  z ← read_number bs b i
  Ok (number z)
cell_value (cell.Reference p i) vars bs = do
  b ← base_in p vars
  q ← read_reference bs b i
  Ok (reference q)

abbrev pub or_rule : Result ℤ TrapKind → Result Value ℕ
or_rule (Ok z) = Ok (number z)
or_rule (Err Overflow) = Err rule.OVERFLOW
or_rule (Err ZeroDivisor) = Err rule.ZERO_DIVISOR

-- the right side, as 1 or 0
abbrev pub truth_of : Result Value ℕ → Result Value ℕ
truth_of b = do
  y ← b
  z ← a_number y
  Ok (number (bool_number (is_true z)))

-- of the left and the right side; `&&` and `||` ask for the right one only where the left doesn't decide
abbrev pub value_of_both : Op → ℤ → Result Value ℕ → Result Value ℕ
value_of_both op.And x b = if is_true x then truth_of b else Ok (number (pos 0))
value_of_both op.Or x b = if is_true x then Ok (number (pos 1)) else truth_of b
value_of_both o x b = do
  y ← b
  z ← a_number y
  or_rule (applied o x z)

abbrev pub value_of : Expr → Vars → Blocks → Result Value ℕ
value_of (c.number z) vars bs = Ok (number z)
value_of (c.variable v) vars bs = or_unset (vars v)
value_of (c.cell x) vars bs = cell_value x vars bs
value_of c.null vars bs = Ok (reference None)
value_of (c.unary o e) vars bs = do
  y ← value_of e vars bs
  z ← a_number y
  or_rule (applied o z (pos 0))
value_of (c.binary o a b) vars bs = do
  y ← value_of a vars bs
  x ← a_number y
  value_of_both o x (value_of b vars bs)

-- a text is no value; the kinds let it stand in `vr_call` alone
abbrev pub arg_value : Arg → Vars → Result Value ℕ
arg_value (c.number z) vars = Ok (number z)
arg_value (c.variable v) vars = or_unset (vars v)
arg_value c.null vars = Ok (reference None)
arg_value (c.text s) vars = Err rule.UNSET

abbrev pub arg_values : List Arg → Vars → Result (List Value) ℕ
arg_values [] vars = Ok []
arg_values (x ∷ xs) vars = do
  a ← arg_value x vars
  rest ← arg_values xs vars
  Ok (a ∷ rest)
