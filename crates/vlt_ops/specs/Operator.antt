-- The operators: how each is written and bound, and what it gives in 64-bit arithmetic. A bool is 0 or 1.
use Rattle.std.specs.Prelude.{ℕ, ◌-◌, ◌^◌, List, Bool, true, false, not, ◌&&◌, ◌||◌, ℤ, pos, ◌+ℤ◌, ◌-ℤ◌, ◌*ℤ◌, neg_ℤ, Result, Ok, Err, if◌then◌else◌, codes, int_lt, int_le, int_div, int_rem}
use Rattle.std.specs.Int.{w64, int_bit_and, int_bit_or, int_bit_xor}
use Rattle.vlt_ops.specs.declared.Op.{Op}
use Rattle.vlt_ops.specs.declared.Op.TheVariants.{Negate, Not, Multiply, Divide, Remainder, Add, Subtract, Less, LessOrEqual, Greater, GreaterOrEqual, Equal, NotEqual, BitAnd, BitXor, BitOr, And, Or}
use Rattle.vlt_ops.specs.declared.Takes.{Takes}
use Rattle.vlt_ops.specs.declared.Takes.TheVariants.{Int, Bool as Bools, Either}
use Rattle.vlt_ops.specs.declared.TrapKind.{TrapKind}
use Rattle.vlt_ops.specs.declared.TrapKind.TheVariants.{Overflow, ZeroDivisor}

-- one row of the table: the number, the sign, how many operands it has, how tightly it binds,
-- the type of the operands, and whether it gives an int, else a bool
pub record Row : Type 0 where
  pub number : ℕ
  pub sign : List ℕ
  pub arity : ℕ
  pub level : ℕ
  pub takes : Takes
  pub gives_int : Bool

abbrev pub columns : ℕ → List ℕ → ℕ → ℕ → Takes → Bool → Row
columns number sign arity level takes gives_int =
    record { number = number; sign = sign; arity = arity; level = level; takes = takes; gives_int = gives_int }

abbrev pub row_of : Op → Row
row_of Negate = columns 0 (codes "-") 1 11 Int true
row_of Not = columns 1 (codes "!") 1 11 Bools false
row_of Multiply = columns 2 (codes "*") 2 10 Int true
row_of Divide = columns 3 (codes "/") 2 10 Int true
row_of Remainder = columns 4 (codes "%") 2 10 Int true
row_of Add = columns 5 (codes "+") 2 9 Int true
row_of Subtract = columns 6 (codes "-") 2 9 Int true
row_of Less = columns 7 (codes "<") 2 8 Int false
row_of LessOrEqual = columns 8 (codes "<=") 2 8 Int false
row_of Greater = columns 9 (codes ">") 2 8 Int false
row_of GreaterOrEqual = columns 10 (codes ">=") 2 8 Int false
row_of Equal = columns 11 (codes "==") 2 7 Either false
row_of NotEqual = columns 12 (codes "!=") 2 7 Either false
row_of BitAnd = columns 13 (codes "&") 2 6 Int true
row_of BitXor = columns 14 (codes "^") 2 5 Int true
row_of BitOr = columns 15 (codes "|") 2 4 Int true
row_of And = columns 16 (codes "&&") 2 3 Bools false
row_of Or = columns 17 (codes "||") 2 2 Bools false

-- the number by which a trap is told
abbrev pub trap_number : TrapKind → ℕ
trap_number Overflow = 1
trap_number ZeroDivisor = 2

-- whether a whole number is one of 64 bits, from -2^63 to 2^63 - 1
abbrev pub is_in_range : ℤ → Bool
is_in_range z = int_le (neg_ℤ (pos (2 ^ 63))) z && int_le z (pos (2 ^ 63 - 1))

-- the exact value where it is in range, else a trap
abbrev pub in_range_or_trap : ℤ → Result ℤ TrapKind
in_range_or_trap z = if is_in_range z then Ok z else Err Overflow

abbrev pub equals : ℤ → ℤ → Bool
equals a b = int_le a b && int_le b a

-- every number but 0 is true
abbrev pub is_true : ℤ → Bool
is_true z = not (equals z (pos 0))

abbrev pub bool_number : Bool → ℤ
bool_number true = pos 1
bool_number false = pos 0

-- division of `a` by `b`, of which `value` is wanted: it traps where `b` is 0, or the quotient is out of range
abbrev pub division_value : ℤ → ℤ → ℤ → Result ℤ TrapKind
division_value a b value =
    if equals b (pos 0) then Err ZeroDivisor else if is_in_range (int_div a b) then Ok value else Err Overflow

-- what the operator gives for `a` and `b`. `int_div` truncates towards zero, `int_rem` has the sign of `a`,
-- and `int_bit_and`, `int_bit_xor` and `int_bit_or` go bit by bit in two's complement
abbrev pub applied : Op → ℤ → ℤ → Result ℤ TrapKind
applied Negate a b = in_range_or_trap (neg_ℤ a)
applied Not a b = Ok (bool_number (not (is_true a)))
applied Multiply a b = in_range_or_trap (a *ℤ b)
applied Divide a b = division_value a b (int_div a b)
applied Remainder a b = division_value a b (int_rem a b)
applied Add a b = in_range_or_trap (a +ℤ b)
applied Subtract a b = in_range_or_trap (a -ℤ b)
applied Less a b = Ok (bool_number (int_lt a b))
applied LessOrEqual a b = Ok (bool_number (int_le a b))
applied Greater a b = Ok (bool_number (int_lt b a))
applied GreaterOrEqual a b = Ok (bool_number (int_le b a))
applied Equal a b = Ok (bool_number (equals a b))
applied NotEqual a b = Ok (bool_number (not (equals a b)))
applied BitAnd a b = Ok (int_bit_and w64 a b)
applied BitXor a b = Ok (int_bit_xor w64 a b)
applied BitOr a b = Ok (int_bit_or w64 a b)
applied And a b = Ok (bool_number (is_true a && is_true b))
applied Or a b = Ok (bool_number (is_true a || is_true b))
