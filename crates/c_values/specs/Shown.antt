-- What values, variables and their references stand for.
use Rattle.std.specs.Prelude.{◌≡◌, ℕ, ℤ, List, ◌++◌, map, Option, Some, None, Result, Ok, Err, option_map, slice_get}
use Rattle.vlt_rings.specs.Things.{Things}
use Rattle.c_syntax.specs.declared.program.CVar.{CVar}
use Rattle.vlt_ops.specs.declared.Op.{Op}
use Rattle.vlt_ops.specs.Operator.{applied}
use Rattle.c_syntax.specs.C.{Expr}
use Rattle.c_meaning.specs.Blocks.{Blocks}
use Rattle.c_meaning.specs.World as model
use Rattle.c_meaning.specs.Values.{◌>>=◌, a_number, or_rule, value_of, value_of_both}
use Rattle.c_meaning.specs.World.{Vars}
use Rattle.c_machine.specs.Machine.{value_under}
use Rattle.c_memory.specs.declared.cells.Ref.{Ref}
use Rattle.c_memory.specs.Shown.{number_of, IsMade}
use Rattle.c_values.specs.declared.value.Value.{Value}
use Rattle.c_values.specs.declared.value.Value.TheVariants.{Number, Reference}
use Rattle.c_values.specs.declared.vars.Vars.{Vars as Frame}

-- a reference goes to the block of its number
abbrev pub value_view : Value → model.Value
value_view (Number z) = model.number z
value_view (Reference r) = model.reference (number_of r)

abbrev pub shown_slots : List (Option Value) → List (Option model.Value)
shown_slots = map (option_map value_view)

abbrev pub names_in : Frame → List CVar
names_in f = f.params.now ++ f.declared.now

-- the values of variables
abbrev pub shown_vars : Frame → Vars
shown_vars f = value_under (names_in f) (shown_slots f.values.now)

-- ---- references that were made

abbrev pub IsMadeValue : Things → Value → Type 0
IsMadeValue ts (Number z) = Unit {0}
IsMadeValue ts (Reference r) = IsMade ts r

abbrev pub IsMadeSlot : Things → Option Value → Type 0
IsMadeSlot ts None = Unit {0}
IsMadeSlot ts (Some a) = IsMadeValue ts a

abbrev pub AreMadeSlots : Things → List (Option Value) → Type 0
AreMadeSlots ts slots = (k : ℕ) (a : Value) → slice_get slots k ≡ Some (Some a) → IsMadeValue ts a

-- ---- what is answered

-- the value, or the rule that is broken
abbrev pub IsValue : Things → Result Value ℕ → Result model.Value ℕ → Type 0
IsValue ts (Ok a) (Ok b) = (value_view a ≡ b) × IsMadeValue ts a
IsValue ts (Err r) (Err rule) = r ≡ rule
IsValue ts (Ok a) (Err rule) = ⊥
IsValue ts (Err r) (Ok b) = ⊥

abbrev pub IsReference : Things → Result (Option Ref) ℕ → Result (Option ℕ) ℕ → Type 0
IsReference ts (Ok a) (Ok b) = (number_of a ≡ b) × IsMade ts a
IsReference ts (Err r) (Err rule) = r ≡ rule
IsReference ts (Ok a) (Err rule) = ⊥
IsReference ts (Err r) (Ok b) = ⊥

-- what the operator gives of both sides
abbrev pub operator_value : Op → ℤ → Result model.Value ℕ → Result model.Value ℕ
operator_value o x b = do
  y ← b
  z ← a_number y
  or_rule (applied o x z)

-- the left side alone gives the value, or the right side is asked for, and the operator gives what is wanted
abbrev pub IsDecided : Op → ℤ → Option ℤ → Type 0
IsDecided o x (Some z) = (b : Result model.Value ℕ) → value_of_both o x b ≡ Ok (model.number z)
IsDecided o x None = (b : Result model.Value ℕ) → value_of_both o x b ≡ operator_value o x b

-- the expression has this number, whatever the blocks hold
abbrev pub IsNumberOf : Expr → Vars → ℤ → Type 0
IsNumberOf e vars z = (bs : Blocks) → value_of e vars bs ≡ Ok (model.number z)
