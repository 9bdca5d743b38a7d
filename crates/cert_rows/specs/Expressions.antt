-- Expressions, operands before their operator, and operands of statements, as parts of rows.
use Rattle.std.specs.Prelude.{◌≡◌, ◌≤◌, ℕ, suc, ◌-◌, max, ℤ, pos, negsuc, nat_le, ◌==◌, Bool, true, false, if◌then◌else◌, List, [], ◌∷◌, ◌++◌, codes, Option, Some, None, option_map, option_and_then}
use Rattle.std.specs.Str.{bytes_eq}
use Rattle.serde_json.specs.Data.{Data}
use Rattle.vlt_ops.specs.declared.Op.{Op}
use Rattle.vlt_ops.specs.declared.Op.TheVariants.{Negate, Not, Multiply, Divide, Remainder, Add, Subtract, Less, LessOrEqual, Greater, GreaterOrEqual, Equal, NotEqual, BitAnd, BitXor, BitOr, And, Or}
use Rattle.vlt_ops.specs.Operator.{row_of}
use Rattle.vlt_core.specs.Core.{Expr, number, truth, var, field, unary, binary, Operand, pure, move, pack}
use Rattle.cert_rows.specs.Parts.{Part, Fields, list, array_in, number_to, standing_for, single, pair}
use Rattle.cert_rows.specs.Values.{id, flag, mask, tagged_list, by_tag}

-- ---- operators

abbrev pub op_at : List Op → (n : ℕ) → Op
op_at [] n = Or
op_at (o ∷ os) n = if n == 0 then o else op_at os (n - 1)

abbrev pub all_ops : List Op
all_ops =
    Negate ∷ Not ∷ Multiply ∷ Divide ∷ Remainder ∷ Add ∷ Subtract ∷
    Less ∷ LessOrEqual ∷ Greater ∷ GreaterOrEqual ∷ Equal ∷
    NotEqual ∷ BitAnd ∷ BitXor ∷ BitOr ∷ And ∷ Or ∷ []

abbrev pub op : Part Op
op = standing_for (op_at all_ops) (λ o. (row_of o).number) (number_to 17)

abbrev pub is_prefix : Op → Bool
is_prefix o = (row_of o).arity == 1

-- ---- expressions

abbrev pub depth : Expr → ℕ
depth (unary o a) = suc (depth a)
depth (binary o a b) = suc (max (depth a) (depth b))
depth _ = 1

abbrev pub most_expression_depth : ℕ
most_expression_depth = 64

abbrev pub number_fields : Fields ℕ
number_fields = single (number_to 9223372036854775807)

abbrev pub magnitude : ℤ → ℕ
magnitude (pos n) = n
magnitude (negsuc n) = 0

abbrev pub operator_data : Op → Data
operator_data o = tagged_list (codes "o") ((single op).items o)

abbrev pub expr_items : Expr → List Data
expr_items (number z) = tagged_list (codes "n") (number_fields.items (magnitude z)) ∷ []
expr_items (truth b) = tagged_list (codes "b") ((single flag).items b) ∷ []
expr_items (var v) = tagged_list (codes "v") ((single id).items v) ∷ []
expr_items (field x i) = tagged_list (codes "f") ((pair id id).items (x, i)) ∷ []
expr_items (unary o a) = expr_items a ++ operator_data o ∷ []
expr_items (binary o a b) = expr_items a ++ (expr_items b ++ operator_data o ∷ [])

abbrev pub IsNatural : ℤ → Type 0
IsNatural (pos n) = n ≤ 9223372036854775807
IsNatural (negsuc n) = ⊥

abbrev pub IsShallow : Expr → Type 0
IsShallow e = nat_le (depth e) most_expression_depth ≡ true

abbrev pub FitsExpr : Expr → Type 0
FitsExpr (number z) = IsNatural z
FitsExpr (truth b) = (single flag).Fits b
FitsExpr (var v) = (single id).Fits v
FitsExpr (field x i) = (pair id id).Fits (x, i)
FitsExpr (unary o a) = FitsExpr a × op.Fits o × (is_prefix o ≡ true) × IsShallow (unary o a)
FitsExpr (binary o a b) = FitsExpr a × FitsExpr b × op.Fits o × (is_prefix o ≡ false) ×
    IsShallow (binary o a b)

-- What is read of the items so far: a stack of expressions, the last one first. An operator takes
-- its operands off it; nothing is read where an expression would be too deep.
abbrev pub stack_with : Expr → List Expr → Option (List Expr)
stack_with e es = if nat_le (depth e) most_expression_depth then Some (e ∷ es) else None

abbrev pub with_prefix : Op → List Expr → Option (List Expr)
with_prefix o [] = None
with_prefix o (a ∷ es) = stack_with (unary o a) es

abbrev pub with_infix : Op → List Expr → Option (List Expr)
with_infix o [] = None
with_infix o (b ∷ []) = None
with_infix o (b ∷ a ∷ es) = stack_with (binary o a b) es

abbrev pub with_operator : List Expr → Op → Option (List Expr)
with_operator es o = if is_prefix o then with_prefix o es else with_infix o es

abbrev pub stack_of_tag : List Expr → List ℕ → List Data → Option (List Expr)
stack_of_tag es t ds =
    if bytes_eq t (codes "n") then option_map (λ n. number (pos n) ∷ es) (number_fields.of_items ds)
    else if bytes_eq t (codes "b") then option_map (λ b. truth b ∷ es) ((single flag).of_items ds)
    else if bytes_eq t (codes "v") then option_map (λ v. var v ∷ es) ((single id).of_items ds)
    else if bytes_eq t (codes "f") then
    option_map (λ x. field x.0 x.1 ∷ es) ((pair id id).of_items ds)
    else if bytes_eq t (codes "o") then option_and_then (with_operator es) ((single op).of_items ds)
    else None

abbrev pub stack_after : List Expr → Data → Option (List Expr)
stack_after es d = option_and_then (by_tag (stack_of_tag es)) (array_in d)

abbrev pub stack_after_all : List Expr → List Data → Option (List Expr)
stack_after_all es [] = Some es
stack_after_all es (d ∷ ds) = option_and_then (λ more. stack_after_all more ds) (stack_after es d)

abbrev pub sole : List Expr → Option Expr
sole [] = None
sole (e ∷ []) = Some e
sole (e ∷ f ∷ es) = None

abbrev pub expr : Part Expr
expr = record {
  data_of = λ e. list (expr_items e);
  of_data = λ d. option_and_then (λ ds. option_and_then sole (stack_after_all [] ds)) (array_in d);
  Fits = FitsExpr;
}

-- ---- operands

abbrev pub operand_data : Operand → Data
operand_data (pure e) = tagged_list (codes "e") ((single expr).items e)
operand_data (move v) = tagged_list (codes "m") ((single id).items v)
operand_data (pack x s) = tagged_list (codes "p") ((pair id mask).items (x, s))

abbrev pub operand_of_tag : List ℕ → List Data → Option Operand
operand_of_tag t ds =
    if bytes_eq t (codes "e") then option_map pure ((single expr).of_items ds)
    else if bytes_eq t (codes "m") then option_map move ((single id).of_items ds)
    else if bytes_eq t (codes "p") then option_map (λ x. pack x.0 x.1) ((pair id mask).of_items ds)
    else None

abbrev pub FitsOperand : Operand → Type 0
FitsOperand (pure e) = (single expr).Fits e
FitsOperand (move v) = (single id).Fits v
FitsOperand (pack x s) = (pair id mask).Fits (x, s)

abbrev pub operand : Part Operand
operand = record {
  data_of = operand_data;
  of_data = λ d. option_and_then (by_tag operand_of_tag) (array_in d);
  Fits = FitsOperand;
}
