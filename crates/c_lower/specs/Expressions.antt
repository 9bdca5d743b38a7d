-- The code of expressions and operands: statements, and then atoms that have the value, one for each slot.
use Rattle.std.specs.Prelude.{ℤ, pos, Bool, true, false, if◌then◌else◌, List, [], ◌∷◌, ◌++◌, map}
use Rattle.std.specs.List.{zip}
use Rattle.vlt_ops.specs.declared.Op.{Op}
use Rattle.vlt_ops.specs.declared.Op.TheVariants as op
use Rattle.vlt_core.specs.Core as core
use Rattle.vlt_core.specs.Core.{Func, Program, Operand, pure, move, pack}
use Rattle.c_syntax.specs.declared.program.CVar.{CVar}
use Rattle.c_syntax.specs.declared.program.CCell.{CCell}
use Rattle.c_syntax.specs.View.{stmts_made}
use Rattle.c_syntax.specs.C as c
use Rattle.c_syntax.specs.C.{Stmt}
use Rattle.c_lower.specs.Slots.{of_number, Numbers, past, past_all, var_at, vars_at, slot_vars, touched_cells, cell_sorts}
use Rattle.c_lower.specs.Guards.{whole, equal, unequal, unary_guards, binary_guards}

-- what has a value without code
pub data Atom : Type 0 where
  number : ℤ → Atom
  variable : CVar → Atom
  null : Atom

abbrev pub atom_expr : Atom → c.Expr
atom_expr (number z) = c.number z
atom_expr (variable v) = c.variable v
atom_expr null = c.null

abbrev pub atom_arg : Atom → c.Arg
atom_arg (number z) = c.number z
atom_arg (variable v) = c.variable v
atom_arg null = c.null

abbrev pub first_atom : List Atom → Atom
first_atom [] = null
first_atom (a ∷ rest) = a

-- `next` are the numbers of temps after those that the code takes
pub record Code : Type 0 where
  pub stmts : List Stmt
  pub atoms : List Atom
  pub next : Numbers

abbrev pub value_of : Code → c.Expr
value_of x = atom_expr (first_atom x.atoms)

-- slot by slot
abbrev pub copies : List CVar → List Atom → List Stmt
copies vs atoms = map (λ q. c.set q.0 (atom_expr q.1)) (zip vs atoms)

abbrev pub reads : List CVar → List CCell → List Stmt
reads vs cells = map (λ q. c.set q.0 (c.cell q.1)) (zip vs cells)

-- a temp of a number, set to the expression after the statements
abbrev pub into_temp : List Stmt → Numbers → c.Expr → Code
into_temp stmts t e =
    let temp = var_at t of_number in
    record { stmts = stmts ++ c.set temp e ∷ []; atoms = variable temp ∷ []; next = past t of_number }

-- `&&` and `||`: the right side has code only where the left one doesn't decide
abbrev pub lazy_code : Bool → (left : Code) → (Numbers → Code) → Code
lazy_code is_and left right =
    let temp = var_at left.next of_number in
    let rest = right (past left.next of_number) in
    let test = if is_and then unequal else equal in
    record {
      stmts =
          left.stmts ++ c.set temp (value_of left)
          ∷ c.when (test (c.variable temp) (whole 0)) (stmts_made (rest.stmts ++ c.set temp (value_of rest) ∷ [])) ∷ [];
      atoms = variable temp ∷ [];
      next = rest.next;
    }

abbrev pub binary_code : Op → (left : Code) → (Numbers → Code) → Code
binary_code op.And left right = lazy_code true left right
binary_code op.Or left right = lazy_code false left right
binary_code o left right =
    let rest = right left.next in
    let a = value_of left in
    let b = value_of rest in
    into_temp (left.stmts ++ rest.stmts ++ binary_guards o a b) rest.next (c.binary o a b)

abbrev pub expr_code : Program → Func → Numbers → core.Expr → Code
expr_code p f t (core.number z) = record { stmts = []; atoms = number z ∷ []; next = t }
expr_code p f t (core.truth b) = record { stmts = []; atoms = number (if b then pos 1 else pos 0) ∷ []; next = t }
expr_code p f t (core.var v) = record { stmts = []; atoms = map variable (slot_vars p f v); next = t }
expr_code p f t (core.field x i) =
    let temps = vars_at t (cell_sorts p f x i) in
    record { stmts = reads temps (touched_cells p f x i); atoms = map variable temps; next = past_all t (cell_sorts p f x i) }
expr_code p f t (core.unary o e) =
    let code = expr_code p f t e in
    let a = value_of code in
    into_temp (code.stmts ++ unary_guards o a) code.next (c.unary o a)
expr_code p f t (core.binary o a b) = binary_code o (expr_code p f t a) (λ t. expr_code p f t b)

abbrev pub operand_code : Program → Func → Numbers → Operand → Code
operand_code p f t (pure e) = expr_code p f t e
operand_code p f t (move v) = record { stmts = []; atoms = map variable (slot_vars p f v); next = t }
operand_code p f t (pack x states) = record { stmts = []; atoms = map variable (slot_vars p f x); next = t }

-- the code of several operands, with the atoms of each
pub record Codes : Type 0 where
  pub stmts : List Stmt
  pub atoms : List (List Atom)
  pub next : Numbers

abbrev pub operand_codes : Program → Func → Numbers → List Operand → Codes
operand_codes p f t [] = record { stmts = []; atoms = []; next = t }
operand_codes p f t (o ∷ os) =
    let first = operand_code p f t o in
    let rest = operand_codes p f first.next os in
    record { stmts = first.stmts ++ rest.stmts; atoms = first.atoms ∷ rest.atoms; next = rest.next }
