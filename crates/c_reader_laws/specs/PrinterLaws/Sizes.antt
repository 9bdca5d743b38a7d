-- How many bytes each part of a C program takes in its canonical text: each token's, and the one byte after it. A list of
-- statements takes what its statements take.
use Rattle.std.specs.Prelude.{ℕ, ◌+◌, ℤ, Bool, true, false, List, [], ◌∷◌, length, Some, None, slice_get}
use Rattle.std.specs.Fmt.{decimal, signed_decimal}
use Rattle.vlt_ops.specs.declared.Op.{Op}
use Rattle.vlt_ops.specs.Operator.{row_of}
use Rattle.c_syntax.specs.declared.program.CResult.{CResult}
use Rattle.c_syntax.specs.declared.program.CResult.TheVariants as result
use Rattle.c_syntax.specs.declared.program.CVar.{CVar}
use Rattle.c_syntax.specs.declared.program.CName.{CName}
use Rattle.c_syntax.specs.declared.program.CCell.{CCell}
use Rattle.c_syntax.specs.declared.program.CCell.TheVariants as cell
use Rattle.c_syntax.specs.C as c
use Rattle.c_syntax.specs.C.{Expr, Arg, Call, Stmt, Stmts, Func, Program}
use Rattle.c_syntax.specs.Tokens.{Token, token_text, prim_text}
use Rattle.c_syntax.specs.Spelling.{prefix_sign}
use Rattle.c_syntax.specs.Canonical.{main_number}

-- ---- tokens

-- a token, and the byte after it
abbrev pub size_of : Token → ℕ
size_of x = length (token_text x) + 1

abbrev pub tokens_size : List Token → ℕ
tokens_size [] = 0
tokens_size (x ∷ xs) = size_of x + tokens_size xs

-- ---- names and numbers

-- a letter, and a number
abbrev pub variable_size : CVar → ℕ
variable_size v = length (decimal v.number) + 2

abbrev pub name_size : CName → ℕ
name_size f = length (decimal f.number) + 2

abbrev pub number_size : ℤ → ℕ
number_size z = length (signed_decimal z) + 1

abbrev pub operator_size : Op → ℕ
operator_size o = length (row_of o).sign + 1

-- ---- expressions and calls

-- `p0 -> n [ 0 ] `
abbrev pub cell_size : CCell → ℕ
cell_size (cell.Number p k) = length (decimal p) + length (decimal k) + 12
cell_size (cell.Reference p k) = length (decimal p) + length (decimal k) + 12

abbrev pub expr_size : Expr → ℕ
expr_size (c.number z) = number_size z
expr_size (c.variable v) = variable_size v
expr_size (c.cell x) = cell_size x
expr_size c.null = 8
expr_size (c.unary o e) = operator_size (prefix_sign o) + expr_size e + 4
expr_size (c.binary o a b) = expr_size a + operator_size o + expr_size b + 4

abbrev pub arg_size : Arg → ℕ
arg_size (c.number z) = number_size z
arg_size (c.variable v) = variable_size v
arg_size c.null = 8
arg_size (c.text cs) = length cs + 3

-- with the parenthesis after them, and a comma before each
abbrev pub more_args_size : List Arg → ℕ
more_args_size [] = 2
more_args_size (x ∷ xs) = arg_size x + 2 + more_args_size xs

abbrev pub args_size : List Arg → ℕ
args_size [] = 2
args_size (x ∷ xs) = arg_size x + more_args_size xs

abbrev pub call_size : Call → ℕ
call_size (c.function f xs) = name_size f + 2 + args_size xs
call_size (c.primitive p xs) = length (prim_text p) + 3 + args_size xs

-- ---- statements

abbrev mutual
  pub stmt_size : Stmt → ℕ
  stmt_size (c.set v e) = variable_size v + expr_size e + 4
  stmt_size (c.set_call v f) = variable_size v + call_size f + 4
  stmt_size (c.call f) = call_size f + 2
  stmt_size (c.put x e) = cell_size x + expr_size e + 4
  stmt_size (c.when e xs) = expr_size e + stmts_size xs + 11
  stmt_size (c.choose e xs ys) = expr_size e + stmts_size xs + stmts_size ys + 20
  stmt_size (c.loop xs) = stmts_size xs + 16
  stmt_size c.break = 8
  stmt_size c.continue = 11
  stmt_size (c.return None) = 9
  stmt_size (c.return (Some e)) = expr_size e + 9

  pub stmts_size : Stmts → ℕ
  stmts_size c.done = 0
  stmts_size (c.next x xs) = stmt_size x + stmts_size xs

-- of a list
abbrev pub list_size : List Stmt → ℕ
list_size [] = 0
list_size (x ∷ xs) = stmt_size x + list_size xs

-- ---- functions

-- `vr_ref ` or `long long `
abbrev pub type_size : Bool → ℕ
type_size true = 7
type_size false = 10

abbrev pub result_size : CResult → ℕ
result_size result.Nothing = 5
result_size result.Number = 10
result_size result.Reference = 7

abbrev pub declaration_size : CVar → ℕ
declaration_size v = type_size v.reference + variable_size v

abbrev pub more_params_size : List CVar → ℕ
more_params_size [] = 2
more_params_size (v ∷ vs) = declaration_size v + 2 + more_params_size vs

-- `void ) ` where there is none
abbrev pub params_size : List CVar → ℕ
params_size [] = 7
params_size (v ∷ vs) = declaration_size v + more_params_size vs

abbrev pub vars_size : List CVar → ℕ
vars_size [] = 0
vars_size (v ∷ vs) = declaration_size v + 2 + vars_size vs

abbrev pub head_size : Func → ℕ
head_size f = result_size f.result + (length (decimal f.number) + 2) + 2 + params_size f.params

-- the head by itself with its semicolon, and then the body
abbrev pub func_size : Func → ℕ
func_size f = (head_size f + 2) + (head_size f + 2 + vars_size f.vars + stmts_size f.body + 2)

abbrev pub funcs_size : List Func → ℕ
funcs_size [] = 0
funcs_size (f ∷ fs) = func_size f + funcs_size fs

-- the two first lines take 40 bytes, the number in them aside
abbrev pub program_size : Program → ℕ
program_size p = length (decimal (main_number (slice_get p.fns p.main))) + 40 + (funcs_size p.glue + funcs_size p.fns)
