-- The text of each part of a program, in the order of the page: what `.._laid` gives goes from the text before the part to the
-- text after it. Only private contracts cite this.
use Rattle.std.specs.Prelude.{ℕ, Bool, true, false, List, [], ◌∷◌, Some, None}
use Rattle.std.specs.Fmt.{decimal, signed_decimal}
use Rattle.vlt_base.specs.Layout.{Layout, ◌▹◌, nothing, written, text}
use Rattle.vlt_ops.specs.declared.Op.{Op}
use Rattle.vlt_ops.specs.Operator.{row_of}
use Rattle.c_syntax.specs.declared.program.CVar.{CVar}
use Rattle.c_syntax.specs.declared.program.CName.{CName}
use Rattle.c_syntax.specs.declared.program.CResult.{CResult}
use Rattle.c_syntax.specs.declared.program.CResult.TheVariants as result
use Rattle.c_syntax.specs.declared.program.CCell.{CCell}
use Rattle.c_syntax.specs.declared.program.CCell.TheVariants as cell
use Rattle.c_syntax.specs.C as c
use Rattle.c_syntax.specs.C.{Expr, Arg, Call, Stmt, Stmts, Func, Program}
use Rattle.c_syntax.specs.Tokens.{prim_text, variable_letter, name_letter}
use Rattle.c_syntax.specs.Spelling.{prefix_sign}
use Rattle.c_syntax.specs.Canonical.{unit_of}

-- ---- names and expressions

abbrev pub variable_laid : CVar → Layout
variable_laid v = written (variable_letter v ∷ decimal v.number)

abbrev pub name_laid : CName → Layout
name_laid f = written (name_letter f ∷ decimal f.number)

abbrev pub block_laid : ℕ → Layout
block_laid base = variable_laid (record { reference = true; number = base })

abbrev pub cell_laid : CCell → Layout
cell_laid (cell.Number p k) = block_laid p ▹ text " -> n [ " ▹ written (decimal k) ▹ text " ] "
cell_laid (cell.Reference p k) = block_laid p ▹ text " -> r [ " ▹ written (decimal k) ▹ text " ] "

abbrev pub operator_laid : Op → Layout
operator_laid o = written (row_of o).sign ▹ text " "

abbrev pub expr_laid : Expr → Layout
expr_laid (c.number z) = written (signed_decimal z) ▹ text " "
expr_laid (c.variable v) = variable_laid v ▹ text " "
expr_laid (c.cell x) = cell_laid x
expr_laid c.null = text "vr_null "
expr_laid (c.unary o e) = text "( " ▹ operator_laid (prefix_sign o) ▹ expr_laid e ▹ text ") "
expr_laid (c.binary o a b) = text "( " ▹ expr_laid a ▹ operator_laid o ▹ expr_laid b ▹ text ") "

-- ---- calls

abbrev pub arg_laid : Arg → Layout
arg_laid (c.number z) = written (signed_decimal z) ▹ text " "
arg_laid (c.variable v) = variable_laid v ▹ text " "
arg_laid c.null = text "vr_null "
arg_laid (c.text cs) = text "\"" ▹ written cs ▹ text "\" "

abbrev pub more_args_laid : List Arg → Layout
more_args_laid [] = text ") "
more_args_laid (x ∷ xs) = text ", " ▹ arg_laid x ▹ more_args_laid xs

abbrev pub args_laid : List Arg → Layout
args_laid [] = text ") "
args_laid (x ∷ xs) = arg_laid x ▹ more_args_laid xs

abbrev pub call_laid : Call → Layout
call_laid (c.function f xs) = name_laid f ▹ text " ( " ▹ args_laid xs
call_laid (c.primitive p xs) = written (prim_text p) ▹ text " ( " ▹ args_laid xs

-- ---- statements

abbrev mutual
  pub stmt_laid : Stmt → Layout
  stmt_laid (c.set v e) = variable_laid v ▹ text " = " ▹ expr_laid e ▹ text ";\n"
  stmt_laid (c.set_call v f) = variable_laid v ▹ text " = " ▹ call_laid f ▹ text ";\n"
  stmt_laid (c.call f) = call_laid f ▹ text ";\n"
  stmt_laid (c.put x e) = cell_laid x ▹ text "= " ▹ expr_laid e ▹ text ";\n"
  stmt_laid (c.when e xs) = text "if ( " ▹ expr_laid e ▹ text ") {\n" ▹ stmts_laid xs ▹ text "}\n"
  stmt_laid (c.choose e xs ys) = text "if ( " ▹ expr_laid e ▹ text ") {\n" ▹ stmts_laid xs ▹ text "} else {\n" ▹ stmts_laid ys ▹ text "}\n"
  stmt_laid (c.loop xs) = text "while ( 1 ) {\n" ▹ stmts_laid xs ▹ text "}\n"
  stmt_laid c.break = text "break ;\n"
  stmt_laid c.continue = text "continue ;\n"
  stmt_laid (c.return None) = text "return ;\n"
  stmt_laid (c.return (Some e)) = text "return " ▹ expr_laid e ▹ text ";\n"

  pub stmts_laid : Stmts → Layout
  stmts_laid c.done = nothing
  stmts_laid (c.next x xs) = stmt_laid x ▹ stmts_laid xs

-- ---- functions

abbrev pub type_laid : (reference : Bool) → Layout
type_laid true = text "vr_ref "
type_laid false = text "long long "

abbrev pub result_laid : CResult → Layout
result_laid result.Nothing = text "void "
result_laid result.Number = type_laid false
result_laid result.Reference = type_laid true

abbrev pub declaration_laid : CVar → Layout
declaration_laid v = type_laid v.reference ▹ variable_laid v ▹ text " "

abbrev pub more_params_laid : List CVar → Layout
more_params_laid [] = text ") "
more_params_laid (v ∷ vs) = text ", " ▹ declaration_laid v ▹ more_params_laid vs

abbrev pub params_laid : List CVar → Layout
params_laid [] = text "void ) "
params_laid (v ∷ vs) = declaration_laid v ▹ more_params_laid vs

abbrev pub head_laid : (glue : Bool) → Func → Layout
head_laid glue f = result_laid f.result ▹ name_laid (record { glue = glue; number = f.number }) ▹ text " ( " ▹ params_laid f.params

abbrev pub vars_laid : List CVar → Layout
vars_laid [] = nothing
vars_laid (v ∷ vs) = declaration_laid v ▹ text ";\n" ▹ vars_laid vs

abbrev pub body_laid : (glue : Bool) → Func → Layout
body_laid glue f = head_laid glue f ▹ text "{\n" ▹ vars_laid f.vars ▹ stmts_laid f.body ▹ text "}\n"

abbrev pub heads_laid : (glue : Bool) → List Func → Layout
heads_laid glue [] = nothing
heads_laid glue (f ∷ fs) = head_laid glue f ▹ text ";\n" ▹ heads_laid glue fs

abbrev pub bodies_laid : (glue : Bool) → List Func → Layout
bodies_laid glue [] = nothing
bodies_laid glue (f ∷ fs) = body_laid glue f ▹ bodies_laid glue fs

-- ---- the whole program

abbrev pub first_lines_laid : (main : ℕ) → Layout
first_lines_laid main = text "#include \"vault_rt.h\"\n#define VR_MAIN f" ▹ written (decimal main) ▹ text "\n"

abbrev pub program_laid : Program → Layout
program_laid p =
    first_lines_laid (unit_of p).main ▹ heads_laid true p.glue ▹ heads_laid false p.fns ▹ bodies_laid true p.glue ▹ bodies_laid false p.fns
