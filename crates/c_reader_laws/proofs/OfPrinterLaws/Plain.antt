-- The tokens after the two first lines are plain.
use Rattle.std.proofs.Common.{◌≡◌, Bool, true, false, List, [], ◌∷◌, Some, None, refl}
use Rattle.vlt_ops.specs.declared.Op.{Op}
use Rattle.vlt_ops.specs.declared.Op.TheVariants as op
use Rattle.vlt_ops.specs.Operator.{row_of}
use Rattle.c_syntax.specs.declared.program.CResult.{CResult}
use Rattle.c_syntax.specs.declared.program.CResult.TheVariants as result
use Rattle.c_syntax.specs.declared.program.CCell.{CCell}
use Rattle.c_syntax.specs.declared.program.CCell.TheVariants as cell
use Rattle.c_syntax.specs.C as c
use Rattle.c_syntax.specs.C.{Expr, Arg, Call, Stmt, Stmts}
use Rattle.c_syntax.specs.Unit.{Declaration, Head, Body}
use Rattle.c_syntax.specs.Tokens as t
use Rattle.c_syntax.specs.Tokens.{Token}
use Rattle.c_syntax.specs.Grammar.{Bounds, HasArities, IsWritten, AreWritten, AreBodies}
use Rattle.c_syntax.specs.Spelling.{type_then, declaration_then, result_then, cell_then, prefix_sign, expr_then, arg_token, more_args_then, args_then, call_then, stmt_then, stmts_then, more_params_then, params_then, head_then, heads_then, vars_then, body_then, bodies_then}
use Rattle.c_reader_laws.proofs.OfPrinterLaws.Pieces.{is_plain}

abbrev pub ArePlain : List Token → Type 0
ArePlain [] = Unit {0}
ArePlain (x ∷ xs) = (is_plain x ≡ true) × ArePlain xs

-- ---- expressions and calls

prefix_plain : (o : Op) → is_plain (t.operator (prefix_sign o)) ≡ true
prefix_plain op.Negate = refl
prefix_plain _ = refl

binary_plain : (o : Op) → (row_of o).arity ≡ 2 → is_plain (t.operator o) ≡ true
binary_plain op.Negate two = absurd cc
binary_plain _ two = refl

cell_plain : (x : CCell) (rest : List Token) → ArePlain rest → ArePlain (cell_then x rest)
cell_plain (cell.Number p k) rest plain = (refl, (refl, (refl, (refl, (refl, (refl, plain))))))
cell_plain (cell.Reference p k) rest plain = (refl, (refl, (refl, (refl, (refl, (refl, plain))))))

expr_plain : (e : Expr) (rest : List Token) → HasArities e → ArePlain rest → ArePlain (expr_then e rest)
expr_plain (c.number z) rest is plain = (refl, plain)
expr_plain (c.variable v) rest is plain = (refl, plain)
expr_plain (c.cell x) rest is plain = cell_plain x rest plain
expr_plain c.null rest is plain = (refl, plain)
expr_plain (c.unary o e) rest is plain = (refl, (prefix_plain o, expr_plain e _ is.1 (refl, plain)))
expr_plain (c.binary o a b) rest is plain = (refl, expr_plain a _ is.1 (binary_plain o is.0, expr_plain b _ is.2 (refl, plain)))

arg_plain : (x : Arg) → is_plain (arg_token x) ≡ true
arg_plain (c.number z) = refl
arg_plain (c.variable v) = refl
arg_plain c.null = refl
arg_plain (c.text cs) = refl

more_args_plain : (xs : List Arg) (rest : List Token) → ArePlain rest → ArePlain (more_args_then xs rest)
more_args_plain [] rest plain = (refl, plain)
more_args_plain (x ∷ xs) rest plain = (refl, (arg_plain x, more_args_plain xs rest plain))

args_plain : (xs : List Arg) (rest : List Token) → ArePlain rest → ArePlain (args_then xs rest)
args_plain [] rest plain = (refl, plain)
args_plain (x ∷ xs) rest plain = (arg_plain x, more_args_plain xs rest plain)

call_plain : (f : Call) (rest : List Token) → ArePlain rest → ArePlain (call_then f rest)
call_plain (c.function f xs) rest plain = (refl, (refl, args_plain xs rest plain))
call_plain (c.primitive p xs) rest plain = (refl, (refl, args_plain xs rest plain))

-- ---- statements

mutual
  stmt_plain : (x : Stmt) (rest : List Token) → IsWritten x → ArePlain rest → ArePlain (stmt_then x rest)
  stmt_plain (c.set v e) rest is plain = (refl, (refl, expr_plain e _ is (refl, plain)))
  stmt_plain (c.set_call v f) rest is plain = (refl, (refl, call_plain f _ (refl, plain)))
  stmt_plain (c.call f) rest is plain = call_plain f _ (refl, plain)
  stmt_plain (c.put x e) rest is plain = cell_plain x _ (refl, expr_plain e _ is (refl, plain))
  stmt_plain (c.when e xs) rest is plain = (refl, (refl, expr_plain e _ is.0 (refl, (refl, stmts_plain xs _ is.1 (refl, plain)))))
  stmt_plain (c.choose e xs ys) rest is plain =
      (refl, (refl, expr_plain e _ is.0 (refl, (refl, stmts_plain xs _ is.1 (refl, (refl, (refl, stmts_plain ys _ is.2 (refl, plain))))))))
  stmt_plain (c.loop xs) rest is plain = (refl, (refl, (refl, (refl, (refl, stmts_plain xs _ is (refl, plain))))))
  stmt_plain c.break rest is plain = (refl, (refl, plain))
  stmt_plain c.continue rest is plain = (refl, (refl, plain))
  stmt_plain (c.return None) rest is plain = (refl, (refl, plain))
  stmt_plain (c.return (Some e)) rest is plain = (refl, expr_plain e _ is (refl, plain))

  stmts_plain : (xs : Stmts) (rest : List Token) → AreWritten xs → ArePlain rest → ArePlain (stmts_then xs rest)
  stmts_plain c.done rest is plain = plain
  stmts_plain (c.next x xs) rest is plain = stmt_plain x _ is.0 (stmts_plain xs rest is.1 plain)

-- ---- functions

type_plain : (r : Bool) (rest : List Token) → ArePlain rest → ArePlain (type_then r rest)
type_plain true rest plain = (refl, plain)
type_plain false rest plain = (refl, (refl, plain))

declaration_plain : (d : Declaration) (rest : List Token) → ArePlain rest → ArePlain (declaration_then d rest)
declaration_plain d rest plain = type_plain d.reference (t.variable d.variable ∷ rest) (refl, plain)

result_plain : (r : CResult) (rest : List Token) → ArePlain rest → ArePlain (result_then r rest)
result_plain result.Nothing rest plain = (refl, plain)
result_plain result.Number rest plain = (refl, (refl, plain))
result_plain result.Reference rest plain = (refl, plain)

more_params_plain : (ds : List Declaration) (rest : List Token) → ArePlain rest → ArePlain (more_params_then ds rest)
more_params_plain [] rest plain = (refl, plain)
more_params_plain (d ∷ ds) rest plain = (refl, declaration_plain d _ (more_params_plain ds rest plain))

params_plain : (ds : List Declaration) (rest : List Token) → ArePlain rest → ArePlain (params_then ds rest)
params_plain [] rest plain = (refl, (refl, plain))
params_plain (d ∷ ds) rest plain = declaration_plain d _ (more_params_plain ds rest plain)

head_plain : (h : Head) (rest : List Token) → ArePlain rest → ArePlain (head_then h rest)
head_plain h rest plain = result_plain h.result _ (refl, (refl, params_plain h.params rest plain))

vars_plain : (ds : List Declaration) (rest : List Token) → ArePlain rest → ArePlain (vars_then ds rest)
vars_plain [] rest plain = plain
vars_plain (d ∷ ds) rest plain = declaration_plain d _ (refl, vars_plain ds rest plain)

body_plain : (b : Body) (rest : List Token) → AreWritten b.stmts → ArePlain rest → ArePlain (body_then b rest)
body_plain b rest is plain = head_plain b.head _ (refl, vars_plain b.vars _ (stmts_plain b.stmts _ is (refl, plain)))

bodies_plain : (within : Bounds) (bs : List Body) → AreBodies within bs → ArePlain (bodies_then bs [])
bodies_plain within [] are = tt
bodies_plain within (b ∷ bs) are = body_plain b _ are.0.written (bodies_plain within bs are.1)

pub functions_plain : (within : Bounds) (hs : List Head) (bs : List Body) → AreBodies within bs → ArePlain (heads_then hs (bodies_then bs []))
functions_plain within [] bs are = bodies_plain within bs are
functions_plain within (h ∷ hs) bs are = head_plain h _ (refl, functions_plain within hs bs are)
