-- How the parts of a C text are spelled, each in front of the tokens that come after it.
use Rattle.std.specs.Prelude.{pos, Bool, true, false, List, [], ◌∷◌, Some, None}
use Rattle.vlt_ops.specs.declared.Op.{Op}
use Rattle.vlt_ops.specs.declared.Op.TheVariants.{Negate, Subtract}
use Rattle.c_syntax.specs.declared.program.CResult.{CResult}
use Rattle.c_syntax.specs.declared.program.CResult.TheVariants as result
use Rattle.c_syntax.specs.declared.program.CCell.{CCell}
use Rattle.c_syntax.specs.declared.program.CCell.TheVariants as cell
use Rattle.c_syntax.specs.declared.token.CWord.TheVariants as w
use Rattle.c_syntax.specs.declared.token.CSign.TheVariants as s
use Rattle.c_syntax.specs.C as c
use Rattle.c_syntax.specs.C.{Expr, Arg, Call, Stmt, Stmts}
use Rattle.c_syntax.specs.Unit.{Declaration, Head, Body, TranslationUnit}
use Rattle.c_syntax.specs.Tokens as t
use Rattle.c_syntax.specs.Tokens.{Token}

-- ---- types and names

abbrev pub type_then : Bool → List Token → List Token
type_then true rest = t.word w.Ref ∷ rest
type_then false rest = t.word w.Long ∷ t.word w.Long ∷ rest

abbrev pub declaration_then : Declaration → List Token → List Token
declaration_then d rest = type_then d.reference (t.variable d.variable ∷ rest)

abbrev pub result_then : CResult → List Token → List Token
result_then result.Nothing rest = t.word w.Void ∷ rest
result_then result.Number rest = type_then false rest
result_then result.Reference rest = type_then true rest

-- ---- expressions

abbrev pub cell_then : CCell → List Token → List Token
cell_then (cell.Number p k) rest = t.variable (record { reference = true; number = p }) ∷ t.sign s.Arrow ∷ t.word w.Numbers ∷ t.sign s.OpenBracket ∷ t.number (pos k) ∷ t.sign s.CloseBracket ∷ rest
cell_then (cell.Reference p k) rest = t.variable (record { reference = true; number = p }) ∷ t.sign s.Arrow ∷ t.word w.References ∷ t.sign s.OpenBracket ∷ t.number (pos k) ∷ t.sign s.CloseBracket ∷ rest

-- the sign of an operator before its operand
abbrev pub prefix_sign : Op → Op
prefix_sign Negate = Subtract
prefix_sign o = o

abbrev pub expr_then : Expr → List Token → List Token
expr_then (c.number z) rest = t.number z ∷ rest
expr_then (c.variable v) rest = t.variable v ∷ rest
expr_then (c.cell x) rest = cell_then x rest
expr_then c.null rest = t.word w.Null ∷ rest
expr_then (c.unary o e) rest = t.sign s.OpenParen ∷ t.operator (prefix_sign o) ∷ expr_then e (t.sign s.CloseParen ∷ rest)
expr_then (c.binary o a b) rest = t.sign s.OpenParen ∷ expr_then a (t.operator o ∷ expr_then b (t.sign s.CloseParen ∷ rest))

-- ---- calls

abbrev pub arg_token : Arg → Token
arg_token (c.number z) = t.number z
arg_token (c.variable v) = t.variable v
arg_token c.null = t.word w.Null
arg_token (c.text cs) = t.text cs

-- after one argument: the others, and the closing parenthesis
abbrev pub more_args_then : List Arg → List Token → List Token
more_args_then [] rest = t.sign s.CloseParen ∷ rest
more_args_then (x ∷ xs) rest = t.sign s.Comma ∷ arg_token x ∷ more_args_then xs rest

abbrev pub args_then : List Arg → List Token → List Token
args_then [] rest = t.sign s.CloseParen ∷ rest
args_then (x ∷ xs) rest = arg_token x ∷ more_args_then xs rest

abbrev pub call_then : Call → List Token → List Token
call_then (c.function f xs) rest = t.name f ∷ t.sign s.OpenParen ∷ args_then xs rest
call_then (c.primitive p xs) rest = t.primitive p ∷ t.sign s.OpenParen ∷ args_then xs rest

-- ---- statements

abbrev mutual
  pub stmt_then : Stmt → List Token → List Token
  stmt_then (c.set v e) rest = t.variable v ∷ t.sign s.Assign ∷ expr_then e (t.sign s.Semicolon ∷ rest)
  stmt_then (c.set_call v f) rest = t.variable v ∷ t.sign s.Assign ∷ call_then f (t.sign s.Semicolon ∷ rest)
  stmt_then (c.call f) rest = call_then f (t.sign s.Semicolon ∷ rest)
  stmt_then (c.put x e) rest = cell_then x (t.sign s.Assign ∷ expr_then e (t.sign s.Semicolon ∷ rest))
  stmt_then (c.when e xs) rest = t.word w.If ∷ t.sign s.OpenParen ∷ expr_then e (t.sign s.CloseParen ∷ t.sign s.OpenBrace ∷ stmts_then xs (t.sign s.CloseBrace ∷ rest))
  stmt_then (c.choose e xs ys) rest = t.word w.If ∷ t.sign s.OpenParen ∷ expr_then e (t.sign s.CloseParen ∷ t.sign s.OpenBrace ∷ stmts_then xs (t.sign s.CloseBrace ∷ t.word w.Else ∷ t.sign s.OpenBrace ∷ stmts_then ys (t.sign s.CloseBrace ∷ rest)))
  stmt_then (c.loop xs) rest = t.word w.While ∷ t.sign s.OpenParen ∷ t.number (pos 1) ∷ t.sign s.CloseParen ∷ t.sign s.OpenBrace ∷ stmts_then xs (t.sign s.CloseBrace ∷ rest)
  stmt_then c.break rest = t.word w.Break ∷ t.sign s.Semicolon ∷ rest
  stmt_then c.continue rest = t.word w.Continue ∷ t.sign s.Semicolon ∷ rest
  stmt_then (c.return None) rest = t.word w.Return ∷ t.sign s.Semicolon ∷ rest
  stmt_then (c.return (Some e)) rest = t.word w.Return ∷ expr_then e (t.sign s.Semicolon ∷ rest)

  pub stmts_then : Stmts → List Token → List Token
  stmts_then c.done rest = rest
  stmts_then (c.next x xs) rest = stmt_then x (stmts_then xs rest)

-- ---- functions

-- after one parameter: the others, and the closing parenthesis
abbrev pub more_params_then : List Declaration → List Token → List Token
more_params_then [] rest = t.sign s.CloseParen ∷ rest
more_params_then (d ∷ ds) rest = t.sign s.Comma ∷ declaration_then d (more_params_then ds rest)

abbrev pub params_then : List Declaration → List Token → List Token
params_then [] rest = t.word w.Void ∷ t.sign s.CloseParen ∷ rest
params_then (d ∷ ds) rest = declaration_then d (more_params_then ds rest)

abbrev pub head_then : Head → List Token → List Token
head_then h rest = result_then h.result (t.name h.name ∷ t.sign s.OpenParen ∷ params_then h.params rest)

abbrev pub heads_then : List Head → List Token → List Token
heads_then [] rest = rest
heads_then (h ∷ hs) rest = head_then h (t.sign s.Semicolon ∷ heads_then hs rest)

abbrev pub vars_then : List Declaration → List Token → List Token
vars_then [] rest = rest
vars_then (d ∷ ds) rest = declaration_then d (t.sign s.Semicolon ∷ vars_then ds rest)

abbrev pub body_then : Body → List Token → List Token
body_then b rest = head_then b.head (t.sign s.OpenBrace ∷ vars_then b.vars (stmts_then b.stmts (t.sign s.CloseBrace ∷ rest)))

abbrev pub bodies_then : List Body → List Token → List Token
bodies_then [] rest = rest
bodies_then (b ∷ bs) rest = body_then b (bodies_then bs rest)

-- after the two first lines
abbrev pub functions_then : TranslationUnit → List Token → List Token
functions_then u rest = heads_then u.heads (bodies_then u.bodies rest)

abbrev pub spelling : TranslationUnit → List Token
spelling u = t.include ∷ t.line_end ∷ t.define ∷ t.number (pos u.main) ∷ t.line_end ∷ functions_then u []
