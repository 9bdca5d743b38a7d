-- The sizes of a program's parts are the lengths of what stands for them in its canonical text.
use Rattle.std.proofs.Common.{◌≡◌, ℕ, ◌+◌, Bool, true, false, if◌then◌else◌, List, [], ◌∷◌, ◌++◌, map, length, Some, None, slice_get, length-append, refl, sym, ap, ◌∙◌, arith}
use Rattle.std.proofs.lemmas.Fmt.{decimal_digit}
use Rattle.std.specs.Fmt.{decimal}
use Rattle.c_syntax.specs.declared.program.CVar.{CVar}
use Rattle.c_syntax.specs.declared.program.CResult.{CResult}
use Rattle.c_syntax.specs.declared.program.CResult.TheVariants as result
use Rattle.c_syntax.specs.declared.program.CCell.{CCell}
use Rattle.c_syntax.specs.declared.program.CCell.TheVariants as cell
use Rattle.c_syntax.specs.declared.token.CSign.TheVariants as s
use Rattle.c_syntax.specs.declared.token.CWord.TheVariants as w
use Rattle.c_syntax.specs.C as c
use Rattle.c_syntax.specs.C.{Expr, Arg, Call, Stmt, Stmts, Func, Program}
use Rattle.c_syntax.specs.View.{stmts_made}
use Rattle.c_syntax.specs.Unit.{Head, Body}
use Rattle.c_syntax.specs.Tokens as t
use Rattle.c_syntax.specs.Tokens.{Token, token_text}
use Rattle.c_syntax.specs.Spelling.{type_then, declaration_then, result_then, cell_then, expr_then, arg_token, more_args_then, args_then, call_then, stmt_then, stmts_then, more_params_then, params_then, head_then, heads_then, vars_then, body_then, bodies_then, functions_then}
use Rattle.c_syntax.specs.Canonical.{begins_else, space, declaration_of, head_of, body_of, unit_of, gap, text_of_tokens, canonical_text, main_number, line_feed}
use Rattle.c_reader_laws.specs.PrinterLaws.Sizes.{size_of, tokens_size, variable_size, cell_size, expr_size, arg_size, more_args_size, args_size, call_size, stmt_size, stmts_size, list_size, type_size, result_size, declaration_size, more_params_size, params_size, vars_size, head_size, funcs_size, program_size}

-- ---- tokens

one_byte : (x : Token) (rest : List Token) → length (gap x rest) ≡ 1
one_byte (t.sign s.Arrow) rest = refl
one_byte (t.sign s.OpenBrace) rest = refl
one_byte (t.sign s.OpenParen) rest = refl
one_byte (t.sign s.CloseParen) rest = refl
one_byte (t.sign s.OpenBracket) rest = refl
one_byte (t.sign s.CloseBracket) rest = refl
one_byte (t.sign s.Semicolon) rest = refl
one_byte (t.sign s.Comma) rest = refl
one_byte (t.sign s.Assign) rest = refl
one_byte (t.sign s.CloseBrace) rest = by (begins_else rest)
  where
    by : (b : Bool) → length (if b then space else line_feed) ≡ 1
    by true = refl
    by false = refl
one_byte t.include rest = refl
one_byte t.line_end rest = refl
one_byte t.define rest = refl
one_byte (t.word w) rest = refl
one_byte (t.operator o) rest = refl
one_byte (t.primitive q) rest = refl
one_byte (t.variable v) rest = refl
one_byte (t.name f) rest = refl
one_byte (t.number z) rest = refl
one_byte (t.text cs) rest = refl
one_byte t.stray rest = refl

text_size : (xs : List Token) → length (text_of_tokens xs) ≡ tokens_size xs
text_size [] = refl
text_size (x ∷ xs) =
    length-append (token_text x ++ gap x xs) (text_of_tokens xs)
    ∙ ap (λ n. n + length (text_of_tokens xs)) (length-append (token_text x) (gap x xs) ∙ ap (λ n. length (token_text x) + n) (one_byte x xs))
    ∙ ap (λ n. size_of x + n) (text_size xs)

-- ---- expressions and calls

cell_sizes : (x : CCell) (rest : List Token) → tokens_size (cell_then x rest) ≡ cell_size x + tokens_size rest
cell_sizes (cell.Number p k) rest = omega arith
cell_sizes (cell.Reference p k) rest = omega arith

expr_sizes : (e : Expr) (rest : List Token) → tokens_size (expr_then e rest) ≡ expr_size e + tokens_size rest
expr_sizes (c.number z) rest = refl
expr_sizes (c.variable v) rest = omega arith
expr_sizes (c.cell x) rest = cell_sizes x rest
expr_sizes c.null rest = refl
expr_sizes (c.unary o e) rest = let h = expr_sizes e (t.sign s.CloseParen ∷ rest) in omega arith
expr_sizes (c.binary o a b) rest =
    let h = expr_sizes a (t.operator o ∷ expr_then b (t.sign s.CloseParen ∷ rest)) in
    let k = expr_sizes b (t.sign s.CloseParen ∷ rest) in omega arith

arg_sizes : (x : Arg) → size_of (arg_token x) ≡ arg_size x
arg_sizes (c.number z) = refl
arg_sizes (c.variable v) = omega arith
arg_sizes c.null = refl
arg_sizes (c.text cs) = let e = length-append cs (34 ∷ []) in omega arith

more_args_sizes : (xs : List Arg) (rest : List Token) → tokens_size (more_args_then xs rest) ≡ more_args_size xs + tokens_size rest
more_args_sizes [] rest = omega arith
more_args_sizes (x ∷ xs) rest = let h = arg_sizes x in let k = more_args_sizes xs rest in omega arith

args_sizes : (xs : List Arg) (rest : List Token) → tokens_size (args_then xs rest) ≡ args_size xs + tokens_size rest
args_sizes [] rest = omega arith
args_sizes (x ∷ xs) rest = let h = arg_sizes x in let k = more_args_sizes xs rest in omega arith

call_sizes : (f : Call) (rest : List Token) → tokens_size (call_then f rest) ≡ call_size f + tokens_size rest
call_sizes (c.function f xs) rest = let h = args_sizes xs rest in omega arith
call_sizes (c.primitive p xs) rest = let h = args_sizes xs rest in omega arith

-- ---- statements

mutual
  pub stmt_sizes : (x : Stmt) (rest : List Token) → tokens_size (stmt_then x rest) ≡ stmt_size x + tokens_size rest
  stmt_sizes (c.set v e) rest = let h = expr_sizes e (t.sign s.Semicolon ∷ rest) in omega arith
  stmt_sizes (c.set_call v f) rest = let h = call_sizes f (t.sign s.Semicolon ∷ rest) in omega arith
  stmt_sizes (c.call f) rest = let h = call_sizes f (t.sign s.Semicolon ∷ rest) in omega arith
  stmt_sizes (c.put x e) rest =
      let h = cell_sizes x (t.sign s.Assign ∷ expr_then e (t.sign s.Semicolon ∷ rest)) in
      let k = expr_sizes e (t.sign s.Semicolon ∷ rest) in omega arith
  stmt_sizes (c.when e xs) rest =
      let h = expr_sizes e (t.sign s.CloseParen ∷ t.sign s.OpenBrace ∷ stmts_then xs (t.sign s.CloseBrace ∷ rest)) in
      let k = stmts_sizes xs (t.sign s.CloseBrace ∷ rest) in omega arith
  stmt_sizes (c.choose e xs ys) rest =
      let h = expr_sizes e (t.sign s.CloseParen ∷ t.sign s.OpenBrace ∷ stmts_then xs (t.sign s.CloseBrace ∷ t.word w.Else ∷ t.sign s.OpenBrace ∷ stmts_then ys (t.sign s.CloseBrace ∷ rest))) in
      let k = stmts_sizes xs (t.sign s.CloseBrace ∷ t.word w.Else ∷ t.sign s.OpenBrace ∷ stmts_then ys (t.sign s.CloseBrace ∷ rest)) in
      let l = stmts_sizes ys (t.sign s.CloseBrace ∷ rest) in omega arith
  stmt_sizes (c.loop xs) rest = let h = stmts_sizes xs (t.sign s.CloseBrace ∷ rest) in let one : length (decimal 1) ≡ 1 = ap length (decimal_digit 1 (omega arith)) in omega arith
  stmt_sizes c.break rest = omega arith
  stmt_sizes c.continue rest = omega arith
  stmt_sizes (c.return None) rest = omega arith
  stmt_sizes (c.return (Some e)) rest = let h = expr_sizes e (t.sign s.Semicolon ∷ rest) in omega arith

  pub stmts_sizes : (xs : Stmts) (rest : List Token) → tokens_size (stmts_then xs rest) ≡ stmts_size xs + tokens_size rest
  stmts_sizes c.done rest = omega arith
  stmts_sizes (c.next x xs) rest = let h = stmt_sizes x (stmts_then xs rest) in let k = stmts_sizes xs rest in omega arith

-- statements take what each takes, in a block or in a list
pub made_size : (xs : List Stmt) → stmts_size (stmts_made xs) ≡ list_size xs
made_size [] = refl
made_size (x ∷ xs) = ap (λ n. stmt_size x + n) (made_size xs)

-- ---- functions

declaration_sizes : (v : CVar) (rest : List Token) → tokens_size (declaration_then (declaration_of v) rest) ≡ declaration_size v + tokens_size rest
declaration_sizes v rest = by v.reference
  where
    by : (b : Bool) → tokens_size (type_then b (t.variable v ∷ rest)) ≡ type_size b + variable_size v + tokens_size rest
    by true = omega arith
    by false = omega arith

more_params_sizes : (vs : List CVar) (rest : List Token) → tokens_size (more_params_then (map declaration_of vs) rest) ≡ more_params_size vs + tokens_size rest
more_params_sizes [] rest = omega arith
more_params_sizes (v ∷ vs) rest = let h = declaration_sizes v (more_params_then (map declaration_of vs) rest) in let k = more_params_sizes vs rest in omega arith

params_sizes : (vs : List CVar) (rest : List Token) → tokens_size (params_then (map declaration_of vs) rest) ≡ params_size vs + tokens_size rest
params_sizes [] rest = omega arith
params_sizes (v ∷ vs) rest = let h = declaration_sizes v (more_params_then (map declaration_of vs) rest) in let k = more_params_sizes vs rest in omega arith

vars_sizes : (vs : List CVar) (rest : List Token) → tokens_size (vars_then (map declaration_of vs) rest) ≡ vars_size vs + tokens_size rest
vars_sizes [] rest = omega arith
vars_sizes (v ∷ vs) rest = let h = declaration_sizes v (t.sign s.Semicolon ∷ vars_then (map declaration_of vs) rest) in let k = vars_sizes vs rest in omega arith

result_sizes : (r : CResult) (rest : List Token) → tokens_size (result_then r rest) ≡ result_size r + tokens_size rest
result_sizes result.Nothing rest = omega arith
result_sizes result.Number rest = omega arith
result_sizes result.Reference rest = omega arith

head_sizes : (glue : Bool) (f : Func) (rest : List Token) → tokens_size (head_then (head_of glue f) rest) ≡ head_size f + tokens_size rest
head_sizes glue f rest =
    let h = result_sizes f.result (t.name (head_of glue f).name ∷ t.sign s.OpenParen ∷ params_then (map declaration_of f.params) rest) in
    let k = params_sizes f.params rest in omega arith

body_sizes : (glue : Bool) (f : Func) (rest : List Token) → tokens_size (body_then (body_of glue f) rest) ≡ head_size f + 2 + vars_size f.vars + stmts_size f.body + 2 + tokens_size rest
body_sizes glue f rest =
    let h = head_sizes glue f (t.sign s.OpenBrace ∷ vars_then (map declaration_of f.vars) (stmts_then f.body (t.sign s.CloseBrace ∷ rest))) in
    let k = vars_sizes f.vars (stmts_then f.body (t.sign s.CloseBrace ∷ rest)) in
    let l = stmts_sizes f.body (t.sign s.CloseBrace ∷ rest) in omega arith

heads_size : List Func → ℕ
heads_size [] = 0
heads_size (f ∷ fs) = head_size f + 2 + heads_size fs

bodies_size : List Func → ℕ
bodies_size [] = 0
bodies_size (f ∷ fs) = head_size f + 2 + vars_size f.vars + stmts_size f.body + 2 + bodies_size fs

heads_sizes : (glue : Bool) (fs : List Func) (hs : List Head) (rest : List Token) → tokens_size (heads_then (map (head_of glue) fs ++ hs) rest) ≡ heads_size fs + tokens_size (heads_then hs rest)
unfolding heads_size
heads_sizes glue [] hs rest = omega arith
heads_sizes glue (f ∷ fs) hs rest = let h = head_sizes glue f (t.sign s.Semicolon ∷ heads_then (map (head_of glue) fs ++ hs) rest) in let k = heads_sizes glue fs hs rest in omega arith

bodies_sizes : (glue : Bool) (fs : List Func) (bs : List Body) (rest : List Token) → tokens_size (bodies_then (map (body_of glue) fs ++ bs) rest) ≡ bodies_size fs + tokens_size (bodies_then bs rest)
unfolding bodies_size
bodies_sizes glue [] bs rest = omega arith
bodies_sizes glue (f ∷ fs) bs rest = let h = body_sizes glue f (bodies_then (map (body_of glue) fs ++ bs) rest) in let k = bodies_sizes glue fs bs rest in omega arith

both_size : (fs : List Func) → heads_size fs + bodies_size fs ≡ funcs_size fs
unfolding heads_size bodies_size
both_size [] = refl
both_size (f ∷ fs) = let h = both_size fs in omega arith

-- ---- the text

functions_size : (p : Program) → tokens_size (functions_then (unit_of p) []) ≡ funcs_size p.glue + funcs_size p.fns
functions_size p =
    let hs : List Head = map (head_of false) p.fns in
    let bs : List Body = map (body_of false) p.fns in
    let rest = bodies_then (map (body_of true) p.glue ++ bs) [] in
    heads_sizes true p.glue hs rest
    ∙ ap (λ n. heads_size p.glue + n) (heads_alone p.fns rest ∙ ap (λ n. heads_size p.fns + n) (bodies_sizes true p.glue bs [] ∙ ap (λ n. bodies_size p.glue + n) (bodies_alone p.fns)))
    ∙ sums (heads_size p.glue) (heads_size p.fns) (bodies_size p.glue) (bodies_size p.fns) (funcs_size p.glue) (funcs_size p.fns) (both_size p.glue) (both_size p.fns)
  where
    sums : (a b k l m n : ℕ) → a + k ≡ m → b + l ≡ n → a + (b + (k + l)) ≡ m + n
    sums a b k l m n e f = omega arith

    none : {A : Type 0} (xs : List A) → xs ++ [] ≡ xs
    none [] = refl
    none (x ∷ xs) = ap (λ r. x ∷ r) (none xs)

    heads_alone : (fs : List Func) (rest : List Token) → tokens_size (heads_then (map (head_of false) fs) rest) ≡ heads_size fs + tokens_size rest
    heads_alone fs rest = ap (λ hs. tokens_size (heads_then hs rest)) (sym (none (map (head_of false) fs))) ∙ heads_sizes false fs [] rest

    no_more : (n : ℕ) → n + 0 ≡ n
    no_more n = omega arith

    bodies_alone : (fs : List Func) → tokens_size (bodies_then (map (body_of false) fs) []) ≡ bodies_size fs
    bodies_alone fs = ap (λ bs. tokens_size (bodies_then bs [])) (sym (none (map (body_of false) fs))) ∙ bodies_sizes false fs [] [] ∙ no_more (bodies_size fs)

pub program_sizes : (p : Program) → length (canonical_text p) ≡ program_size p
program_sizes p =
    let main = main_number (slice_get p.fns p.main) in
    let xs = functions_then (unit_of p) [] in
    let h = length-append (decimal main ++ line_feed) (text_of_tokens xs) in
    let k = length-append (decimal main) line_feed in
    let l = text_size xs in
    let m = functions_size p in
    omega arith
