-- A canonical text is as long as its functions declare variables at least, so the numbers of variables can be written.
use Rattle.std.proofs.Common.{◌≡◌, ◌≤◌, ◌<◌, ◌-◌, ℕ, zero, suc, ◌+◌, Bool, true, false, if◌then◌else◌, List, [], ◌∷◌, ◌++◌, map, take, length, length-append, Some, None, refl, ap, ◌∙◌, arith, filter, not}
use Rattle.std.proofs.lemmas.List.{length-map}
use Rattle.std.specs.List.{range_with_len, enumerate_from}
use Rattle.std.specs.Fmt.{decimal}
use Rattle.vlt_base.specs.Limits.{limit_of}
use Rattle.vlt_core.specs.Core.{Func, Program}
use Rattle.c_syntax.specs.declared.program.CResult.{CResult}
use Rattle.c_syntax.specs.declared.program.CResult.TheVariants as result
use Rattle.c_syntax.specs.declared.program.CVar.{CVar}
use Rattle.c_syntax.specs.declared.program.CCell.{CCell}
use Rattle.c_syntax.specs.declared.program.CCell.TheVariants as cell
use Rattle.c_syntax.specs.declared.token.CWord.TheVariants as w
use Rattle.c_syntax.specs.declared.token.CSign.TheVariants as s
use Rattle.c_syntax.specs.C as c
use Rattle.c_syntax.specs.C.{Expr, Arg, Call, Stmt, Stmts}
use Rattle.c_syntax.specs.Unit.{Declaration, Head, Body}
use Rattle.c_syntax.specs.Text.{max_number}
use Rattle.c_syntax.specs.Tokens as t
use Rattle.c_syntax.specs.Tokens.{Token, token_text, include_text, define_text}
use Rattle.c_syntax.specs.Spelling.{type_then, declaration_then, result_then, cell_then, expr_then, more_args_then, args_then, call_then, stmt_then, stmts_then, more_params_then, params_then, head_then, heads_then, vars_then, body_then, bodies_then, functions_then}
use Rattle.c_syntax.specs.Canonical.{declaration_of, body_of, unit_of, begins_else, space, line_feed, gap, text_of_tokens, canonical_text}
use Rattle.c_lower.specs.Slots.{Numbers, Sort, first_numbers, past, past_all, vars_at, var_sorts, param_slots, first_temps}
use Rattle.c_lower.specs.Statements.{StmtCode, most_of_both, list_code}
use Rattle.c_lower.specs.Glue.{glue_code}
use Rattle.c_lower.specs.Lowering.{vars_between, func_with, lowered, with_body, externals}
use Rattle.c_lower_worlds.specs.Operators.Codes.{IsBelow}
use Rattle.c_lower_worlds.specs.Naming.Lists.{Each}
use Rattle.c_lower_worlds.proofs.VariableSlots.{each_map}
use Rattle.c_lower_runs.specs.Texts.Printable.{IsPrintable}
use Rattle.c_lower_runs.proofs.OfTexts.SlotTypes.{numbers_long, references_long}

-- ---- each token takes a byte at least

gap_long : (x : Token) (rest : List Token) → 1 ≤ length (gap x rest)
gap_long (t.sign s.Arrow) rest = omega arith
gap_long (t.sign s.OpenBrace) rest = omega arith
gap_long (t.sign s.OpenParen) rest = omega arith
gap_long (t.sign s.CloseParen) rest = omega arith
gap_long (t.sign s.OpenBracket) rest = omega arith
gap_long (t.sign s.CloseBracket) rest = omega arith
gap_long (t.sign s.Semicolon) rest = omega arith
gap_long (t.sign s.Comma) rest = omega arith
gap_long (t.sign s.Assign) rest = omega arith
gap_long (t.sign s.CloseBrace) rest = by (begins_else rest)
  where
    by : (b : Bool) → 1 ≤ length (if b then space else line_feed)
    by true = omega arith
    by false = omega arith
gap_long t.include rest = omega arith
gap_long t.line_end rest = omega arith
gap_long t.define rest = omega arith
gap_long (t.word x) rest = omega arith
gap_long (t.operator x) rest = omega arith
gap_long (t.primitive x) rest = omega arith
gap_long (t.variable x) rest = omega arith
gap_long (t.name x) rest = omega arith
gap_long (t.number x) rest = omega arith
gap_long (t.text x) rest = omega arith
gap_long t.stray rest = omega arith

tokens_long : (xs : List Token) → length xs ≤ length (text_of_tokens xs)
tokens_long [] = omega arith
tokens_long (x ∷ xs) =
    let a = length-append (token_text x ++ gap x xs) (text_of_tokens xs) in
    let b = length-append (token_text x) (gap x xs) in
    let g = gap_long x xs in
    let h = tokens_long xs in
    omega (arith, a, b, g, h)

-- ---- tokens of parts

type_grows : (b : Bool) (rest : List Token) → length rest ≤ length (type_then b rest)
type_grows true rest = omega arith
type_grows false rest = omega arith

declaration_grows : (d : Declaration) (rest : List Token) → suc (length rest) ≤ length (declaration_then d rest)
declaration_grows d rest = type_grows d.reference (t.variable d.variable ∷ rest)

more_grows : (ds : List Declaration) (rest : List Token) → length ds + length rest ≤ length (more_params_then ds rest)
more_grows [] rest = omega arith
more_grows (d ∷ ds) rest = let a = declaration_grows d (more_params_then ds rest) in let b = more_grows ds rest in omega (arith, a, b)

params_grow : (ds : List Declaration) (rest : List Token) → length ds + length rest ≤ length (params_then ds rest)
params_grow [] rest = omega arith
params_grow (d ∷ ds) rest = let a = declaration_grows d (more_params_then ds rest) in let b = more_grows ds rest in omega (arith, a, b)

result_grows : (r : CResult) (rest : List Token) → length rest ≤ length (result_then r rest)
result_grows result.Nothing rest = omega arith
result_grows result.Number rest = omega arith
result_grows result.Reference rest = omega arith

head_grows : (h : Head) (rest : List Token) → suc (length h.params + length rest) ≤ length (head_then h rest)
head_grows h rest = let a = result_grows h.result (t.name h.name ∷ t.sign s.OpenParen ∷ params_then h.params rest) in let b = params_grow h.params rest in omega (arith, a, b)

heads_grow : (hs : List Head) (rest : List Token) → length rest ≤ length (heads_then hs rest)
heads_grow [] rest = omega arith
heads_grow (h ∷ hs) rest = let a = head_grows h (t.sign s.Semicolon ∷ heads_then hs rest) in let b = heads_grow hs rest in omega (arith, a, b)

vars_grow : (ds : List Declaration) (rest : List Token) → length ds + length rest ≤ length (vars_then ds rest)
vars_grow [] rest = omega arith
vars_grow (d ∷ ds) rest = let a = declaration_grows d (t.sign s.Semicolon ∷ vars_then ds rest) in let b = vars_grow ds rest in omega (arith, a, b)

cell_grows : (x : CCell) (rest : List Token) → length rest ≤ length (cell_then x rest)
cell_grows (cell.Number p k) rest = omega arith
cell_grows (cell.Reference p k) rest = omega arith

expr_grows : (e : Expr) (rest : List Token) → length rest ≤ length (expr_then e rest)
expr_grows (c.number z) rest = omega arith
expr_grows (c.variable v) rest = omega arith
expr_grows (c.cell x) rest = cell_grows x rest
expr_grows c.null rest = omega arith
expr_grows (c.unary o e) rest = let a = expr_grows e (t.sign s.CloseParen ∷ rest) in omega (arith, a)
expr_grows (c.binary o x y) rest =
    let a = expr_grows x (t.operator o ∷ expr_then y (t.sign s.CloseParen ∷ rest)) in let b = expr_grows y (t.sign s.CloseParen ∷ rest) in omega (arith, a, b)

args_more_grow : (xs : List Arg) (rest : List Token) → length rest ≤ length (more_args_then xs rest)
args_more_grow [] rest = omega arith
args_more_grow (x ∷ xs) rest = let a = args_more_grow xs rest in omega (arith, a)

args_grow : (xs : List Arg) (rest : List Token) → length rest ≤ length (args_then xs rest)
args_grow [] rest = omega arith
args_grow (x ∷ xs) rest = let a = args_more_grow xs rest in omega (arith, a)

call_grows : (f : Call) (rest : List Token) → length rest ≤ length (call_then f rest)
call_grows (c.function f xs) rest = let a = args_grow xs rest in omega (arith, a)
call_grows (c.primitive p xs) rest = let a = args_grow xs rest in omega (arith, a)

mutual
  stmt_grows : (x : Stmt) (rest : List Token) → length rest ≤ length (stmt_then x rest)
  stmt_grows (c.set v e) rest = let a = expr_grows e (t.sign s.Semicolon ∷ rest) in omega (arith, a)
  stmt_grows (c.set_call v f) rest = let a = call_grows f (t.sign s.Semicolon ∷ rest) in omega (arith, a)
  stmt_grows (c.call f) rest = let a = call_grows f (t.sign s.Semicolon ∷ rest) in omega (arith, a)
  stmt_grows (c.put x e) rest =
      let a = cell_grows x (t.sign s.Assign ∷ expr_then e (t.sign s.Semicolon ∷ rest)) in let b = expr_grows e (t.sign s.Semicolon ∷ rest) in omega (arith, a, b)
  stmt_grows (c.when e xs) rest =
      let a = expr_grows e (t.sign s.CloseParen ∷ t.sign s.OpenBrace ∷ stmts_then xs (t.sign s.CloseBrace ∷ rest)) in let b = stmts_grow xs (t.sign s.CloseBrace ∷ rest) in omega (arith, a, b)
  stmt_grows (c.choose e xs ys) rest =
      let after = t.sign s.CloseBrace ∷ t.word w.Else ∷ t.sign s.OpenBrace ∷ stmts_then ys (t.sign s.CloseBrace ∷ rest) in
      let a = expr_grows e (t.sign s.CloseParen ∷ t.sign s.OpenBrace ∷ stmts_then xs after) in
      let b = stmts_grow xs after in
      let d = stmts_grow ys (t.sign s.CloseBrace ∷ rest) in
      omega (arith, a, b, d)
  stmt_grows (c.loop xs) rest = let b = stmts_grow xs (t.sign s.CloseBrace ∷ rest) in omega (arith, b)
  stmt_grows c.break rest = omega arith
  stmt_grows c.continue rest = omega arith
  stmt_grows (c.return None) rest = omega arith
  stmt_grows (c.return (Some e)) rest = let a = expr_grows e (t.sign s.Semicolon ∷ rest) in omega (arith, a)

  stmts_grow : (xs : Stmts) (rest : List Token) → length rest ≤ length (stmts_then xs rest)
  stmts_grow c.done rest = omega arith
  stmts_grow (c.next x xs) rest = let a = stmt_grows x (stmts_then xs rest) in let b = stmts_grow xs rest in omega (arith, a, b)

body_grows : (b : Body) (rest : List Token) → suc (length b.head.params + length b.vars + length rest) ≤ length (body_then b rest)
body_grows b rest =
    let a = head_grows b.head (t.sign s.OpenBrace ∷ vars_then b.vars (stmts_then b.stmts (t.sign s.CloseBrace ∷ rest))) in
    let d = vars_grow b.vars (stmts_then b.stmts (t.sign s.CloseBrace ∷ rest)) in
    let e = stmts_grow b.stmts (t.sign s.CloseBrace ∷ rest) in
    omega (arith, a, d, e)

-- ---- all functions

-- a body declares at most so many variables
abbrev pub Declares : ℕ → Body → Type 0
Declares n b = length b.head.params + length b.vars ≤ n

bodies_declare : (bs : List Body) (rest : List Token) → Each (Declares (length (bodies_then bs rest))) bs
bodies_declare [] rest = tt
bodies_declare (b ∷ bs) rest =
    let a = body_grows b (bodies_then bs rest) in
    (omega (arith, a), each_map (Declares (length (bodies_then bs rest))) (Declares (length (body_then b (bodies_then bs rest)))) bs (λ x h. omega (arith, a, h)) (bodies_declare bs rest))

bodies_few : (bs : List Body) (rest : List Token) → length bs ≤ length (bodies_then bs rest)
bodies_few [] rest = omega arith
bodies_few (b ∷ bs) rest = let a = body_grows b (bodies_then bs rest) in let h = bodies_few bs rest in omega (arith, a, h)

text_declares : (p : c.Program) → Each (Declares (length (canonical_text p))) (unit_of p).bodies
text_declares p =
    let u = unit_of p in
    let tokens = functions_then u [] in
    let a = heads_grow u.heads (bodies_then u.bodies []) in
    let b = tokens_long tokens in
    let d = length-append (include_text ++ line_feed ++ define_text ++ decimal u.main ++ line_feed) (text_of_tokens tokens) in
    each_map (Declares (length (bodies_then u.bodies []))) (Declares (length (canonical_text p))) u.bodies (λ x h. omega (arith, a, b, d, h)) (bodies_declare u.bodies [])

-- ---- numbers of variables

pub vars_long : (t : Numbers) (ss : List Sort) → length (vars_at t ss) ≡ length ss
vars_long t [] = refl
vars_long t (x ∷ ss) = ap suc (vars_long (past t x) ss)

range_long : (n i : ℕ) → length (range_with_len i n) ≡ n
range_long zero i = refl
range_long (suc n) i = ap suc (range_long n (i + 1))

abbrev number_vars : Numbers → Numbers → List CVar
number_vars a b = map (λ i. record { reference = false; number = i }) (range_with_len a.n (b.n - a.n))

abbrev reference_vars : Numbers → Numbers → List CVar
reference_vars a b = map (λ i. record { reference = true; number = i }) (range_with_len a.p (b.p - a.p))

pub between_long : (a b : Numbers) → length (vars_between a b) ≡ (b.n - a.n) + (b.p - a.p)
between_long a b =
    let x : length (number_vars a b) ≡ b.n - a.n = length-map (range_with_len a.n (b.n - a.n)) (λ i. record { reference = false; number = i }) ∙ range_long (b.n - a.n) a.n in
    let y : length (reference_vars a b) ≡ b.p - a.p = length-map (range_with_len a.p (b.p - a.p)) (λ i. record { reference = true; number = i }) ∙ range_long (b.p - a.p) a.p in
    length-append (number_vars a b) (reference_vars a b) ∙ ap (λ n. n + length (reference_vars a b)) x ∙ ap (λ n. (b.n - a.n) + n) y

-- variables of a function of which that many are declared
pub variables_small : (p : Program) (glue : Bool) (number : ℕ) (f : Func) (code : StmtCode) (n : ℕ) → n ≤ max_number → Declares n (body_of glue (func_with p number f code)) →
    (v : CVar) → IsBelow (most_of_both (first_temps p f) code.most) v → v.number ≤ max_number
variables_small p glue number f code n few h v below = by v.reference below
  where
    ss : List Sort
    ss = var_sorts p (take f.params f.vars)

    b : Numbers
    b = most_of_both (first_temps p f) code.most

    params_are : length (map declaration_of (param_slots p f)) ≡ length ss
    params_are = length-map (vars_at first_numbers ss) declaration_of ∙ vars_long first_numbers ss

    vars_are : length (map declaration_of (vars_between (past_all first_numbers ss) b)) ≡ (b.n - (past_all first_numbers ss).n) + (b.p - (past_all first_numbers ss).p)
    vars_are = length-map (vars_between (past_all first_numbers ss) b) declaration_of ∙ between_long (past_all first_numbers ss) b

    by : (r : Bool) → v.number < (if r then b.p else b.n) → v.number ≤ max_number
    by false l = let x = numbers_long first_numbers ss in let d = params_are in let e = vars_are in omega (arith, few, h, l, x, d, e)
    by true l = let x = references_long first_numbers ss in let d = params_are in let e = vars_are in omega (arith, few, h, l, x, d, e)

pub text_small : (p : Program) → IsPrintable p → Each (Declares (limit_of 2)) (unit_of (lowered p)).bodies
text_small p print =
    let fits = print.fits in
    each_map (Declares (length (canonical_text (lowered p)))) (Declares (limit_of 2)) (unit_of (lowered p)).bodies (λ x h. omega (arith, fits, h)) (text_declares (lowered p))

-- ---- numbers of functions

enumerated_long : {A : Type 0} (i : ℕ) (xs : List A) → length (enumerate_from i xs) ≡ length xs
enumerated_long i [] = refl
enumerated_long i (x ∷ xs) = ap suc (enumerated_long (i + 1) xs)

parted_long : {A : Type 0} (test : A → Bool) (xs : List A) → length (filter test xs) + length (filter (λ x. not (test x)) xs) ≡ length xs
parted_long test [] = refl
parted_long test (x ∷ xs) = by (test x) (parted_long test xs)
  where
    by : (b : Bool) → length (filter test xs) + length (filter (λ x. not (test x)) xs) ≡ length xs →
        length (if b then x ∷ filter test xs else filter test xs) + length (if not b then x ∷ filter (λ x. not (test x)) xs else filter (λ x. not (test x)) xs) ≡ suc (length xs)
    by true h = omega (arith, h)
    by false h = omega (arith, h)

numbered_long : {A : Type 0} (glue : Bool) (go : ℕ → A → c.Func) (xs : List A) → length (map (body_of glue) (map (λ q. go q.0 q.1) (enumerate_from 0 xs))) ≡ length xs
numbered_long glue go xs = length-map (map (λ q. go q.0 q.1) (enumerate_from 0 xs)) (body_of glue) ∙ length-map (enumerate_from 0 xs) (λ q. go q.0 q.1) ∙ enumerated_long 0 xs

-- a text has a body for each function
pub functions_small : (p : Program) → IsPrintable p → length p.fns ≤ max_number
functions_small p print =
    let u = unit_of (lowered p) in
    let tokens = functions_then u [] in
    let a = heads_grow u.heads (bodies_then u.bodies []) in
    let b = tokens_long tokens in
    let d = length-append (include_text ++ line_feed ++ define_text ++ decimal u.main ++ line_feed) (text_of_tokens tokens) in
    let e = bodies_few u.bodies [] in
    let f = length-append (map (body_of true) (lowered p).glue) (map (body_of false) (lowered p).fns) in
    let x = numbered_long true (λ k f. func_with p k f (glue_code p f)) (externals p) in
    let y = numbered_long false (λ k f. func_with p k f (list_code p f (first_temps p f) f.body)) (with_body p) in
    let z = parted_long (λ (f : Func). f.external) p.fns in
    let fits = print.fits in
    omega (arith, a, b, d, e, f, x, y, z, fits)
