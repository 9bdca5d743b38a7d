-- What the printer writes is what the tokens of the spelling are written as.
use Rattle.std.proofs.Common.{◌≡◌, ℕ, Bool, true, false, if◌then◌else◌, List, [], ◌∷◌, ◌++◌, map, Some, None, refl, sym, ap, ◌∙◌, append_assoc, rules}
use Rattle.std.specs.Prelude.{codes}
use Rattle.std.specs.Fmt.{decimal, signed_decimal, digits}
use Rattle.vlt_ops.specs.declared.Op.{Op}
use Rattle.vlt_ops.specs.Operator.{row_of}
use Rattle.c_syntax.specs.declared.program.CVar.{CVar}
use Rattle.c_syntax.specs.declared.program.CName.{CName}
use Rattle.c_syntax.specs.declared.program.CResult.{CResult}
use Rattle.c_syntax.specs.declared.program.CResult.TheVariants as result
use Rattle.c_syntax.specs.declared.program.CCell.{CCell}
use Rattle.c_syntax.specs.declared.program.CCell.TheVariants as cell
use Rattle.c_syntax.specs.declared.token.CSign.TheVariants as s
use Rattle.c_syntax.specs.declared.token.CWord.TheVariants as w
use Rattle.c_syntax.specs.declared.program.CStmt.{CStmt, the_lemmas}
use Rattle.c_syntax.specs.declared.program.CStmt.{While as CodeWhile, Continue as CodeContinue}
use Rattle.c_syntax.specs.View.{stmt_of, stmts_of}
use Rattle.c_syntax.specs.C as c
use Rattle.c_syntax.specs.C.{Expr, Arg, Call, Stmt, Stmts, Func, Program}
use Rattle.c_syntax.specs.Tokens as t
use Rattle.c_syntax.specs.Tokens.{Token, prim_text, variable_letter, name_letter}
use Rattle.c_syntax.specs.Spelling.{prefix_sign, expr_then, cell_then, arg_token, args_then, more_args_then, call_then, stmt_then, stmts_then, type_then, declaration_then, result_then, more_params_then, params_then, head_then, heads_then, vars_then, body_then, bodies_then}
use Rattle.c_syntax.specs.Canonical.{text_of_tokens, begins_else, space, line_feed, declaration_of, head_of, body_of, unit_of, canonical_text}
use Rattle.c_printer.specs.Layout.{variable_laid, name_laid, block_laid, cell_laid, operator_laid, expr_laid, arg_laid, args_laid, more_args_laid, call_laid, stmt_laid, stmts_laid, type_laid, result_laid, declaration_laid, more_params_laid, params_laid, head_laid, vars_laid, body_laid, heads_laid, bodies_laid, first_lines_laid, program_laid}

-- one text after another, and then a third
two : (out a b more : List ℕ) → ((out ++ a) ++ b) ++ more ≡ out ++ (a ++ (b ++ more))
two out a b more = append_assoc (out ++ a) b more ∙ append_assoc out a (b ++ more)

one_is : decimal 1 ≡ codes "1"
unfolding digits
one_is = refl

-- a token and the space after it, and then more
apart : (out a b more : List ℕ) → ((out ++ a) ++ 32 ∷ b) ++ more ≡ out ++ ((a ++ space) ++ (b ++ more))
apart out a b more = two out a (32 ∷ b) more ∙ ap (λ x. out ++ x) (sym (append_assoc a space (b ++ more)))

cell_is : (x : CCell) (out : List ℕ) (rest : List Token) → cell_laid x out ++ text_of_tokens rest ≡ out ++ text_of_tokens (cell_then x rest)
cell_is (cell.Number p k) out rest =
    apart (block_laid p out ++ codes " -> n [ ") (decimal k) (codes "] ") (text_of_tokens rest)
    ∙ apart out (112 ∷ decimal p) (codes "-> n [ ") ((decimal k ++ space) ++ (codes "] " ++ text_of_tokens rest))
cell_is (cell.Reference p k) out rest =
    apart (block_laid p out ++ codes " -> r [ ") (decimal k) (codes "] ") (text_of_tokens rest)
    ∙ apart out (112 ∷ decimal p) (codes "-> r [ ") ((decimal k ++ space) ++ (codes "] " ++ text_of_tokens rest))

operator_is : (o : Op) (out : List ℕ) (rest : List Token) → operator_laid o out ++ text_of_tokens rest ≡ out ++ text_of_tokens (t.operator o ∷ rest)
operator_is o out rest = apart out (row_of o).sign [] (text_of_tokens rest)

expr_is : (e : Expr) (out : List ℕ) (rest : List Token) → expr_laid e out ++ text_of_tokens rest ≡ out ++ text_of_tokens (expr_then e rest)
expr_is (c.number z) out rest = apart out (signed_decimal z) [] (text_of_tokens rest)
expr_is (c.variable v) out rest = apart out (variable_letter v ∷ decimal v.number) [] (text_of_tokens rest)
expr_is (c.cell x) out rest = cell_is x out rest
expr_is c.null out rest = append_assoc out (codes "vr_null ") (text_of_tokens rest)
expr_is (c.unary o e) out rest =
    let opened = out ++ codes "( " in
    let following = t.sign s.CloseParen ∷ rest in
    append_assoc (expr_laid e (operator_laid (prefix_sign o) opened)) (codes ") ") (text_of_tokens rest)
    ∙ expr_is e (operator_laid (prefix_sign o) opened) following
    ∙ operator_is (prefix_sign o) opened (expr_then e following)
    ∙ append_assoc out (codes "( ") (text_of_tokens (t.operator (prefix_sign o) ∷ expr_then e following))
expr_is (c.binary o a b) out rest =
    let opened = out ++ codes "( " in
    let following = t.sign s.CloseParen ∷ rest in
    append_assoc (expr_laid b (operator_laid o (expr_laid a opened))) (codes ") ") (text_of_tokens rest)
    ∙ expr_is b (operator_laid o (expr_laid a opened)) following
    ∙ operator_is o (expr_laid a opened) (expr_then b following)
    ∙ expr_is a opened (t.operator o ∷ expr_then b following)
    ∙ append_assoc out (codes "( ") (text_of_tokens (expr_then a (t.operator o ∷ expr_then b following)))

arg_is : (x : Arg) (out : List ℕ) (rest : List Token) → arg_laid x out ++ text_of_tokens rest ≡ out ++ text_of_tokens (arg_token x ∷ rest)
arg_is (c.number z) out rest = apart out (signed_decimal z) [] (text_of_tokens rest)
arg_is (c.variable v) out rest = apart out (variable_letter v ∷ decimal v.number) [] (text_of_tokens rest)
arg_is c.null out rest = append_assoc out (codes "vr_null ") (text_of_tokens rest)
arg_is (c.text cs) out rest =
    two (out ++ codes "\"") cs (codes "\" ") (text_of_tokens rest)
    ∙ append_assoc out (codes "\"") (cs ++ (codes "\" " ++ text_of_tokens rest))
    ∙ ap (λ x. out ++ 34 ∷ x) (sym (append_assoc cs (34 ∷ []) (32 ∷ text_of_tokens rest)) ∙ sym (append_assoc (cs ++ 34 ∷ []) space (text_of_tokens rest)))

more_args_is : (xs : List Arg) (out : List ℕ) (rest : List Token) → more_args_laid xs out ++ text_of_tokens rest ≡ out ++ text_of_tokens (more_args_then xs rest)
more_args_is [] out rest = append_assoc out (codes ") ") (text_of_tokens rest)
more_args_is (x ∷ xs) out rest =
    more_args_is xs (arg_laid x (out ++ codes ", ")) rest
    ∙ arg_is x (out ++ codes ", ") (more_args_then xs rest)
    ∙ append_assoc out (codes ", ") (text_of_tokens (arg_token x ∷ more_args_then xs rest))

args_is : (xs : List Arg) (out : List ℕ) (rest : List Token) → args_laid xs out ++ text_of_tokens rest ≡ out ++ text_of_tokens (args_then xs rest)
args_is [] out rest = append_assoc out (codes ") ") (text_of_tokens rest)
args_is (x ∷ xs) out rest = more_args_is xs (arg_laid x out) rest ∙ arg_is x out (more_args_then xs rest)

call_is : (f : Call) (out : List ℕ) (rest : List Token) → call_laid f out ++ text_of_tokens rest ≡ out ++ text_of_tokens (call_then f rest)
call_is (c.function f xs) out rest =
    args_is xs (name_laid f out ++ codes " ( ") rest ∙ apart out (name_letter f ∷ decimal f.number) (codes "( ") (text_of_tokens (args_then xs rest))
call_is (c.primitive p xs) out rest =
    args_is xs ((out ++ prim_text p) ++ codes " ( ") rest ∙ apart out (prim_text p) (codes "( ") (text_of_tokens (args_then xs rest))

-- a line ends with `}` where no `else` comes
closed : (out : List ℕ) (rest : List Token) → begins_else rest ≡ false → (out ++ codes "}\n") ++ text_of_tokens rest ≡ out ++ text_of_tokens (t.sign s.CloseBrace ∷ rest)
closed out rest none =
    append_assoc out (codes "}\n") (text_of_tokens rest) ∙ ap (λ b. out ++ 125 ∷ ((if b then space else line_feed) ++ text_of_tokens rest)) (sym none)

-- no statement begins with `else`
no_else : (xs : Stmts) (rest : List Token) → begins_else rest ≡ false → begins_else (stmts_then xs rest) ≡ false
no_else c.done rest h = h
no_else (c.next (c.set v e) xs) rest h = refl
no_else (c.next (c.set_call v f) xs) rest h = refl
no_else (c.next (c.call (c.function f args)) xs) rest h = refl
no_else (c.next (c.call (c.primitive p args)) xs) rest h = refl
no_else (c.next (c.put (cell.Number p k) e) xs) rest h = refl
no_else (c.next (c.put (cell.Reference p k) e) xs) rest h = refl
no_else (c.next (c.when e ys) xs) rest h = refl
no_else (c.next (c.choose e ys zs) xs) rest h = refl
no_else (c.next (c.loop ys) xs) rest h = refl
no_else (c.next c.break xs) rest h = refl
no_else (c.next c.continue xs) rest h = refl
no_else (c.next (c.return None) xs) rest h = refl
no_else (c.next (c.return (Some e)) xs) rest h = refl

mutual
  stmt_is : (x : Stmt) (out : List ℕ) (rest : List Token) → begins_else rest ≡ false → stmt_laid x out ++ text_of_tokens rest ≡ out ++ text_of_tokens (stmt_then x rest)
  stmt_is (c.set v e) out rest none =
      let following = t.sign s.Semicolon ∷ rest in
      append_assoc (expr_laid e (variable_laid v out ++ codes " = ")) (codes ";\n") (text_of_tokens rest)
      ∙ expr_is e (variable_laid v out ++ codes " = ") following
      ∙ apart out (variable_letter v ∷ decimal v.number) (codes "= ") (text_of_tokens (expr_then e following))
  stmt_is (c.set_call v f) out rest none =
      let following = t.sign s.Semicolon ∷ rest in
      append_assoc (call_laid f (variable_laid v out ++ codes " = ")) (codes ";\n") (text_of_tokens rest)
      ∙ call_is f (variable_laid v out ++ codes " = ") following
      ∙ apart out (variable_letter v ∷ decimal v.number) (codes "= ") (text_of_tokens (call_then f following))
  stmt_is (c.call f) out rest none =
      append_assoc (call_laid f out) (codes ";\n") (text_of_tokens rest) ∙ call_is f out (t.sign s.Semicolon ∷ rest)
  stmt_is (c.put x e) out rest none =
      let following = t.sign s.Semicolon ∷ rest in
      append_assoc (expr_laid e (cell_laid x out ++ codes "= ")) (codes ";\n") (text_of_tokens rest)
      ∙ expr_is e (cell_laid x out ++ codes "= ") following
      ∙ append_assoc (cell_laid x out) (codes "= ") (text_of_tokens (expr_then e following))
      ∙ cell_is x out (t.sign s.Assign ∷ expr_then e following)
  stmt_is (c.when e xs) out rest none =
      let opened = out ++ codes "if ( " in
      let inside = t.sign s.CloseBrace ∷ rest in
      closed (stmts_laid xs (expr_laid e opened ++ codes ") {\n")) rest none
      ∙ stmts_is xs (expr_laid e opened ++ codes ") {\n") inside refl
      ∙ append_assoc (expr_laid e opened) (codes ") {\n") (text_of_tokens (stmts_then xs inside))
      ∙ expr_is e opened (t.sign s.CloseParen ∷ t.sign s.OpenBrace ∷ stmts_then xs inside)
      ∙ append_assoc out (codes "if ( ") (text_of_tokens (expr_then e (t.sign s.CloseParen ∷ t.sign s.OpenBrace ∷ stmts_then xs inside)))
  stmt_is (c.choose e xs ys) out rest none =
      let opened = out ++ codes "if ( " in
      let first = stmts_laid xs (expr_laid e opened ++ codes ") {\n") in
      let inside = t.sign s.CloseBrace ∷ rest in
      let other = t.sign s.CloseBrace ∷ t.word w.Else ∷ t.sign s.OpenBrace ∷ stmts_then ys inside in
      closed (stmts_laid ys (first ++ codes "} else {\n")) rest none
      ∙ stmts_is ys (first ++ codes "} else {\n") inside refl
      ∙ append_assoc first (codes "} else {\n") (text_of_tokens (stmts_then ys inside))
      ∙ stmts_is xs (expr_laid e opened ++ codes ") {\n") other refl
      ∙ append_assoc (expr_laid e opened) (codes ") {\n") (text_of_tokens (stmts_then xs other))
      ∙ expr_is e opened (t.sign s.CloseParen ∷ t.sign s.OpenBrace ∷ stmts_then xs other)
      ∙ append_assoc out (codes "if ( ") (text_of_tokens (expr_then e (t.sign s.CloseParen ∷ t.sign s.OpenBrace ∷ stmts_then xs other)))
  stmt_is (c.loop xs) out rest none =
      let inside = t.sign s.CloseBrace ∷ rest in
      closed (stmts_laid xs (out ++ codes "while ( 1 ) {\n")) rest none
      ∙ stmts_is xs (out ++ codes "while ( 1 ) {\n") inside refl
      ∙ append_assoc out (codes "while ( 1 ) {\n") (text_of_tokens (stmts_then xs inside))
      ∙ ap (λ d. out ++ (codes "while ( " ++ ((d ++ space) ++ (codes ") {\n" ++ text_of_tokens (stmts_then xs inside))))) (sym one_is)
  stmt_is c.break out rest none = append_assoc out (codes "break ;\n") (text_of_tokens rest)
  stmt_is c.continue out rest none = append_assoc out (codes "continue ;\n") (text_of_tokens rest)
  stmt_is (c.return None) out rest none = append_assoc out (codes "return ;\n") (text_of_tokens rest)
  stmt_is (c.return (Some e)) out rest none =
      let following = t.sign s.Semicolon ∷ rest in
      append_assoc (expr_laid e (out ++ codes "return ")) (codes ";\n") (text_of_tokens rest)
      ∙ expr_is e (out ++ codes "return ") following
      ∙ append_assoc out (codes "return ") (text_of_tokens (expr_then e following))

  stmts_is : (xs : Stmts) (out : List ℕ) (rest : List Token) → begins_else rest ≡ false → stmts_laid xs out ++ text_of_tokens rest ≡ out ++ text_of_tokens (stmts_then xs rest)
  stmts_is c.done out rest none = refl
  stmts_is (c.next x xs) out rest none = stmts_is xs (stmt_laid x out) rest none ∙ stmt_is x out (stmts_then xs rest) (no_else xs rest none)

-- ---- functions

type_is : (r : Bool) (out : List ℕ) (rest : List Token) → type_laid r out ++ text_of_tokens rest ≡ out ++ text_of_tokens (type_then r rest)
type_is true out rest = append_assoc out (codes "vr_ref ") (text_of_tokens rest)
type_is false out rest = append_assoc out (codes "long long ") (text_of_tokens rest)

result_is : (r : CResult) (out : List ℕ) (rest : List Token) → result_laid r out ++ text_of_tokens rest ≡ out ++ text_of_tokens (result_then r rest)
result_is result.Nothing out rest = append_assoc out (codes "void ") (text_of_tokens rest)
result_is result.Number out rest = type_is false out rest
result_is result.Reference out rest = type_is true out rest

declaration_is : (v : CVar) (out : List ℕ) (rest : List Token) → declaration_laid v out ++ text_of_tokens rest ≡ out ++ text_of_tokens (declaration_then (declaration_of v) rest)
declaration_is v out rest =
    apart (type_laid v.reference out) (variable_letter v ∷ decimal v.number) [] (text_of_tokens rest)
    ∙ type_is v.reference out (t.variable v ∷ rest)

more_params_is : (vs : List CVar) (out : List ℕ) (rest : List Token) → more_params_laid vs out ++ text_of_tokens rest ≡ out ++ text_of_tokens (more_params_then (map declaration_of vs) rest)
more_params_is [] out rest = append_assoc out (codes ") ") (text_of_tokens rest)
more_params_is (v ∷ vs) out rest =
    more_params_is vs (declaration_laid v (out ++ codes ", ")) rest
    ∙ declaration_is v (out ++ codes ", ") (more_params_then (map declaration_of vs) rest)
    ∙ append_assoc out (codes ", ") (text_of_tokens (declaration_then (declaration_of v) (more_params_then (map declaration_of vs) rest)))

params_is : (vs : List CVar) (out : List ℕ) (rest : List Token) → params_laid vs out ++ text_of_tokens rest ≡ out ++ text_of_tokens (params_then (map declaration_of vs) rest)
params_is [] out rest = append_assoc out (codes "void ) ") (text_of_tokens rest)
params_is (v ∷ vs) out rest = more_params_is vs (declaration_laid v out) rest ∙ declaration_is v out (more_params_then (map declaration_of vs) rest)

head_is : (glue : Bool) (f : Func) (out : List ℕ) (rest : List Token) → head_laid glue f out ++ text_of_tokens rest ≡ out ++ text_of_tokens (head_then (head_of glue f) rest)
head_is glue f out rest =
    let n : CName = record { glue = glue; number = f.number } in
    let following = params_then (map declaration_of f.params) rest in
    params_is f.params (name_laid n (result_laid f.result out) ++ codes " ( ") rest
    ∙ apart (result_laid f.result out) (name_letter n ∷ decimal f.number) (codes "( ") (text_of_tokens following)
    ∙ result_is f.result out (t.name n ∷ t.sign s.OpenParen ∷ following)

vars_is : (vs : List CVar) (out : List ℕ) (rest : List Token) → vars_laid vs out ++ text_of_tokens rest ≡ out ++ text_of_tokens (vars_then (map declaration_of vs) rest)
vars_is [] out rest = refl
vars_is (v ∷ vs) out rest =
    vars_is vs (declaration_laid v out ++ codes ";\n") rest
    ∙ append_assoc (declaration_laid v out) (codes ";\n") (text_of_tokens (vars_then (map declaration_of vs) rest))
    ∙ declaration_is v out (t.sign s.Semicolon ∷ vars_then (map declaration_of vs) rest)

body_is : (glue : Bool) (f : Func) (out : List ℕ) (rest : List Token) → begins_else rest ≡ false → body_laid glue f out ++ text_of_tokens rest ≡ out ++ text_of_tokens (body_then (body_of glue f) rest)
body_is glue f out rest none =
    let head = head_laid glue f out in
    let inside = stmts_then f.body (t.sign s.CloseBrace ∷ rest) in
    closed (stmts_laid f.body (vars_laid f.vars (head ++ codes "{\n"))) rest none
    ∙ stmts_is f.body (vars_laid f.vars (head ++ codes "{\n")) (t.sign s.CloseBrace ∷ rest) refl
    ∙ vars_is f.vars (head ++ codes "{\n") inside
    ∙ append_assoc head (codes "{\n") (text_of_tokens (vars_then (map declaration_of f.vars) inside))
    ∙ head_is glue f out (t.sign s.OpenBrace ∷ vars_then (map declaration_of f.vars) inside)

heads_is : (glue : Bool) (fs : List Func) (out : List ℕ) (rest : List Token) → heads_laid glue fs out ++ text_of_tokens rest ≡ out ++ text_of_tokens (heads_then (map (head_of glue) fs) rest)
heads_is glue [] out rest = refl
heads_is glue (f ∷ fs) out rest =
    heads_is glue fs (head_laid glue f out ++ codes ";\n") rest
    ∙ append_assoc (head_laid glue f out) (codes ";\n") (text_of_tokens (heads_then (map (head_of glue) fs) rest))
    ∙ head_is glue f out (t.sign s.Semicolon ∷ heads_then (map (head_of glue) fs) rest)

head_no_else : (glue : Bool) (f : Func) (rest : List Token) → begins_else (head_then (head_of glue f) rest) ≡ false
head_no_else glue f rest = at f.result
  where
    at : (r : CResult) → begins_else (result_then r (t.name (record { glue = glue; number = f.number }) ∷ t.sign s.OpenParen ∷ params_then (map declaration_of f.params) rest)) ≡ false
    at result.Nothing = refl
    at result.Number = refl
    at result.Reference = refl

bodies_no_else : (glue : Bool) (fs : List Func) (rest : List Token) → begins_else rest ≡ false → begins_else (bodies_then (map (body_of glue) fs) rest) ≡ false
bodies_no_else glue [] rest none = none
bodies_no_else glue (f ∷ fs) rest none = head_no_else glue f _

bodies_is : (glue : Bool) (fs : List Func) (out : List ℕ) (rest : List Token) → begins_else rest ≡ false → bodies_laid glue fs out ++ text_of_tokens rest ≡ out ++ text_of_tokens (bodies_then (map (body_of glue) fs) rest)
bodies_is glue [] out rest none = refl
bodies_is glue (f ∷ fs) out rest none =
    bodies_is glue fs (body_laid glue f out) rest none ∙ body_is glue f out (bodies_then (map (body_of glue) fs) rest) (bodies_no_else glue fs rest none)

-- ---- the whole

heads_joined : (hs gs : List _) (rest : List Token) → heads_then (hs ++ gs) rest ≡ heads_then hs (heads_then gs rest)
heads_joined [] gs rest = refl
heads_joined (h ∷ hs) gs rest = ap (λ x. head_then h (t.sign s.Semicolon ∷ x)) (heads_joined hs gs rest)

bodies_joined : (bs cs : List _) (rest : List Token) → bodies_then (bs ++ cs) rest ≡ bodies_then bs (bodies_then cs rest)
bodies_joined [] cs rest = refl
bodies_joined (b ∷ bs) cs rest = ap (body_then b) (bodies_joined bs cs rest)

no_more : (xs : List ℕ) → xs ++ [] ≡ xs
no_more [] = refl
no_more (x ∷ xs) = ap (λ r. x ∷ r) (no_more xs)

pub program_is : (p : Program) → program_laid p [] ≡ canonical_text p
program_is p =
    let first = first_lines_laid (unit_of p).main [] in
    let bodies = bodies_then (map (body_of true) p.glue) (bodies_then (map (body_of false) p.fns) []) in
    let heads = heads_laid false p.fns (heads_laid true p.glue first) in
    sym (no_more (program_laid p []))
    ∙ bodies_is false p.fns (bodies_laid true p.glue heads) [] refl
    ∙ bodies_is true p.glue heads (bodies_then (map (body_of false) p.fns) []) (bodies_no_else false p.fns [] refl)
    ∙ heads_is false p.fns (heads_laid true p.glue first) bodies
    ∙ heads_is true p.glue first (heads_then (map (head_of false) p.fns) bodies)
    ∙ ap (λ x. first ++ text_of_tokens x)
    (ap (λ x. heads_then (map (head_of true) p.glue) (heads_then (map (head_of false) p.fns) x)) (sym (bodies_joined (map (body_of true) p.glue) (map (body_of false) p.fns) []))
    ∙ sym (heads_joined (map (head_of true) p.glue) (map (head_of false) p.fns) _))

-- ---- what statements of the code are

pub loop_seen : (xs : List CStmt) → stmt_of (CodeWhile xs) ≡ c.loop (stmts_of xs)
loop_seen xs = search (rules, the_lemmas)

pub continue_seen : stmt_of CodeContinue ≡ c.continue
continue_seen = search (rules, the_lemmas)
