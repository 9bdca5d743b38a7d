-- Statements of the code, and what reading their parts says of the whole.
use Rattle.std.proofs.Common.{◌≡◌, ◌≤◌, ℕ, suc, pos, ◌+◌, true, List, [], ◌∷◌, ◌++◌, Some, map, max, refl, sym, ap, ◌∙◌, rules, arith, le_trans}
use Rattle.std.specs.Prelude.{Result, Ok, Err, IfOk}
use Rattle.std.proofs.Math.Nat.{le-max_left, le-max_right}
use Rattle.std.proofs.lemmas.List.{map-append}
use Rattle.c_syntax.specs.declared.token.CSign.TheVariants as s
use Rattle.c_syntax.specs.declared.token.CWord.TheVariants as w
use Rattle.c_syntax.specs.C as c
use Rattle.c_syntax.specs.C.{Stmt}
use Rattle.c_syntax.specs.Tokens as t
use Rattle.c_syntax.specs.Tokens.{Token}
use Rattle.c_syntax.specs.declared.program.CVar.{CVar}
use Rattle.c_syntax.specs.declared.program.CCell.{CCell}
use Rattle.c_syntax.specs.Spelling.{cell_then, expr_then, stmt_then, stmts_then}
use Rattle.c_syntax.specs.Grammar.{IsExpr, IsStmt, AreStmts, expr_depth, deepest_in, deepest, nested_in, nested, language}
use Rattle.c_syntax.specs.declared.program.CExpr.{CExpr}
use Rattle.c_syntax.specs.declared.program.CStmt.{CStmt, the_lemmas}
use Rattle.c_syntax.specs.declared.program.CStmt.{Set as CodeSet, Put as CodePut, IfElse as CodeIfElse, While as CodeWhile, Return as CodeReturn}
use Rattle.c_syntax.specs.View.{expr_of, stmt_of, stmts_of, stmts_made}
use Rattle.c_lexer.specs.declared.token.Lexeme.{Lexeme}
use Rattle.c_lexer.specs.View.{tokens_from}
use Rattle.c_parser.specs.declared.error.ParseError.{ParseError}
use Rattle.c_parser.specs.Parsing.{Reads, ReadsAfter, ReadsAfterTwo, ReadsOn, referring}

pub max_le : (a b n : ℕ) → a ≤ n → b ≤ n → max a b ≤ n
max_le a b n h k = omega (arith, h, k)

le_zero : (n : ℕ) → 0 ≤ n
le_zero n = omega arith

one_deeper : (a room : ℕ) → a ≤ room → suc a ≤ room + 1
one_deeper a room h = omega (arith, h)

return_seen : (e : CExpr) → stmt_of (CodeReturn (Some e)) ≡ c.return (Some (expr_of e))
return_seen e = search (rules, the_lemmas)

-- an expression and its semicolon
abbrev Ends : List Lexeme → ℕ → ℕ → CExpr → Type 0
Ends ls at next e = Reads ls at next (λ rest. expr_then (expr_of e) (t.sign s.Semicolon ∷ rest))

pub return_reads : (ls : List Lexeme) (at next : ℕ) (e : CExpr) → Ends ls at next e → ReadsAfter (t.word w.Return) ls at next (stmt_then (stmt_of (CodeReturn (Some e))))
return_reads ls at next e a = record {
  spells = ap (λ ts. t.word w.Return ∷ ts) a.spells ∙ ap (λ x. stmt_then x (tokens_from ls next)) (sym (return_seen e));
  later = a.later;
  within = a.within;
}

pub return_is : (e : CExpr) → IsExpr 16 (expr_of e) → (room : ℕ) → IsStmt language.expressions room (stmt_of (CodeReturn (Some e)))
return_is e is room = rw (return_seen e) (record { written = is.arities; expressions = is.depth_fits; blocks = le_zero room })

set_seen : (v : CVar) (e : CExpr) → stmt_of (CodeSet v e) ≡ c.set v (expr_of e)
set_seen v e = search (rules, the_lemmas)

pub set_reads : (ls : List Lexeme) (at next : ℕ) (v : CVar) (e : CExpr) → Ends ls at next e → ReadsAfterTwo (t.variable v) (t.sign s.Assign) ls at next (stmt_then (stmt_of (CodeSet v e)))
set_reads ls at next v e a = record {
  spells = ap (λ ts. t.variable v ∷ t.sign s.Assign ∷ ts) a.spells ∙ ap (λ x. stmt_then x (tokens_from ls next)) (sym (set_seen v e));
  later = a.later;
  within = a.within;
}

pub set_is : (v : CVar) (e : CExpr) → IsExpr 16 (expr_of e) → (room : ℕ) → IsStmt language.expressions room (stmt_of (CodeSet v e))
set_is v e is room = rw (set_seen v e) (record { written = is.arities; expressions = is.depth_fits; blocks = le_zero room })

put_seen : (x : CCell) (e : CExpr) → stmt_of (CodePut x e) ≡ c.put x (expr_of e)
put_seen x e = search (rules, the_lemmas)

referred : (v : CVar) → v.reference ≡ true → v ≡ referring v.number
referred v is = ap (λ r. record { reference = r; number = v.number }) is

pub put_reads : (ls : List Lexeme) (at n m following : ℕ) (v : CVar) (x : CCell) (e : CExpr) → v.reference ≡ true → ReadsAfter (t.variable (referring v.number)) ls at n (cell_then x)
    → Reads ls n m (λ rest. t.sign s.Assign ∷ rest) → Ends ls m following e → ReadsAfter (t.variable v) ls at following (stmt_then (stmt_of (CodePut x e)))
put_reads ls at n m following v x e is a b c = record {
  spells = ap (λ w. t.variable w ∷ tokens_from ls at) (referred v is) ∙ a.spells
      ∙ ap (cell_then x) (b.spells ∙ ap (λ ts. t.sign s.Assign ∷ ts) c.spells)
      ∙ ap (λ y. stmt_then y (tokens_from ls following)) (sym (put_seen x e));
  later = omega (arith, a.later, b.later, c.later);
  within = c.within;
}

pub put_is : (x : CCell) (e : CExpr) → IsExpr 16 (expr_of e) → (room : ℕ) → IsStmt language.expressions room (stmt_of (CodePut x e))
put_is x e is room = rw (put_seen x e) (record { written = is.arities; expressions = is.depth_fits; blocks = le_zero room })

-- ---- statements with blocks

abbrev Opens : List Lexeme → ℕ → ℕ → List CStmt → Type 0
Opens ls at next xs = Reads ls at next (λ rest. t.sign s.OpenBrace ∷ stmts_then (stmts_of xs) (t.sign s.CloseBrace ∷ rest))

if_else_seen : (e : CExpr) (xs ys : List CStmt) → stmt_of (CodeIfElse e xs ys) ≡ c.choose (expr_of e) (stmts_of xs) (stmts_of ys)
if_else_seen e xs ys = search (rules, the_lemmas)

pub if_else_ends : (ls : List Lexeme) (at following : ℕ) (e : CExpr) (xs ys : List CStmt) → Reads ls at (at + 1) (λ rest. t.word w.Else ∷ rest) → Opens ls (at + 1) following ys
    → ReadsOn ls at following (c.when (expr_of e) (stmts_of xs)) (stmt_of (CodeIfElse e xs ys))
if_else_ends ls at following e xs ys a b = record {
  spells = ap (stmt_then (c.when (expr_of e) (stmts_of xs))) (a.spells ∙ ap (λ ts. t.word w.Else ∷ ts) b.spells)
      ∙ ap (λ y. stmt_then y (tokens_from ls following)) (sym (if_else_seen e xs ys));
  later = omega (arith, a.later, b.later);
  within = b.within;
}

pub if_else_is : (e : CExpr) (xs ys : List CStmt) (room : ℕ) → IsExpr 16 (expr_of e) → AreStmts language.expressions room (stmts_of xs) → AreStmts language.expressions room (stmts_of ys)
    → IsStmt language.expressions (room + 1) (stmt_of (CodeIfElse e xs ys))
if_else_is e xs ys room is are other = rw (if_else_seen e xs ys) (record {
  written = (is.arities, are.written, other.written);
  expressions = max_le (expr_depth (expr_of e)) (max (deepest (stmts_of xs)) (deepest (stmts_of ys))) 16 is.depth_fits (max_le (deepest (stmts_of xs)) (deepest (stmts_of ys)) 16 are.expressions other.expressions);
  blocks = one_deeper (max (nested (stmts_of xs)) (nested (stmts_of ys))) room (max_le (nested (stmts_of xs)) (nested (stmts_of ys)) room are.blocks other.blocks);
})

-- the whole of an `if`, whatever comes after its first block
pub if_reads : (ls : List Lexeme) (at n m : ℕ) (e : CExpr) (xs : List CStmt) (r : Result (CStmt × ℕ) ParseError) → Reads ls at n (λ rest. t.sign s.OpenParen ∷ expr_then (expr_of e) (t.sign s.CloseParen ∷ rest)) → Opens ls n m xs
    → IfOk r (λ x. ReadsOn ls m x.1 (c.when (expr_of e) (stmts_of xs)) (stmt_of x.0)) → IfOk r (λ x. ReadsAfter (t.word w.If) ls at x.1 (stmt_then (stmt_of x.0)))
if_reads ls at n m e xs (Ok x) a b h = record {
  spells = ap (λ ts. t.word w.If ∷ ts) (a.spells ∙ ap (λ ts. t.sign s.OpenParen ∷ expr_then (expr_of e) (t.sign s.CloseParen ∷ ts)) b.spells) ∙ h.spells;
  later = omega (arith, a.later, b.later, h.later);
  within = h.within;
}
if_reads ls at n m e xs (Err x) a b h = tt

while_seen : (xs : List CStmt) → stmt_of (CodeWhile xs) ≡ c.loop (stmts_of xs)
while_seen xs = search (rules, the_lemmas)

pub while_reads : (ls : List Lexeme) (at n following : ℕ) (xs : List CStmt) → Reads ls at n (λ rest. t.sign s.OpenParen ∷ t.number (pos 1) ∷ t.sign s.CloseParen ∷ rest) → Opens ls n following xs
    → ReadsAfter (t.word w.While) ls at following (stmt_then (stmt_of (CodeWhile xs)))
while_reads ls at n following xs a b = record {
  spells = ap (λ ts. t.word w.While ∷ ts) (a.spells ∙ ap (λ ts. t.sign s.OpenParen ∷ t.number (pos 1) ∷ t.sign s.CloseParen ∷ ts) b.spells)
      ∙ ap (λ y. stmt_then y (tokens_from ls following)) (sym (while_seen xs));
  later = omega (arith, a.later, b.later);
  within = b.within;
}

pub while_is : (xs : List CStmt) (room : ℕ) → AreStmts language.expressions room (stmts_of xs) → IsStmt language.expressions (room + 1) (stmt_of (CodeWhile xs))
while_is xs room are = rw (while_seen xs) (record { written = are.written; expressions = are.expressions; blocks = one_deeper (nested (stmts_of xs)) room are.blocks })

-- ---- statements one by one

made_one : (xs : List Stmt) (x : Stmt) (rest : List Token) → stmts_then (stmts_made (xs ++ x ∷ [])) rest ≡ stmts_then (stmts_made xs) (stmt_then x rest)
made_one [] x rest = refl
made_one (y ∷ ys) x rest = ap (stmt_then y) (made_one ys x rest)

pub one_more_stmt : (all before : List CStmt) (x : CStmt) (rest : List Token) → all ≡ before ++ x ∷ [] → stmts_then (stmts_of all) rest ≡ stmts_then (stmts_of before) (stmt_then (stmt_of x) rest)
one_more_stmt all before x rest grown =
    ap (λ xs. stmts_then (stmts_of xs) rest) grown ∙ ap (λ xs. stmts_then (stmts_made xs) rest) (map-append stmt_of before (x ∷ [])) ∙ made_one (map stmt_of before) (stmt_of x) rest

made_are : (depth n : ℕ) (xs : List Stmt) (x : Stmt) → AreStmts depth n (stmts_made xs) → IsStmt depth n x → AreStmts depth n (stmts_made (xs ++ x ∷ []))
made_are depth n [] x are is = record {
  written = (is.written, tt);
  expressions = max_le (deepest_in x) 0 depth is.expressions (le_zero depth);
  blocks = max_le (nested_in x) 0 n is.blocks (le_zero n);
}
made_are depth n (y ∷ ys) x are is =
    let inner = made_are depth n ys x (record {
      written = are.written.1;
      expressions = le_trans (le-max_right (deepest_in y) (deepest (stmts_made ys))) are.expressions;
      blocks = le_trans (le-max_right (nested_in y) (nested (stmts_made ys))) are.blocks;
    }) is in record {
      written = (are.written.0, inner.written);
      expressions = max_le (deepest_in y) (deepest (stmts_made (ys ++ x ∷ []))) depth (le_trans (le-max_left (deepest_in y) (deepest (stmts_made ys))) are.expressions) inner.expressions;
      blocks = max_le (nested_in y) (nested (stmts_made (ys ++ x ∷ []))) n (le_trans (le-max_left (nested_in y) (nested (stmts_made ys))) are.blocks) inner.blocks;
    }

pub one_more_is : (depth n : ℕ) (all before : List CStmt) (x : CStmt) → all ≡ before ++ x ∷ [] → AreStmts depth n (stmts_of before) → IsStmt depth n (stmt_of x) → AreStmts depth n (stmts_of all)
one_more_is depth n all before x grown are is =
    rw (ap stmts_of grown ∙ ap stmts_made (map-append stmt_of before (x ∷ []))) (made_are depth n (map stmt_of before) (stmt_of x) are is)
