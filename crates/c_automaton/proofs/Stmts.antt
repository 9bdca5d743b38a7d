-- The automaton takes statements.
use Rattle.std.proofs.Common.{◌≡◌, ℕ, suc, ◌+◌, ◌-◌, ◌≤◌, pos, max, Bool, true, false, if◌then◌else◌, List, [], ◌∷◌, ◌++◌, Some, None, refl, ap, ◌∙◌, arith}
use Rattle.vlt_base.specs.declared.limits.TheConstants.{C_BLOCK_DEPTH}
use Rattle.c_syntax.specs.declared.program.CCell.{CCell}
use Rattle.c_syntax.specs.declared.program.CCell.TheVariants as cell
use Rattle.c_syntax.specs.declared.token.CWord.TheVariants as w
use Rattle.c_syntax.specs.declared.token.CSign.TheVariants as s
use Rattle.c_syntax.specs.C as c
use Rattle.c_syntax.specs.C.{Expr, Call, Stmt, Stmts}
use Rattle.c_syntax.specs.Tokens as t
use Rattle.c_syntax.specs.Tokens.{Token}
use Rattle.c_syntax.specs.Grammar.{Bounds, HasArities, expr_depth, IsWritten, AreWritten, deepest_in, deepest, nested_in, nested}
use Rattle.c_syntax.specs.Spelling.{expr_then, call_then, cell_then, stmt_then, stmts_then}
use Rattle.c_automaton.specs.Automaton.{Symbol, sign, one, stmts, otherwise, value, operand, blocks_in, open_block, Next, to, over, next, step}
use Rattle.c_automaton.proofs.After.{bind, after}
use Rattle.c_automaton.proofs.Exprs.{le_true, some_depth, take_expr, as_value, as_returned, take_value_call, take_call}

-- ---- what comes after a statement is no `else`

abbrev pub no_else : List Token → Bool
no_else [] = false
no_else (t.word w.Else ∷ ts) = false
no_else (x ∷ ts) = true

otherwise_ends : (b : Bounds) (ys : List Symbol) (rest : List Token) → no_else rest ≡ true → after b rest (otherwise ∷ ys) ≡ after b rest ys
otherwise_ends b ys [] e = absurd cc
otherwise_ends b ys (t.word w.Else ∷ rest) e = absurd cc
otherwise_ends b ys (x ∷ rest) e = refl

no_else_call : (f : Call) (rest : List Token) → no_else (call_then f rest) ≡ true
no_else_call (c.function f xs) rest = refl
no_else_call (c.primitive p xs) rest = refl

no_else_cell : (x : CCell) (rest : List Token) → no_else (cell_then x rest) ≡ true
no_else_cell (cell.Number p k) rest = refl
no_else_cell (cell.Reference p k) rest = refl

no_else_stmt : (x : Stmt) (rest : List Token) → no_else (stmt_then x rest) ≡ true
no_else_stmt (c.set v e) rest = refl
no_else_stmt (c.set_call v f) rest = refl
no_else_stmt (c.call f) rest = no_else_call f _
no_else_stmt (c.put x e) rest = no_else_cell x _
no_else_stmt (c.when e xs) rest = refl
no_else_stmt (c.choose e xs ys) rest = refl
no_else_stmt (c.loop xs) rest = refl
no_else_stmt c.break rest = refl
no_else_stmt c.continue rest = refl
no_else_stmt (c.return None) rest = refl
no_else_stmt (c.return (Some e)) rest = refl

no_else_stmts : (xs : Stmts) (rest : List Token) → no_else (stmts_then xs (t.sign s.CloseBrace ∷ rest)) ≡ true
no_else_stmts c.done rest = refl
no_else_stmts (c.next x xs) rest = no_else_stmt x _

-- ---- statements

-- a block opens
opens : (b : Bounds) (xs ys : List Symbol) (below : Next) → blocks_in (xs ++ ys) ≤ b.blocks - 1 → next b ys below (open_block xs) ≡ to (xs ++ ys)
opens b xs ys below h = ap (λ d. if d then to (xs ++ ys) else over C_BLOCK_DEPTH) (le_true (blocks_in (xs ++ ys)) (b.blocks - 1) h)

set_begins : (b : Bounds) (counts r : Bool) (n : ℕ) (ys : List Symbol) (rest : List Token) → after b (t.variable (record { reference = r; number = n }) ∷ t.sign s.Assign ∷ rest) (stmts counts ∷ ys) ≡ after b rest (value ∷ sign s.Semicolon ∷ stmts counts ∷ ys)
set_begins b counts true n ys rest = refl
set_begins b counts false n ys rest = refl

put_begins : (b : Bounds) (counts : Bool) (x : CCell) (ys : List Symbol) (rest : List Token) → after b (cell_then x (t.sign s.Assign ∷ rest)) (stmts counts ∷ ys) ≡ after b rest (operand ∷ sign s.Semicolon ∷ stmts counts ∷ ys)
put_begins b counts (cell.Number p k) ys rest = refl
put_begins b counts (cell.Reference p k) ys rest = refl

-- an expression that is part of no other
whole_expr : (b : Bounds) (e : Expr) → expr_depth e ≤ b.expressions → expr_depth e + 0 ≤ suc (b.expressions - 1)
whole_expr b e h = let some = some_depth e in omega (arith, h, some)

semicolon_after : (b : Bounds) (e : Expr) (ys : List Symbol) (rest : List Token) → HasArities e → expr_depth e ≤ b.expressions → after b (expr_then e (t.sign s.Semicolon ∷ rest)) (operand ∷ sign s.Semicolon ∷ ys) ≡ after b rest ys
semicolon_after b e ys rest is deep = take_expr b e (sign s.Semicolon ∷ ys) (t.sign s.Semicolon ∷ rest) is (whole_expr b e deep) refl

paren_after : (b : Bounds) (e : Expr) (ys : List Symbol) (rest : List Token) → HasArities e → expr_depth e ≤ b.expressions → after b (expr_then e (t.sign s.CloseParen ∷ rest)) (operand ∷ sign s.CloseParen ∷ ys) ≡ after b rest ys
paren_after b e ys rest is deep = take_expr b e (sign s.CloseParen ∷ ys) (t.sign s.CloseParen ∷ rest) is (whole_expr b e deep) refl

max_left : (a b n : ℕ) → max a b ≤ n → a ≤ n
max_left a b n h = omega (arith, h)

max_right : (a b n : ℕ) → max a b ≤ n → b ≤ n
max_right a b n h = omega (arith, h)

deeper_left : (a b n k : ℕ) → suc (max a b) + k ≤ n → a + suc k ≤ n
deeper_left a b n k h = omega (arith, h)

deeper_right : (a b n k : ℕ) → suc (max a b) + k ≤ n → b + suc k ≤ n
deeper_right a b n k h = omega (arith, h)

wide_left : (a b n k : ℕ) → max a b + k ≤ n → a + k ≤ n
wide_left a b n k h = omega (arith, h)

wide_right : (a b n k : ℕ) → max a b + k ≤ n → b + k ≤ n
wide_right a b n k h = omega (arith, h)

mutual
  take_stmt : (b : Bounds) (x : Stmt) (counts : Bool) (ys : List Symbol) (rest : List Token) → IsWritten x → deepest_in x ≤ b.expressions → nested_in x + blocks_in (stmts counts ∷ ys) ≤ b.blocks - 1 → no_else rest ≡ true → after b (stmt_then x rest) (stmts counts ∷ ys) ≡ after b rest (stmts counts ∷ ys)
  take_stmt b (c.set v e) counts ys rest is deep wide ends =
      set_begins b counts v.reference v.number ys (expr_then e (t.sign s.Semicolon ∷ rest))
      ∙ as_value b e (sign s.Semicolon ∷ stmts counts ∷ ys) (t.sign s.Semicolon ∷ rest)
      ∙ semicolon_after b e (stmts counts ∷ ys) rest is deep
  take_stmt b (c.set_call v f) counts ys rest is deep wide ends =
      set_begins b counts v.reference v.number ys (call_then f (t.sign s.Semicolon ∷ rest))
      ∙ take_value_call b f (sign s.Semicolon ∷ stmts counts ∷ ys) (t.sign s.Semicolon ∷ rest) is
  take_stmt b (c.call f) counts ys rest is deep wide ends = take_call b counts f ys rest is
  take_stmt b (c.put x e) counts ys rest is deep wide ends =
      put_begins b counts x ys (expr_then e (t.sign s.Semicolon ∷ rest)) ∙ semicolon_after b e (stmts counts ∷ ys) rest is deep
  take_stmt b (c.when e xs) counts ys rest is deep wide ends =
      let block : List Token = stmts_then xs (t.sign s.CloseBrace ∷ rest) in
      let inner : List Symbol = stmts false ∷ otherwise ∷ stmts counts ∷ ys in
      ap (bind (after b (t.sign s.OpenParen ∷ expr_then e (t.sign s.CloseParen ∷ t.sign s.OpenBrace ∷ block))))
      (opens b (sign s.OpenParen ∷ operand ∷ sign s.CloseParen ∷ sign s.OpenBrace ∷ stmts false ∷ otherwise ∷ stmts counts ∷ []) ys (step b ys (t.word w.If)) (omega (arith, wide)))
      ∙ paren_after b e (sign s.OpenBrace ∷ inner) (t.sign s.OpenBrace ∷ block) is.0 (max_left (expr_depth e) (deepest xs) b.expressions deep)
      ∙ take_stmts b xs false (otherwise ∷ stmts counts ∷ ys) rest is.1 (max_right (expr_depth e) (deepest xs) b.expressions deep) (omega (arith, wide))
      ∙ otherwise_ends b (stmts counts ∷ ys) rest ends
  take_stmt b (c.choose e xs zs) counts ys rest is deep wide ends =
      let other : List Token = stmts_then zs (t.sign s.CloseBrace ∷ rest) in
      let block : List Token = stmts_then xs (t.sign s.CloseBrace ∷ t.word w.Else ∷ t.sign s.OpenBrace ∷ other) in
      let inner : List Symbol = stmts false ∷ otherwise ∷ stmts counts ∷ ys in
      let both : max (deepest xs) (deepest zs) ≤ b.expressions = max_right (expr_depth e) (max (deepest xs) (deepest zs)) b.expressions deep in
      let around : ℕ = blocks_in (stmts counts ∷ ys) in
      ap (bind (after b (t.sign s.OpenParen ∷ expr_then e (t.sign s.CloseParen ∷ t.sign s.OpenBrace ∷ block))))
      (opens b (sign s.OpenParen ∷ operand ∷ sign s.CloseParen ∷ sign s.OpenBrace ∷ stmts false ∷ otherwise ∷ stmts counts ∷ []) ys (step b ys (t.word w.If)) (omega (arith, wide)))
      ∙ paren_after b e (sign s.OpenBrace ∷ inner) (t.sign s.OpenBrace ∷ block) is.0 (max_left (expr_depth e) (max (deepest xs) (deepest zs)) b.expressions deep)
      ∙ take_stmts b xs false (otherwise ∷ stmts counts ∷ ys) (t.word w.Else ∷ t.sign s.OpenBrace ∷ other) is.1 (max_left (deepest xs) (deepest zs) b.expressions both) (deeper_left (nested xs) (nested zs) (b.blocks - 1) around wide)
      ∙ take_stmts b zs true (stmts counts ∷ ys) rest is.2 (max_right (deepest xs) (deepest zs) b.expressions both) (deeper_right (nested xs) (nested zs) (b.blocks - 1) around wide)
  take_stmt b (c.loop xs) counts ys rest is deep wide ends =
      let block : List Token = stmts_then xs (t.sign s.CloseBrace ∷ rest) in
      ap (bind (after b (t.sign s.OpenParen ∷ t.number (pos 1) ∷ t.sign s.CloseParen ∷ t.sign s.OpenBrace ∷ block)))
      (opens b (sign s.OpenParen ∷ one ∷ sign s.CloseParen ∷ sign s.OpenBrace ∷ stmts true ∷ stmts counts ∷ []) ys (step b ys (t.word w.While)) (omega (arith, wide)))
      ∙ take_stmts b xs true (stmts counts ∷ ys) rest is deep (omega (arith, wide))
  take_stmt b c.break counts ys rest is deep wide ends = refl
  take_stmt b c.continue counts ys rest is deep wide ends = refl
  take_stmt b (c.return None) counts ys rest is deep wide ends = refl
  take_stmt b (c.return (Some e)) counts ys rest is deep wide ends =
      as_returned b e (stmts counts ∷ ys) (t.sign s.Semicolon ∷ rest) ∙ semicolon_after b e (stmts counts ∷ ys) rest is deep

  pub take_stmts : (b : Bounds) (xs : Stmts) (counts : Bool) (ys : List Symbol) (rest : List Token) → AreWritten xs → deepest xs ≤ b.expressions → nested xs + blocks_in (stmts counts ∷ ys) ≤ b.blocks - 1 → after b (stmts_then xs (t.sign s.CloseBrace ∷ rest)) (stmts counts ∷ ys) ≡ after b rest ys
  take_stmts b c.done counts ys rest is deep wide = refl
  take_stmts b (c.next x xs) counts ys rest is deep wide =
      let around : ℕ = blocks_in (stmts counts ∷ ys) in
      take_stmt b x counts ys (stmts_then xs (t.sign s.CloseBrace ∷ rest)) is.0 (max_left (deepest_in x) (deepest xs) b.expressions deep) (wide_left (nested_in x) (nested xs) (b.blocks - 1) around wide) (no_else_stmts xs rest)
      ∙ take_stmts b xs counts ys rest is.1 (max_right (deepest_in x) (deepest xs) b.expressions deep) (wide_right (nested_in x) (nested xs) (b.blocks - 1) around wide)
