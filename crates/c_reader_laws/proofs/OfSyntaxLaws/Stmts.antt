-- Statements are read back from their tokens.
use Rattle.std.proofs.Common.{◌≡◌, ◌≤◌, ℕ, zero, suc, ◌+◌, max, Bool, true, false, if◌then◌else◌, List, ◌∷◌, drop, Some, None, refl, ap, ◌∙◌, arith}
use Rattle.c_syntax.specs.declared.program.CVar.{CVar}
use Rattle.c_syntax.specs.declared.program.CCell.TheVariants as cell
use Rattle.c_syntax.specs.declared.token.CWord.TheVariants as w
use Rattle.c_syntax.specs.declared.token.CSign.TheVariants as s
use Rattle.c_syntax.specs.C as c
use Rattle.c_syntax.specs.C.{Expr, Call, Stmt, Stmts}
use Rattle.c_syntax.specs.Tokens as t
use Rattle.c_syntax.specs.Tokens.{Token}
use Rattle.c_syntax.specs.Grammar.{IsWritten, AreWritten, expr_depth, deepest_in, deepest}
use Rattle.c_syntax.specs.Spelling.{expr_then, call_then, stmt_then, stmts_then}
use Rattle.c_syntax.specs.Canonical.{begins_else}
use Rattle.c_reader_laws.proofs.OfSyntaxLaws.Exprs.{Part, bind, begins_arrow, read_cell, read_expr, expr_read, read_call, call_read, max_left, max_right}

-- how much fuel reading takes
abbrev mutual
  pub size_in : Stmt → ℕ
  size_in (c.when e xs) = size xs
  size_in (c.choose e xs ys) = size xs + size ys
  size_in (c.loop xs) = size xs
  size_in _ = 0

  pub size : Stmts → ℕ
  size c.done = 1
  size (c.next x xs) = suc (size_in x + size xs)

abbrev pub close : Token
close = t.sign s.CloseBrace

abbrev begins_close : List Token → Bool
begins_close (t.sign s.CloseBrace ∷ ts) = true
begins_close _ = false

abbrev pub begins_semicolon : List Token → Bool
begins_semicolon (t.sign s.Semicolon ∷ ts) = true
begins_semicolon _ = false

abbrev begins_call : List Token → Bool
begins_call (t.name f ∷ ts) = true
begins_call (t.primitive f ∷ ts) = true
begins_call _ = false

abbrev pub begins_type : List Token → Bool
begins_type (t.word w.Ref ∷ ts) = true
begins_type (t.word w.Long ∷ ts) = true
begins_type _ = false

-- expressions of at most this depth
module _ (m : ℕ) where
  -- what is set, after `=`
  abbrev read_set : CVar → List Token → Part Stmt
  read_set v ts =
      if begins_call ts then bind (read_call ts) (λ p. Some (c.set_call v p.0, drop 1 p.1))
      else bind (read_expr m ts) (λ p. Some (c.set v p.0, drop 1 p.1))

  abbrev read_after : CVar → List Token → Part Stmt
  read_after v ts =
      if begins_arrow ts then bind (read_cell v ts) (λ p. bind (read_expr m (drop 1 p.1)) (λ q. Some (c.put p.0 q.0, drop 1 q.1)))
      else read_set v (drop 1 ts)

  abbrev read_return : List Token → Part Stmt
  read_return ts =
      if begins_semicolon ts then Some (c.return None, drop 1 ts) else bind (read_expr m ts) (λ p. Some (c.return (Some p.0), drop 1 p.1))

  abbrev read_else : (List Token → Part Stmts) → Expr → Stmts → List Token → Part Stmt
  read_else read e xs ts =
      if begins_else ts then bind (read (drop 2 ts)) (λ p. Some (c.choose e xs p.0, drop 1 p.1)) else Some (c.when e xs, ts)

  abbrev read_if : (List Token → Part Stmts) → List Token → Part Stmt
  read_if read ts = bind (read_expr m ts) (λ p. bind (read (drop 2 p.1)) (λ q. read_else read p.0 q.0 (drop 1 q.1)))

  abbrev read_stmt : (List Token → Part Stmts) → List Token → Part Stmt
  read_stmt read (t.variable v ∷ ts) = read_after v ts
  read_stmt read (t.name f ∷ ts) = bind (read_call (t.name f ∷ ts)) (λ p. Some (c.call p.0, drop 1 p.1))
  read_stmt read (t.primitive f ∷ ts) = bind (read_call (t.primitive f ∷ ts)) (λ p. Some (c.call p.0, drop 1 p.1))
  read_stmt read (t.word w.If ∷ _ ∷ ts) = read_if read ts
  read_stmt read (t.word w.While ∷ _ ∷ _ ∷ _ ∷ _ ∷ ts) = bind (read ts) (λ p. Some (c.loop p.0, drop 1 p.1))
  read_stmt read (t.word w.Break ∷ _ ∷ ts) = Some (c.break, ts)
  read_stmt read (t.word w.Continue ∷ _ ∷ ts) = Some (c.continue, ts)
  read_stmt read (t.word w.Return ∷ ts) = read_return ts
  read_stmt read _ = None

  abbrev pub read_stmts : ℕ → List Token → Part Stmts
  read_stmts zero ts = None
  read_stmts (suc n) ts =
      if begins_close ts then Some (c.done, ts)
      else bind (read_stmt (read_stmts n) ts) (λ p. bind (read_stmts n p.1) (λ q. Some (c.next p.0 q.0, q.1)))

  -- ---- what parts begin with

  no_call : (e : Expr) (ts : List Token) → begins_call (expr_then e ts) ≡ false
  no_call (c.number z) ts = refl
  no_call (c.variable v) ts = refl
  no_call (c.cell (cell.Number p k)) ts = refl
  no_call (c.cell (cell.Reference p k)) ts = refl
  no_call c.null ts = refl
  no_call (c.unary o e) ts = refl
  no_call (c.binary o a b) ts = refl

  no_semicolon : (e : Expr) (ts : List Token) → begins_semicolon (expr_then e ts) ≡ false
  no_semicolon (c.number z) ts = refl
  no_semicolon (c.variable v) ts = refl
  no_semicolon (c.cell (cell.Number p k)) ts = refl
  no_semicolon (c.cell (cell.Reference p k)) ts = refl
  no_semicolon c.null ts = refl
  no_semicolon (c.unary o e) ts = refl
  no_semicolon (c.binary o a b) ts = refl

  some_call : (f : Call) (ts : List Token) → begins_call (call_then f ts) ≡ true
  some_call (c.function f xs) ts = refl
  some_call (c.primitive f xs) ts = refl

  -- no statement begins so
  record BeginsStmt (ts : List Token) : Type 0 where
    no_close : begins_close ts ≡ false
    no_else : begins_else ts ≡ false
    no_type : begins_type ts ≡ false

  begins_stmt : (x : Stmt) (ts : List Token) → BeginsStmt (stmt_then x ts)
  begins_stmt (c.set v e) ts = record { no_close = refl; no_else = refl; no_type = refl }
  begins_stmt (c.set_call v f) ts = record { no_close = refl; no_else = refl; no_type = refl }
  begins_stmt (c.call (c.function f xs)) ts = record { no_close = refl; no_else = refl; no_type = refl }
  begins_stmt (c.call (c.primitive f xs)) ts = record { no_close = refl; no_else = refl; no_type = refl }
  begins_stmt (c.put (cell.Number p k) e) ts = record { no_close = refl; no_else = refl; no_type = refl }
  begins_stmt (c.put (cell.Reference p k) e) ts = record { no_close = refl; no_else = refl; no_type = refl }
  begins_stmt (c.when e xs) ts = record { no_close = refl; no_else = refl; no_type = refl }
  begins_stmt (c.choose e xs ys) ts = record { no_close = refl; no_else = refl; no_type = refl }
  begins_stmt (c.loop xs) ts = record { no_close = refl; no_else = refl; no_type = refl }
  begins_stmt c.break ts = record { no_close = refl; no_else = refl; no_type = refl }
  begins_stmt c.continue ts = record { no_close = refl; no_else = refl; no_type = refl }
  begins_stmt (c.return None) ts = record { no_close = refl; no_else = refl; no_type = refl }
  begins_stmt (c.return (Some e)) ts = record { no_close = refl; no_else = refl; no_type = refl }

  others_no_else : (xs : Stmts) (ts : List Token) → begins_else (stmts_then xs (close ∷ ts)) ≡ false
  others_no_else c.done ts = refl
  others_no_else (c.next x xs) ts = (begins_stmt x (stmts_then xs (close ∷ ts))).no_else

  pub others_no_type : (xs : Stmts) (ts : List Token) → begins_type (stmts_then xs (close ∷ ts)) ≡ false
  others_no_type c.done ts = refl
  others_no_type (c.next x xs) ts = (begins_stmt x (stmts_then xs (close ∷ ts))).no_type

  -- ---- reading

  Reads : ℕ → Type 0
  Reads n = (xs : Stmts) (ts : List Token) → size xs ≤ n → deepest xs ≤ m → AreWritten xs → read_stmts n (stmts_then xs (close ∷ ts)) ≡ Some (xs, close ∷ ts)

  stmt_read : (n : ℕ) → Reads n → (x : Stmt) (ts : List Token) → size_in x ≤ n → deepest_in x ≤ m → IsWritten x → begins_else ts ≡ false
      → read_stmt (read_stmts n) (stmt_then x ts) ≡ Some (x, ts)
  unfolding Reads
  stmt_read n reads (c.set v e) ts small deep is after =
      let value : List Token = expr_then e (t.sign s.Semicolon ∷ ts) in
      ap (λ b. if b then bind (read_call value) (λ p. Some (c.set_call v p.0, drop 1 p.1)) else bind (read_expr m value) (λ p. Some (c.set v p.0, drop 1 p.1))) (no_call e (t.sign s.Semicolon ∷ ts))
      ∙ ap (λ o. bind o (λ p. Some (c.set v p.0, drop 1 p.1))) (expr_read m e (t.sign s.Semicolon ∷ ts) deep is refl)
  stmt_read n reads (c.set_call v f) ts small deep is after =
      let value : List Token = call_then f (t.sign s.Semicolon ∷ ts) in
      ap (λ b. if b then bind (read_call value) (λ p. Some (c.set_call v p.0, drop 1 p.1)) else bind (read_expr m value) (λ p. Some (c.set v p.0, drop 1 p.1))) (some_call f (t.sign s.Semicolon ∷ ts))
      ∙ ap (λ o. bind o (λ p. Some (c.set_call v p.0, drop 1 p.1))) (call_read f (t.sign s.Semicolon ∷ ts))
  stmt_read n reads (c.call (c.function f xs)) ts small deep is after =
      ap (λ o. bind o (λ p. Some (c.call p.0, drop 1 p.1))) (call_read (c.function f xs) (t.sign s.Semicolon ∷ ts))
  stmt_read n reads (c.call (c.primitive f xs)) ts small deep is after =
      ap (λ o. bind o (λ p. Some (c.call p.0, drop 1 p.1))) (call_read (c.primitive f xs) (t.sign s.Semicolon ∷ ts))
  stmt_read n reads (c.put (cell.Number b k) e) ts small deep is after =
      ap (λ o. bind o (λ q. Some (c.put (cell.Number b k) q.0, drop 1 q.1))) (expr_read m e (t.sign s.Semicolon ∷ ts) deep is refl)
  stmt_read n reads (c.put (cell.Reference b k) e) ts small deep is after =
      ap (λ o. bind o (λ q. Some (c.put (cell.Reference b k) q.0, drop 1 q.1))) (expr_read m e (t.sign s.Semicolon ∷ ts) deep is refl)
  stmt_read n reads (c.when e xs) ts small deep is after =
      ap (λ o. bind o (λ p. bind (read_stmts n (drop 2 p.1)) (λ q. read_else (read_stmts n) p.0 q.0 (drop 1 q.1))))
      (expr_read m e (t.sign s.CloseParen ∷ t.sign s.OpenBrace ∷ stmts_then xs (close ∷ ts)) (max_left (expr_depth e) (deepest xs) m deep) is.0 refl)
      ∙ ap (λ o. bind o (λ q. read_else (read_stmts n) e q.0 (drop 1 q.1))) (reads xs ts small (max_right (expr_depth e) (deepest xs) m deep) is.1)
      ∙ ap (λ b. if b then bind (read_stmts n (drop 2 ts)) (λ p. Some (c.choose e xs p.0, drop 1 p.1)) else Some (c.when e xs, ts)) after
  stmt_read n reads (c.choose e xs ys) ts small deep is after =
      let other : List Token = t.word w.Else ∷ t.sign s.OpenBrace ∷ stmts_then ys (close ∷ ts) in
      let inner : max (deepest xs) (deepest ys) ≤ m = max_right (expr_depth e) (max (deepest xs) (deepest ys)) m deep in
      ap (λ o. bind o (λ p. bind (read_stmts n (drop 2 p.1)) (λ q. read_else (read_stmts n) p.0 q.0 (drop 1 q.1))))
      (expr_read m e (t.sign s.CloseParen ∷ t.sign s.OpenBrace ∷ stmts_then xs (close ∷ other)) (max_left (expr_depth e) (max (deepest xs) (deepest ys)) m deep) is.0 refl)
      ∙ ap (λ o. bind o (λ q. read_else (read_stmts n) e q.0 (drop 1 q.1))) (reads xs other (omega (arith, small)) (max_left (deepest xs) (deepest ys) m inner) is.1)
      ∙ ap (λ o. bind o (λ p. Some (c.choose e xs p.0, drop 1 p.1))) (reads ys ts (omega (arith, small)) (max_right (deepest xs) (deepest ys) m inner) is.2)
  stmt_read n reads (c.loop xs) ts small deep is after = ap (λ o. bind o (λ p. Some (c.loop p.0, drop 1 p.1))) (reads xs ts small deep is)
  stmt_read n reads c.break ts small deep is after = refl
  stmt_read n reads c.continue ts small deep is after = refl
  stmt_read n reads (c.return None) ts small deep is after = refl
  stmt_read n reads (c.return (Some e)) ts small deep is after =
      let value : List Token = expr_then e (t.sign s.Semicolon ∷ ts) in
      ap (λ b. if b then Some (c.return None, drop 1 value) else bind (read_expr m value) (λ p. Some (c.return (Some p.0), drop 1 p.1))) (no_semicolon e (t.sign s.Semicolon ∷ ts))
      ∙ ap (λ o. bind o (λ p. Some (c.return (Some p.0), drop 1 p.1))) (expr_read m e (t.sign s.Semicolon ∷ ts) deep is refl)

  some_size : (xs : Stmts) → 1 ≤ size xs
  some_size c.done = omega arith
  some_size (c.next x xs) = omega arith

  pub stmts_read : (n : ℕ) (xs : Stmts) (ts : List Token) → size xs ≤ n → deepest xs ≤ m → AreWritten xs → read_stmts n (stmts_then xs (close ∷ ts)) ≡ Some (xs, close ∷ ts)
  unfolding Reads
  stmts_read zero xs ts small deep is = let k = some_size xs in absurd (omega (arith, small, k))
  stmts_read (suc n) c.done ts small deep is = refl
  stmts_read (suc n) (c.next x xs) ts small deep is =
      let rest : List Token = stmts_then xs (close ∷ ts) in
      let all : List Token = stmt_then x rest in
      ap (λ b. if b then Some (c.done, all) else bind (read_stmt (read_stmts n) all) (λ p. bind (read_stmts n p.1) (λ q. Some (c.next p.0 q.0, q.1)))) (begins_stmt x rest).no_close
      ∙ ap (λ o. bind o (λ p. bind (read_stmts n p.1) (λ q. Some (c.next p.0 q.0, q.1))))
      (stmt_read n (stmts_read n) x rest (omega (arith, small)) (max_left (deepest_in x) (deepest xs) m deep) is.0 (others_no_else xs ts))
      ∙ ap (λ o. bind o (λ q. Some (c.next x q.0, q.1))) (stmts_read n xs ts (omega (arith, small)) (max_right (deepest_in x) (deepest xs) m deep) is.1)
