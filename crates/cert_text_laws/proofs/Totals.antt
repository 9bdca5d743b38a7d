-- All statements of a tree, with those inside others: there are no more than two for each token that spells them.
use Rattle.std.proofs.Common.{◌≤◌, ◌+◌, ◌*◌, ℕ, suc, List, length, arith}
use Rattle.vlt_syntax.specs.Tokens.{Token}
use Rattle.vlt_syntax.specs.Tree as s
use Rattle.vlt_syntax.specs.Tree.{Stmt, Block, If, Else, Stmts, Arms}
use Rattle.vlt_syntax.specs.Spelling.{name_then, stmt_then, block_then, if_then, else_then, stmts_then, arms_then}
use Rattle.cert_text_laws.proofs.Shorter.{over, more, same, after_enclosed, after_name, after_condition, past_stmt}

-- so many statements they become in all: one without blocks becomes two at most
abbrev mutual
  pub total_stmt : Stmt → ℕ
  total_stmt (s.block b) = suc (total_block b)
  total_stmt (s.choose i) = total_if i
  total_stmt (s.loop e b at) = suc (total_block b)
  total_stmt (s.switch x arms at) = suc (total_arms arms)
  total_stmt (s.focus x k z b at) = suc (total_block b)
  total_stmt x = 2

  pub total_block : Block → ℕ
  total_block (s.braced ss at) = total_stmts ss

  pub total_if : If → ℕ
  total_if (s.choice e b other at) = suc (total_block b + total_else other)

  pub total_else : Else → ℕ
  total_else s.nothing = 0
  total_else (s.last b) = total_block b
  total_else (s.chained i) = total_if i

  pub total_stmts : Stmts → ℕ
  total_stmts s.done = 0
  total_stmts (s.next x xs) = total_stmt x + total_stmts xs

  pub total_arms : Arms → ℕ
  total_arms s.no_arms = 0
  total_arms (s.arm c vs b at others) = total_block b + total_arms others

-- ---- so many statements, before so many tokens, are spelled by so many of all

record Bounds (total following all : ℕ) : Type 0 where
  enough : total + 2 * following ≤ 2 * all

none : (a : ℕ) → Bounds 0 a a
none a = record { enough = omega arith }

two : {a b : ℕ} → suc a ≤ b → Bounds 2 a b
two x = record { enough = omega (arith, x) }

longer : {n a b c : ℕ} → Bounds n a b → b ≤ c → Bounds n a c
longer x y = let h = x.enough in record { enough = omega (arith, h, y) }

fewer : {n a b : ℕ} → Bounds (suc n) a b → Bounds n a b
fewer x = let h = x.enough in record { enough = omega (arith, h) }

-- a brace on both sides
enclosed : {n a b : ℕ} → Bounds n (suc a) b → Bounds (suc n) a (suc b)
enclosed x = let h = x.enough in record { enough = omega (arith, h) }

both : {m n a b c : ℕ} → Bounds m b c → Bounds n a b → Bounds (m + n) a c
both x y = let h = x.enough in let k = y.enough in record { enough = omega (arith, h, k) }

chosen : {m n a b c : ℕ} → Bounds (suc m) b c → Bounds n a b → Bounds (suc (m + n)) a c
chosen x y = let h = x.enough in let k = y.enough in record { enough = omega (arith, h, k) }

abbrev Bound : {X : Type 0} → (X → ℕ) → (X → List Token → List Token) → Type 0
Bound {X} total spell = (x : X) (rest : List Token) → Bounds (total x) (length rest) (length (spell x rest))

mutual
  bound_stmt : Bound total_stmt stmt_then
  bound_stmt (s.block b) rest = bound_block b rest
  bound_stmt (s.choose i) rest = bound_if i rest
  bound_stmt (s.loop e b at) rest = longer (bound_block b rest) (more (after_condition e _))
  bound_stmt (s.switch x arms at) rest = longer (enclosed (bound_arms arms _)) (more (more (more (more (same _)))))
  bound_stmt (s.focus x k z b at) rest = longer (bound_block b rest) (more (more (more (more (more (more (more (more (same _)))))))))
  bound_stmt (s.declare t x v at) rest = two (past_stmt (s.declare t x v at) rest)
  bound_stmt (s.assign x v at) rest = two (past_stmt (s.assign x v at) rest)
  bound_stmt (s.put x f e at) rest = two (past_stmt (s.put x f e at) rest)
  bound_stmt (s.call c at) rest = two (past_stmt (s.call c at) rest)
  bound_stmt (s.print e at) rest = two (past_stmt (s.print e at) rest)
  bound_stmt (s.break at) rest = two (past_stmt (s.break at) rest)
  bound_stmt (s.continue at) rest = two (past_stmt (s.continue at) rest)
  bound_stmt (s.return v at) rest = two (past_stmt (s.return v at) rest)
  bound_stmt (s.release x at) rest = two (past_stmt (s.release x at) rest)
  bound_stmt (s.become x t at) rest = two (past_stmt (s.become x t at) rest)
  bound_stmt (s.swap x f v at) rest = two (past_stmt (s.swap x f v at) rest)
  bound_stmt (s.open_into x vs at) rest = two (past_stmt (s.open_into x vs at) rest)

  bound_block : (b : Block) (rest : List Token) → Bounds (suc (total_block b)) (length rest) (length (block_then b rest))
  bound_block (s.braced ss at) rest = enclosed (bound_stmts ss _)

  bound_if : Bound total_if if_then
  bound_if (s.choice e b other at) rest = longer (chosen (bound_block b _) (bound_else other rest)) (more (after_condition e _))

  bound_else : Bound total_else else_then
  bound_else s.nothing rest = none _
  bound_else (s.last b) rest = longer (fewer (bound_block b rest)) (more (same _))
  bound_else (s.chained i) rest = longer (bound_if i rest) (more (same _))

  bound_stmts : Bound total_stmts stmts_then
  bound_stmts s.done rest = none _
  bound_stmts (s.next x xs) rest = both (bound_stmt x _) (bound_stmts xs rest)

  bound_arms : Bound total_arms arms_then
  bound_arms s.no_arms rest = none _
  bound_arms (s.arm c vs b at others) rest =
      longer (both (fewer (bound_block b _)) (bound_arms others rest))
      (more (more (over (more (same _)) (after_enclosed name_then after_name _ _ vs _))))

-- a block that is spelled by so many tokens, with others after them, has twice as many statements at most
pub few_in_all : (b : Block) (rest : List Token) (most : ℕ) → length (block_then b rest) ≤ most → total_block b ≤ 2 * most
few_in_all b rest most h = last (total_block b) (length rest) (length (block_then b rest)) (bound_block b rest).enough h
  where
    last : (n a c : ℕ) → suc n + 2 * a ≤ 2 * c → c ≤ most → n ≤ 2 * most
    last n a c x y = omega (arith, x, y)
