-- Places of statements, whether they end, and where blocks close.
use Rattle.std.specs.Prelude.{ℕ, Bool, true, false, ◌&&◌, ◌-◌}
use Rattle.vlt_syntax.specs.Tree as s
use Rattle.vlt_syntax.specs.Tree.{Stmt, Block, If, Else, Stmts, Arms}

abbrev pub stmt_place : Stmt → ℕ
stmt_place (s.declare t x v at) = at.from
stmt_place (s.assign x v at) = at.from
stmt_place (s.put x f e at) = at.from
stmt_place (s.call c at) = at.from
stmt_place (s.print e at) = at.from
stmt_place (s.block (s.braced ss at)) = at.from
stmt_place (s.choose (s.choice e b other at)) = at.from
stmt_place (s.loop e b at) = at.from
stmt_place (s.break at) = at.from
stmt_place (s.continue at) = at.from
stmt_place (s.return v at) = at.from
stmt_place (s.switch x arms at) = at.from
stmt_place (s.release x at) = at.from
stmt_place (s.become x t at) = at.from
stmt_place (s.swap x f v at) = at.from
stmt_place (s.open_into x vs at) = at.from
stmt_place (s.focus x k z b at) = at.from

-- ---- whether a statement ends

abbrev mutual
  pub ends : Stmt → Bool
  ends (s.break at) = true
  ends (s.continue at) = true
  ends (s.return v at) = true
  ends (s.block b) = block_ends b
  ends (s.choose i) = if_ends i
  ends (s.switch x arms at) = arms_end arms
  ends _ = false

  pub block_ends : Block → Bool
  block_ends (s.braced ss at) = end_with false ss

  pub if_ends : If → Bool
  if_ends (s.choice e b other at) = block_ends b && else_ends other

  pub else_ends : Else → Bool
  else_ends s.nothing = false
  else_ends (s.last b) = block_ends b
  else_ends (s.chained i) = if_ends i

  -- all of them
  pub arms_end : Arms → Bool
  arms_end s.no_arms = true
  arms_end (s.arm tick vs b at rest) = block_ends b && arms_end rest

  -- whether the last one ends, or what stood before if there is none
  pub end_with : Bool → Stmts → Bool
  end_with before s.done = before
  end_with before (s.next x xs) = end_with (ends x) xs

-- ---- closing braces

abbrev pub closing : Block → ℕ
closing (s.braced ss at) = at.to - 1

-- the last closing brace of an `if`
abbrev mutual
  pub if_closing : If → ℕ
  if_closing (s.choice e b other at) = else_closing (closing b) other

  pub else_closing : ℕ → Else → ℕ
  else_closing before s.nothing = before
  else_closing before (s.last b) = closing b
  else_closing before (s.chained i) = if_closing i
