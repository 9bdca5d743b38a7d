-- What the rules on keys see of a body: the rows of each statement, and how statements follow one another.
use Rattle.std.specs.Prelude.{ℕ, ◌+◌, Bool, true, false, ◌&&◌, ◌||◌, List}
use Rattle.vlt_core.specs.Core.{Tok}
use Rattle.vlt_core.specs.Maps.{Row}

mutual
  pub data Flow : Type 0 where
    -- a statement without blocks that goes on to the next one
    step : List Row → Flow
    -- two arms after the rows of a condition, and a body that is come to again
    choose : List Row → Block → Block → Flow
    loop : List Row → Block → Flow
    -- arms, with the place of the closing brace
    switch : List Row → Arms → (end : ℕ) → Flow
    scope : Block → Flow
    -- rows before the body and after it
    focus : List Row → Block → List Row → Flow
    return : List Row → Flow
    -- to the head of the loop around, or after it; with the tokens of the scopes that are left
    jump : (continues : Bool) → (left : List Tok) → Flow

  -- statements, the tokens that they bind, and the place of the closing brace
  pub data Block : Type 0 where
    block : Stmts → (bound : List Tok) → (end : ℕ) → Block

  pub data Stmts : Type 0 where
    done : Stmts
    next : (at : ℕ) → Flow → Stmts → Stmts

  pub data Arms : Type 0 where
    no_arms : Arms
    arm : List Row → Block → Arms → Arms

-- How many statements there are. A statement's number is how many begin before it in its function.
abbrev mutual
  pub size : Flow → ℕ
  size (choose rs a b) = 1 + (size_block a + size_block b)
  size (loop rs b) = 1 + size_block b
  size (switch rs arms end) = 1 + size_arms arms
  size (scope b) = 1 + size_block b
  size (focus rs b es) = 1 + size_block b
  size _ = 1

  pub size_block : Block → ℕ
  size_block (block ss bound end) = size_stmts ss

  pub size_stmts : Stmts → ℕ
  size_stmts done = 0
  size_stmts (next at s rest) = size s + size_stmts rest

  pub size_arms : Arms → ℕ
  size_arms no_arms = 0
  size_arms (arm rs b rest) = size_block b + size_arms rest

-- whether something can come after a statement
abbrev mutual
  pub passes : Flow → Bool
  passes (step rs) = true
  passes (choose rs a b) = passes_block a || passes_block b
  passes (loop rs b) = true
  passes (switch rs arms end) = passes_arms arms
  passes (scope b) = passes_block b
  passes (focus rs b es) = passes_block b
  passes (return rs) = false
  passes (jump continues left) = false

  pub passes_block : Block → Bool
  passes_block (block ss bound end) = passes_stmts ss

  pub passes_stmts : Stmts → Bool
  passes_stmts done = true
  passes_stmts (next at s rest) = passes s && passes_stmts rest

  pub passes_arms : Arms → Bool
  passes_arms no_arms = false
  passes_arms (arm rs b rest) = passes_block b || passes_arms rest

-- the place of a block's closing brace
abbrev pub end_of : Block → ℕ
end_of (block ss bound end) = end
