-- How many slots the values and the blocks of a run can need.
use Rattle.std.specs.Prelude.{ℕ, ◌+◌, ◌*◌, max, List, [], ◌∷◌, ◌++◌, length, Option, Some, None}
use Rattle.c_syntax.specs.declared.program.CPrim.TheVariants as prim
use Rattle.c_syntax.specs.declared.program.CVar.{CVar}
use Rattle.c_syntax.specs.C as c
use Rattle.c_syntax.specs.C.{Call, Stmt, Stmts, Func, Program}
use Rattle.c_meaning.specs.Primitives.{asked_cells}

-- ---- the cells that a block may be asked to have

abbrev pub sum_asked : Option (ℕ × ℕ) → ℕ
sum_asked None = 0
sum_asked (Some q) = q.0 + q.1

abbrev pub cells_in_call : Call → ℕ
cells_in_call (c.primitive prim.New xs) = sum_asked (asked_cells xs)
cells_in_call _ = 0

abbrev mutual
  pub cells_in_stmt : Stmt → ℕ
  cells_in_stmt (c.set_call v f) = cells_in_call f
  cells_in_stmt (c.call f) = cells_in_call f
  cells_in_stmt (c.when e xs) = cells_in xs
  cells_in_stmt (c.choose e xs ys) = max (cells_in xs) (cells_in ys)
  cells_in_stmt (c.loop xs) = cells_in xs
  cells_in_stmt _ = 0

  pub cells_in : Stmts → ℕ
  cells_in c.done = 0
  cells_in (c.next x xs) = max (cells_in_stmt x) (cells_in xs)

-- ---- the most of all functions

abbrev pub most : (Func → ℕ) → List Func → ℕ
most f [] = 0
most f (x ∷ xs) = max (f x) (most f xs)

-- parameters and variables
abbrev pub names_of : Func → List CVar
names_of f = f.params ++ f.vars

abbrev pub width_of : Func → ℕ
width_of f = length (names_of f)

abbrev pub cells_of : Func → ℕ
cells_of f = cells_in f.body

-- the names of the widest function and of the widest glue
abbrev pub value_slots : Program → ℕ
value_slots p = most width_of p.fns + most width_of p.glue

-- the most cells that one block is asked to have
abbrev pub block_cells : Program → ℕ
block_cells p = max (most cells_of p.glue) (most cells_of p.fns)

-- the slots of so many frames and blocks
abbrev pub slots_needed : Program → (depth heap : ℕ) → ℕ
slots_needed p depth heap = depth * value_slots p + heap * block_cells p
