-- The weight of a statement is 1, with one for each read of a field, each owner and each object that it hands
-- over, and each variable that it binds beside others; and with the statements inside.
use Rattle.std.specs.Prelude.{ℕ, ◌+◌, List, [], ◌∷◌, length, Option, Some, None}
use Rattle.vlt_core.specs.Core as core
use Rattle.vlt_core.specs.Core.{Expr, Operand, pure, Simple, Form, Block, Stmts, Arms}

abbrev pub reads : Expr → ℕ
reads (core.field x i) = 1
reads (core.unary o a) = reads a
reads (core.binary o a b) = reads a + reads b
reads _ = 0

abbrev pub in_operand : Operand → ℕ
in_operand (pure e) = reads e
in_operand (core.move v) = 1
in_operand (core.pack x s) = 1

abbrev pub in_operands : List Operand → ℕ
in_operands [] = 0
in_operands (o ∷ os) = in_operand o + in_operands os

abbrev pub in_simple : Simple → ℕ
in_simple (core.set v e) = reads e
in_simple (core.print e) = reads e
in_simple (core.put x i e) = reads e
in_simple (core.make x os) = in_operands os
in_simple (core.own v o) = in_operand o
in_simple (core.build v c os) = in_operands os
in_simple (core.open_into x vs) = length vs
in_simple s = 0

abbrev pub in_return : Option Operand → ℕ
in_return None = 0
in_return (Some o) = in_operand o

abbrev mutual
  pub weight : Form → ℕ
  weight (core.simple s) = 1 + in_simple s
  weight (core.call g target keys os) = 1 + in_operands os
  weight (core.choose e a b) = 1 + (reads e + (weight_block a + weight_block b))
  weight (core.loop e b) = 1 + (reads e + weight_block b)
  weight (core.switch v arms end) = 1 + weight_arms arms
  weight (core.focus y z b) = 1 + weight_block b
  weight (core.scope b) = 1 + weight_block b
  weight (core.return o) = 1 + in_return o
  weight (core.jump c) = 1

  pub weight_block : Block → ℕ
  weight_block (core.block ss bound end) = weight_list ss

  pub weight_list : Stmts → ℕ
  weight_list core.done = 0
  weight_list (core.next at s rest) = weight s + weight_list rest

  pub weight_arms : Arms → ℕ
  weight_arms core.no_arms = 0
  weight_arms (core.arm c vs b rest) = 1 + (length vs + (weight_block b + weight_arms rest))
