-- Programs whose operators have as many operands as they want, and whose numbers are those that a text can write. It is a
-- condition on each program; the rules on names and types ask neither.
use Rattle.std.specs.Prelude.{◌≡◌, ℕ, ℤ, pos, int_le, Bool, true, false, ◌&&◌, List, [], ◌∷◌, Option, Some, None, slice_get}
use Rattle.vlt_ops.specs.declared.Op.{Op}
use Rattle.vlt_ops.specs.declared.Op.TheVariants as op
use Rattle.vlt_ops.specs.Operator.{is_in_range}
use Rattle.vlt_core.specs.Core as core
use Rattle.vlt_core.specs.Core.{Expr, Operand, pure, move, pack, Simple, Form, Block, block, Stmts, done, next, Arms, no_arms, arm, Func, Program}

-- ---- expressions

abbrev pub is_prefix : Op → Bool
is_prefix op.Negate = true
is_prefix op.Not = true
is_prefix _ = false

abbrev pub is_binary : Op → Bool
is_binary op.Negate = false
is_binary op.Not = false
is_binary _ = true

-- each operator of the expression has as many operands as it wants
abbrev pub has_arities : Expr → Bool
has_arities (core.unary o a) = is_prefix o && has_arities a
has_arities (core.binary o a b) = is_binary o && (has_arities a && has_arities b)
has_arities _ = true

-- from 0 to the greatest number of 64 bits
abbrev pub is_literal : ℤ → Bool
is_literal z = int_le (pos 0) z && is_in_range z

abbrev pub has_literals : Expr → Bool
has_literals (core.number z) = is_literal z
has_literals (core.unary o a) = has_literals a
has_literals (core.binary o a b) = has_literals a && has_literals b
has_literals e = true

abbrev pub is_proper : Expr → Bool
is_proper e = has_arities e && has_literals e

-- ---- statements

-- each expression of a part passes the test
module _ (test : Expr → Bool) where
  abbrev pub all_in_operand : Operand → Bool
  all_in_operand (pure e) = test e
  all_in_operand o = true

  abbrev pub all_in_operands : List Operand → Bool
  all_in_operands [] = true
  all_in_operands (o ∷ os) = all_in_operand o && all_in_operands os

  abbrev pub all_in_simple : Simple → Bool
  all_in_simple (core.set v e) = test e
  all_in_simple (core.print e) = test e
  all_in_simple (core.put x i e) = test e
  all_in_simple (core.make x os) = all_in_operands os
  all_in_simple (core.own v o) = all_in_operand o
  all_in_simple (core.build v k os) = all_in_operands os
  all_in_simple s = true

  abbrev pub all_in_return : Option Operand → Bool
  all_in_return None = true
  all_in_return (Some o) = all_in_operand o

  abbrev mutual
    pub all_in_form : Form → Bool
    all_in_form (core.simple s) = all_in_simple s
    all_in_form (core.call g target keys os) = all_in_operands os
    all_in_form (core.choose e a b) = test e && (all_in_block a && all_in_block b)
    all_in_form (core.loop e b) = test e && all_in_block b
    all_in_form (core.switch v arms end) = all_in_arms arms
    all_in_form (core.focus y z b) = all_in_block b
    all_in_form (core.scope b) = all_in_block b
    all_in_form (core.return o) = all_in_return o
    all_in_form (core.jump c) = true

    pub all_in_block : Block → Bool
    all_in_block (block ss bound end) = all_in ss

    pub all_in : Stmts → Bool
    all_in done = true
    all_in (next at form rest) = all_in_form form && all_in rest

    pub all_in_arms : Arms → Bool
    all_in_arms no_arms = true
    all_in_arms (arm k vs b rest) = all_in_block b && all_in_arms rest

-- ---- programs

abbrev pub AllPass : (Expr → Bool) → Program → Type 0
AllPass test p = (g : ℕ) (f : Func) → slice_get p.fns g ≡ Some f → all_in test f.body ≡ true

abbrev pub HasArities : Program → Type 0
HasArities = AllPass has_arities

abbrev pub HasProperBodies : Program → Type 0
HasProperBodies = AllPass is_proper
