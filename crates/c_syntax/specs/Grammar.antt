-- Which C texts are of the grammar: what their spelling leaves open, within bounds.
use Rattle.std.specs.Prelude.{◌≡◌, ◌≤◌, ℕ, suc, ◌-◌, max, List, [], ◌∷◌, Some}
use Rattle.vlt_base.specs.Limits.{limit_of}
use Rattle.vlt_base.specs.declared.limits.TheConstants.{C_BLOCK_DEPTH, C_EXPRESSION_DEPTH}
use Rattle.vlt_ops.specs.Operator.{row_of}
use Rattle.c_syntax.specs.declared.program.CPrim.TheVariants as prim
use Rattle.c_syntax.specs.C as c
use Rattle.c_syntax.specs.C.{Expr, Arg, Call, Stmt, Stmts}
use Rattle.c_syntax.specs.Unit.{Body, TranslationUnit}

-- how deep blocks and expressions may be
pub record Bounds : Type 0 where
  pub blocks : ℕ
  pub expressions : ℕ

abbrev pub language : Bounds
language = record { blocks = limit_of C_BLOCK_DEPTH; expressions = limit_of C_EXPRESSION_DEPTH }

-- One operand have `-` and `!`, and two the operators of the table with two.
abbrev pub HasArities : Expr → Type 0
HasArities (c.unary o e) = ((row_of o).arity ≡ 1) × HasArities e
HasArities (c.binary o a b) = ((row_of o).arity ≡ 2) × HasArities a × HasArities b
HasArities _ = Unit {0}

-- An expression without operators has depth 1, and an operator with its parentheses one more than its deepest operand.
abbrev pub expr_depth : Expr → ℕ
expr_depth (c.unary o e) = suc (expr_depth e)
expr_depth (c.binary o a b) = suc (max (expr_depth a) (expr_depth b))
expr_depth _ = 1

pub record IsExpr (depth : ℕ) (e : Expr) : Type 0 where
  pub arities : HasArities e
  pub depth_fits : expr_depth e ≤ depth

-- a string stands in `vr_call` alone
abbrev pub HasNoText : List Arg → Type 0
HasNoText [] = Unit {0}
HasNoText (c.text cs ∷ xs) = ⊥
HasNoText (_ ∷ xs) = HasNoText xs

abbrev pub IsCall : Call → Type 0
IsCall (c.function f xs) = HasNoText xs
IsCall (c.primitive prim.Call xs) = Unit {0}
IsCall (c.primitive p xs) = HasNoText xs

-- what a statement is made of is of the grammar
abbrev mutual
  pub IsWritten : Stmt → Type 0
  IsWritten (c.set v e) = HasArities e
  IsWritten (c.set_call v f) = IsCall f
  IsWritten (c.call f) = IsCall f
  IsWritten (c.put x e) = HasArities e
  IsWritten (c.when e xs) = HasArities e × AreWritten xs
  IsWritten (c.choose e xs ys) = HasArities e × AreWritten xs × AreWritten ys
  IsWritten (c.loop xs) = AreWritten xs
  IsWritten (c.return (Some e)) = HasArities e
  IsWritten _ = Unit {0}

  pub AreWritten : Stmts → Type 0
  AreWritten c.done = Unit {0}
  AreWritten (c.next x xs) = IsWritten x × AreWritten xs

-- the depth of the deepest expression, 0 where there is none
abbrev mutual
  pub deepest_in : Stmt → ℕ
  deepest_in (c.set v e) = expr_depth e
  deepest_in (c.put x e) = expr_depth e
  deepest_in (c.when e xs) = max (expr_depth e) (deepest xs)
  deepest_in (c.choose e xs ys) = max (expr_depth e) (max (deepest xs) (deepest ys))
  deepest_in (c.loop xs) = deepest xs
  deepest_in (c.return (Some e)) = expr_depth e
  deepest_in _ = 0

  pub deepest : Stmts → ℕ
  deepest c.done = 0
  deepest (c.next x xs) = max (deepest_in x) (deepest xs)

-- how deep blocks nest in a statement, and in statements
abbrev mutual
  pub nested_in : Stmt → ℕ
  nested_in (c.when e xs) = suc (nested xs)
  nested_in (c.choose e xs ys) = suc (max (nested xs) (nested ys))
  nested_in (c.loop xs) = suc (nested xs)
  nested_in _ = 0

  pub nested : Stmts → ℕ
  nested c.done = 0
  nested (c.next x xs) = max (nested_in x) (nested xs)

-- a statement, and statements, with expressions of at most this depth, in which blocks nest at most so deep
pub record IsStmt (depth room : ℕ) (x : Stmt) : Type 0 where
  pub written : IsWritten x
  pub expressions : deepest_in x ≤ depth
  pub blocks : nested_in x ≤ room

pub record AreStmts (depth room : ℕ) (xs : Stmts) : Type 0 where
  pub written : AreWritten xs
  pub expressions : deepest xs ≤ depth
  pub blocks : nested xs ≤ room

-- the body of a function is a block itself
abbrev pub AreBodies : Bounds → List Body → Type 0
AreBodies b [] = Unit {0}
AreBodies b (x ∷ xs) = AreStmts b.expressions (b.blocks - 1) x.stmts × AreBodies b xs

abbrev pub IsUnit : Bounds → TranslationUnit → Type 0
IsUnit b u = AreBodies b u.bodies
