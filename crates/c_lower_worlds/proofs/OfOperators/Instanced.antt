-- An instance of a function has the function's own code: lowering doesn't look at the clause of a function with a body.
use Rattle.std.proofs.Common.{◌≡◌, ℕ, List, Option, refl}
use Rattle.vlt_core.specs.Core.{Expr, Operand, Simple, Stmts, done, next, Block, block, Arms, no_arms, arm, Form, simple, call, choose, loop, switch, focus, scope, return, jump, Func, Program}
use Rattle.vlt_core.specs.Instances.{instance}
use Rattle.c_lower.specs.Slots.{Numbers}
use Rattle.c_lower.specs.Statements.{simple_code, call_code, return_code, form_code, block_code, list_code, arms_code}
use Rattle.c_lower.specs.Expressions.{expr_code, operand_codes}
use Rattle.c_syntax.specs.declared.program.CVar.{CVar}

module _ (p : Program) (f : Func) (o : Option ℕ) where
  expr_same : (n : Numbers) (e : Expr) → expr_code p (instance p f o) n e ≡ expr_code p f n e
  expr_same n e = refl

  operands_same : (n : Numbers) (xs : List Operand) → operand_codes p (instance p f o) n xs ≡ operand_codes p f n xs
  operands_same n xs = refl

  simple_same : (n : Numbers) (s : Simple) → simple_code p (instance p f o) n s ≡ simple_code p f n s
  simple_same n s = refl

  call_same : (n : Numbers) (g : ℕ) (t : Option ℕ) (xs : List Operand) → call_code p (instance p f o) n g t xs ≡ call_code p f n g t xs
  call_same n g t xs = refl

  return_same : (n : Numbers) (x : Option Operand) → return_code p (instance p f o) n x ≡ return_code p f n x
  return_same n x = refl

  mutual
    pub form_same : (n : Numbers) (s : Form) → form_code p (instance p f o) n s ≡ form_code p f n s
    form_same n (simple s) = refl
    form_same n (call g t keys xs) = refl
    form_same n (choose e a b) = rw (block_same _ a, block_same _ b) refl
    form_same n (loop e b) = rw (block_same _ b) refl
    form_same n (switch v arms end) = rw (arms_same _ v _ arms) refl
    form_same n (focus y z b) = rw (block_same _ b) refl
    form_same n (scope b) = block_same n b
    form_same n (return x) = refl
    form_same n (jump c) = refl

    block_same : (n : Numbers) (b : Block) → block_code p (instance p f o) n b ≡ block_code p f n b
    block_same n (block ss bound end) = list_same n ss

    pub list_same : (n : Numbers) (ss : Stmts) → list_code p (instance p f o) n ss ≡ list_code p f n ss
    list_same n done = refl
    list_same n (next at s rest) = rw (form_same n s, list_same n rest) refl

    arms_same : (n : Numbers) (v : ℕ) (c : CVar) (arms : Arms) → arms_code p (instance p f o) n v c arms ≡ arms_code p f n v c arms
    arms_same n v c no_arms = refl
    arms_same n v c (arm k vs b rest) = rw (block_same n b, arms_same n v c rest) refl
