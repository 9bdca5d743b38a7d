-- A body has as many statements in each instance.
use Rattle.std.proofs.Common.{◌≡◌, ◌+◌, ℕ, List, [], ◌++◌, Option, refl}
use Rattle.vlt_core.specs.Core.{Tok, Form, simple, call, choose, loop, switch, focus, scope, return, jump, Block, block, Stmts, done, next, Arms, no_arms, arm, Func, Program}
use Rattle.vlt_core.specs.Flow.{size, size_block, size_stmts, size_arms}
use Rattle.vlt_core.specs.Bodies.{flow_of, flow_of_block, flow_of_stmts, flow_of_arms, body_flow}
use Rattle.vlt_core.specs.Instances.{instance}

module _ (p : Program) (f : Func) (o : Option ℕ) where
  abbrev f' : Func
  f' = instance p f o

  mutual
    form_size : (left : List Tok) (s : Form) → size (flow_of p f' left s) ≡ size (flow_of p f left s)
    form_size left (simple s) = refl
    form_size left (call g target keys args) = refl
    form_size left (choose e a b) = rw (block_size left a, block_size left b) refl
    form_size left (loop e b) = rw (block_size [] b) refl
    form_size left (switch v arms end) = rw (arms_size left v arms) refl
    form_size left (focus y z b) = rw (block_size left b) refl
    form_size left (scope b) = rw (block_size left b) refl
    form_size left (return value) = refl
    form_size left (jump continues) = refl

    block_size : (left : List Tok) (b : Block) → size_block (flow_of_block p f' left b) ≡ size_block (flow_of_block p f left b)
    block_size left (block ss bound end) = stmts_size (left ++ bound) ss

    stmts_size : (left : List Tok) (ss : Stmts) → size_stmts (flow_of_stmts p f' left ss) ≡ size_stmts (flow_of_stmts p f left ss)
    stmts_size left done = refl
    stmts_size left (next at s rest) = rw (form_size left s, stmts_size left rest) refl

    arms_size : (left : List Tok) (v : ℕ) (arms : Arms) → size_arms (flow_of_arms p f' left v arms) ≡ size_arms (flow_of_arms p f left v arms)
    arms_size left v no_arms = refl
    arms_size left v (arm c vs b rest) = rw (block_size left b, arms_size left v rest) refl

  pub body_size : size_block (body_flow p f') ≡ size_block (body_flow p f)
  body_size = stmts_size [] f.body
