-- Statements are counted as those of a body's flow are.
use Rattle.std.proofs.Common.{◌≡◌, ℕ, suc, ◌+◌, List, [], ◌++◌, refl, ap₂, arith}
use Rattle.vlt_core.specs.Core as core
use Rattle.vlt_core.specs.Core.{Func, Program, Tok}
use Rattle.vlt_core.specs.Flow.{size, size_block, size_stmts, size_arms}
use Rattle.vlt_core.specs.Bodies.{flow_of, flow_of_block, flow_of_stmts, flow_of_arms, body_flow}
use Rattle.c_match.specs.Owned.{count, count_block, count_list, count_arms}

one_more : (m n : ℕ) → m ≡ n → suc m ≡ 1 + n
one_more m n e = omega (arith, e)

module _ (p : Program) (f : Func) where
  mutual
    pub form_counted : (left : List Tok) (s : core.Form) → count s ≡ size (flow_of p f left s)
    form_counted left (core.simple s) = refl
    form_counted left (core.call g target keys os) = refl
    form_counted left (core.return o) = refl
    form_counted left (core.jump continues) = refl
    form_counted left (core.choose e a b) = one_more _ _ (ap₂ (λ m n. m + n) (block_counted left a) (block_counted left b))
    form_counted left (core.loop e b) = one_more _ _ (block_counted [] b)
    form_counted left (core.switch v arms end) = one_more _ _ (arms_counted left v arms)
    form_counted left (core.focus y z b) = one_more _ _ (block_counted left b)
    form_counted left (core.scope b) = one_more _ _ (block_counted left b)

    pub block_counted : (left : List Tok) (b : core.Block) → count_block b ≡ size_block (flow_of_block p f left b)
    block_counted left (core.block ss bound end) = list_counted (left ++ bound) ss

    pub list_counted : (left : List Tok) (ss : core.Stmts) → count_list ss ≡ size_stmts (flow_of_stmts p f left ss)
    list_counted left core.done = refl
    list_counted left (core.next at s rest) = ap₂ (λ m n. m + n) (form_counted left s) (list_counted left rest)

    pub arms_counted : (left : List Tok) (v : ℕ) (arms : core.Arms) → count_arms arms ≡ size_arms (flow_of_arms p f left v arms)
    arms_counted left v core.no_arms = refl
    arms_counted left v (core.arm k vs b arms) = ap₂ (λ m n. m + n) (block_counted left b) (arms_counted left v arms)

  pub body_counted : count_list f.body ≡ size_block (body_flow p f)
  body_counted = list_counted [] f.body
