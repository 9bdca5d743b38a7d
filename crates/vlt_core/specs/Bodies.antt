-- The flow of each body of a program.
use Rattle.std.specs.Prelude.{ℕ, List, [], ◌++◌}
use Rattle.vlt_core.specs.Core.{Tok, Form, Func, Program}
use Rattle.vlt_core.specs.Core as core
use Rattle.vlt_core.specs.Rows.{rows_of, in_order, arm_rows, focus_end_rows}
use Rattle.vlt_core.specs.Flow.{Flow, step, choose, loop, switch, scope, focus, return, jump, Block, block, Stmts, done, next, Arms, no_arms, arm}

-- `left` has the tokens that the blocks around bind, as far as the loop around: those that a jump leaves.
module _ (p : Program) (f : Func) where
  abbrev mutual
    pub flow_of : (left : List Tok) → Form → Flow
    flow_of left (core.simple s) = step (rows_of p f left (core.simple s))
    flow_of left (core.call g target keys args) = step (rows_of p f left (core.call g target keys args))
    flow_of left (core.choose e a b) =
        choose (rows_of p f left (core.choose e a b)) (flow_of_block left a) (flow_of_block left b)
    flow_of left (core.loop e b) = loop (rows_of p f left (core.loop e b)) (flow_of_block [] b)
    flow_of left (core.switch v arms end) =
        switch (rows_of p f left (core.switch v arms end)) (flow_of_arms left v arms) end
    flow_of left (core.focus y z b) =
        focus (rows_of p f left (core.focus y z b)) (flow_of_block left b) (focus_end_rows p f y z)
    flow_of left (core.scope b) = scope (flow_of_block left b)
    flow_of left (core.return value) = return (rows_of p f left (core.return value))
    flow_of left (core.jump continues) = jump continues (in_order f left)

    pub flow_of_block : (left : List Tok) → core.Block → Block
    flow_of_block left (core.block ss bound end) = block (flow_of_stmts (left ++ bound) ss) bound end

    pub flow_of_stmts : (left : List Tok) → core.Stmts → Stmts
    flow_of_stmts left core.done = done
    flow_of_stmts left (core.next at s rest) = next at (flow_of left s) (flow_of_stmts left rest)

    pub flow_of_arms : (left : List Tok) → (v : ℕ) → core.Arms → Arms
    flow_of_arms left v core.no_arms = no_arms
    flow_of_arms left v (core.arm c vs b rest) = arm (arm_rows p f v c vs) (flow_of_block left b) (flow_of_arms left v rest)

  -- The whole body. Its own tokens are wanted away by its returns, so its block has none.
  abbrev pub body_flow : Block
  body_flow = block (flow_of_stmts [] f.body) [] f.end
