-- Bodies in which each switch has an arm.
use Rattle.vlt_core.specs.Core.{Form, choose, loop, switch, focus, scope, Block, block, Stmts, done, next, Arms, no_arms, arm}

abbrev pub IsSomeArm : Arms → Type 0
IsSomeArm no_arms = ⊥
IsSomeArm (arm c vs b rest) = Unit {0}

abbrev mutual
  pub HasArms : Form → Type 0
  HasArms (choose e a b) = HasArmsBlock a × HasArmsBlock b
  HasArms (loop e b) = HasArmsBlock b
  HasArms (switch v arms end) = IsSomeArm arms × HasArmsArms arms
  HasArms (focus y z b) = HasArmsBlock b
  HasArms (scope b) = HasArmsBlock b
  HasArms s = Unit {0}

  pub HasArmsBlock : Block → Type 0
  HasArmsBlock (block ss bound end) = HasArmsStmts ss

  pub HasArmsStmts : Stmts → Type 0
  HasArmsStmts done = Unit {0}
  HasArmsStmts (next at s rest) = HasArms s × HasArmsStmts rest

  pub HasArmsArms : Arms → Type 0
  HasArmsArms no_arms = Unit {0}
  HasArmsArms (arm c vs b rest) = HasArmsBlock b × HasArmsArms rest
