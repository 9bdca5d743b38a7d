-- Programs without their places, as certificates give them.
use Rattle.std.specs.Prelude.{map}
use Rattle.vlt_core.specs.Core.{Form, simple, call, choose, loop, switch, focus, scope, return, jump, Block, block, Stmts, done, next, Arms, no_arms, arm, Func, Program}
use Rattle.vlt_core.specs.Flow as flow

abbrev mutual
  pub unplaced_form : Form → Form
  unplaced_form (simple s) = simple s
  unplaced_form (call g target keys args) = call g target keys args
  unplaced_form (choose e a b) = choose e (unplaced_block a) (unplaced_block b)
  unplaced_form (loop e b) = loop e (unplaced_block b)
  unplaced_form (switch v arms end) = switch v (unplaced_arms arms) 0
  unplaced_form (focus y z b) = focus y z (unplaced_block b)
  unplaced_form (scope b) = scope (unplaced_block b)
  unplaced_form (return value) = return value
  unplaced_form (jump continues) = jump continues

  pub unplaced_block : Block → Block
  unplaced_block (block ss bound end) = block (unplaced_stmts ss) bound 0

  pub unplaced_stmts : Stmts → Stmts
  unplaced_stmts done = done
  unplaced_stmts (next at s rest) = next 0 (unplaced_form s) (unplaced_stmts rest)

  pub unplaced_arms : Arms → Arms
  unplaced_arms no_arms = no_arms
  unplaced_arms (arm c vs b rest) = arm c vs (unplaced_block b) (unplaced_arms rest)

abbrev pub unplaced_func : Func → Func
unplaced_func f = record f { body = unplaced_stmts f.body; end = 0 }

-- the program with each place 0, as a certificate gives it
abbrev pub unplaced_program : Program → Program
unplaced_program p = record p { fns = map unplaced_func p.fns }
