use Rattle.c_syntax.specs.View.{stmts_of}
use Rattle.c_match.proofs.Parts.{end_together}
use Rattle.std.proofs.Common.{◌≡◌}
use Rattle.c_match.proofs.same.+same.Goals as goal

pub same_stmts-returns : goal.same_stmts-returns
same_stmts-returns t c =
    end_together c.is_empty.result c.loop-x.x-index c.args.a.now c.loop-x.left.now (stmts_of c.args.a.now ≡ stmts_of c.args.b.now) c.is_empty.ensures c.loop-x-test.false c.loop-x.invariant
