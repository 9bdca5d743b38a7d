use Rattle.vlt_core.specs.View.{func_of}
use Rattle.vlt_paths.proofs.Choosing.{left_past, not_own, not_left}
use Rattle.vlt_paths.proofs.passing.past_left.Goals as goal

pub returns-then-not-left : goal.returns-then-not-left
returns-then-not-left c ts l = not_left c.args.hunt (func_of c.args.f.now) ts c.args.at c.args.point c.args.left l c.if-not-left.true

pub returns-then-is_of : goal.returns-then-is_of
returns-then-is_of c ts l =
    left_past c.args.hunt (func_of c.args.f.now) ts c.args.at c.args.point c.past_one.result c.args.left c.is_of.result l c.if-not-left.false c.is_of.ensures c.if-is_of.true c.past_one.ensures

pub returns-else-is_of : goal.returns-else-is_of
returns-else-is_of c ts l = not_own c.args.hunt (func_of c.args.f.now) ts c.args.at c.args.point c.is_of.result c.is_of.ensures c.if-is_of.false
