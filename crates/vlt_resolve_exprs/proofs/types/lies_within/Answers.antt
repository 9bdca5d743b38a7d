use Rattle.vlt_resolve_exprs.specs.Types.{is_inside}
use Rattle.vlt_resolve_exprs.proofs.Same.{within_is}
use Rattle.vlt_resolve_exprs.proofs.types.lies_within.Goals as goal

pub returns : goal.returns
unfolding is_inside
returns c = within_is c.args.a c.args.b c.within.result c.within.ensures
