use Rattle.std.proofs.Common.{◌∙◌}
use Rattle.vlt_resolve_exprs.proofs.Same.{same_ids}
use Rattle.vlt_resolve_exprs.proofs.types.same_keys.Goals as goal

pub returns : goal.returns
returns c = c.eq.ensures ∙ same_ids c.args.a.now c.args.b.now
