use Rattle.std.proofs.Common.{◌∙◌}
use Rattle.vlt_faults.proofs.OfFinding.Bits.{union_in}
use Rattle.vlt_points.proofs.found.union.Goals as goal

pub returns : goal.returns
returns c = union_in c.args.a c.args.b c.made.result (c.made.ensures.absent ∙ c.either.ensures) (c.made.ensures.full ∙ c.either-2.ensures) c.made.ensures.held c.made.ensures.lent
