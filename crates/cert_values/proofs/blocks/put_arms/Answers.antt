use Rattle.cert_values.proofs.Lengths.{heads_map}
use Rattle.cert_values.proofs.blocks.put_arms.Goals as goal

pub returns : goal.returns
returns c = rw (heads_map c.args.arms.now) c.put_each_arm.ensures
