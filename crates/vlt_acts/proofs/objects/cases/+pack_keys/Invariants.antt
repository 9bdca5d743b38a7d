use Rattle.std.proofs.Common.{length}
use Rattle.vlt_acts.proofs.objects.cases.+pack_keys.Given as goal

abbrev pub decreases-pack_keys : goal.decreases-pack_keys
decreases-pack_keys l = length l.keys.now
