use Rattle.std.proofs.Common.{length}
use Rattle.vlt_acts.proofs.objects.owned.+hang_all.Given as goal

abbrev pub decreases-hang_all : goal.decreases-hang_all
decreases-hang_all l = length l.slots.now
