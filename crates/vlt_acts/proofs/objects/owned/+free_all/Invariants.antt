use Rattle.std.proofs.Common.{length}
use Rattle.vlt_acts.proofs.objects.owned.+free_all.Given as goal

abbrev pub decreases-free_all : goal.decreases-free_all
decreases-free_all l = length l.slots.now
