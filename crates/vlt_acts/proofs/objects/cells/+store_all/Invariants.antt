use Rattle.std.proofs.Common.{length}
use Rattle.vlt_acts.proofs.objects.cells.+store_all.Given as goal

abbrev pub decreases-store_all : goal.decreases-store_all
decreases-store_all l = length l.row.now
