use Rattle.std.proofs.Common.{length}
use Rattle.vlt_acts.proofs.objects.opening.+take_cells.Given as goal

abbrev pub decreases-take_cells : goal.decreases-take_cells
decreases-take_cells l = length l.fields.now
