use Rattle.std.proofs.Common.{length}
use Rattle.vlt_acts.proofs.objects.cases.+fill_parts.Given as goal

abbrev pub decreases-fill_parts : goal.decreases-fill_parts
decreases-fill_parts l = length l.vs.now
