use Rattle.std.proofs.Common.{length}
use Rattle.vlt_trace_steps.proofs.objects.+push_owning.Given as goal

abbrev pub decreases-push_owning : goal.decreases-push_owning
decreases-push_owning l = length l.fields.now
