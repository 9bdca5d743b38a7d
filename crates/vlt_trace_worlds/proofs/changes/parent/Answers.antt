use Rattle.std.proofs.Common.{sym, ◌∙◌}
use Rattle.vlt_trace_worlds.proofs.Changing.{parent_at}
use Rattle.vlt_trace_worlds.proofs.changes.parent.Goals as goal

pub returns-in-Some : goal.returns-in-Some
returns-in-Some c = c.above.ensures ∙ parent_at c.args.objects.now c.args.n c.in-Some.o.now (sym c.in-Some.ensures)
