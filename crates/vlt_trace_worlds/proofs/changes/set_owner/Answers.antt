use Rattle.std.proofs.Common.{refl}
use Rattle.std.proofs.lemmas.Option.{slice_get-get_or}
use Rattle.vlt_meaning.specs.Objects.{with_owner}
use Rattle.vlt_trace_worlds.specs.View.{owner_view}
use Rattle.vlt_trace_worlds.proofs.Changing.{changed_so}
use Rattle.vlt_trace_worlds.proofs.changes.set_owner.Goals as goal

pub returns-then-n-objects : goal.returns-then-n-objects
returns-then-n-objects c = changed_so c.args.objects.now c.args.n _ _ (with_owner (owner_view c.args.owner)) (slice_get-get_or c.args.objects.now c.args.n c.index-objects-n.result c.if-n-objects.true) refl
