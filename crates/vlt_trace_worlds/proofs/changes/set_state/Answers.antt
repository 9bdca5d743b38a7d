use Rattle.std.proofs.Common.{refl}
use Rattle.std.proofs.lemmas.Option.{slice_get-get_or}
use Rattle.vlt_meaning.specs.Objects.{with_state}
use Rattle.vlt_trace_worlds.proofs.Changing.{changed_so}
use Rattle.vlt_trace_worlds.proofs.changes.set_state.Goals as goal

pub returns-then-n-objects : goal.returns-then-n-objects
returns-then-n-objects c = changed_so c.args.objects.now c.args.n _ _ (with_state c.args.state) (slice_get-get_or c.args.objects.now c.args.n c.index-objects-n.result c.if-n-objects.true) refl
