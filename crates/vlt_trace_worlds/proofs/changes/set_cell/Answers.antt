use Rattle.std.proofs.Common.{◌≤◌, length, slice_index_or, arith}
use Rattle.std.proofs.lemmas.Option.{slice_get-get_or}
use Rattle.vlt_meaning.specs.Objects.{with_cell}
use Rattle.vlt_trace_worlds.specs.View.{value_view}
use Rattle.vlt_trace_worlds.proofs.Changing.{changed_so, cell_set, no_cell}
use Rattle.vlt_trace_worlds.proofs.changes.set_cell.Goals as goal

pub returns-then-i-len : goal.returns-then-i-len
returns-then-i-len c = changed_so c.args.objects.now c.args.n _ _ (with_cell c.args.i (value_view c.args.a)) (slice_get-get_or c.args.objects.now c.args.n c.index-objects-n.result c.if-n-objects.true)
    (cell_set (slice_index_or c.args.objects.now c.args.n c.index-objects-n.result) c.args.i c.args.a c.set.new.self c.set.ensures)

pub returns-else-i-len : goal.returns-else-i-len
returns-else-i-len c =
    let l : length (slice_index_or c.args.objects.now c.args.n c.index-objects-n.result).cells ≤ c.args.i = omega (arith, c.if-i-len.false, c.len.ensures) in
    changed_so c.args.objects.now c.args.n _ _ (with_cell c.args.i (value_view c.args.a)) (slice_get-get_or c.args.objects.now c.args.n c.index-objects-n.result c.if-n-objects.true)
    (no_cell (slice_index_or c.args.objects.now c.args.n c.index-objects-n.result) c.args.i c.args.a l)
