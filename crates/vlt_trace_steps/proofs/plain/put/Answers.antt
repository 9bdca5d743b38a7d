use Rattle.std.proofs.Common.{nat_lt, length, map, Some, sym, ap, ◌∙◌}
use Rattle.vlt_meaning.specs.World as m
use Rattle.vlt_meaning.specs.Step.{goes}
use Rattle.vlt_trace_worlds.specs.View.{value_view, named_view, frame_view, world_view}
use Rattle.vlt_trace_worlds.specs.Steps.{told_step}
use Rattle.vlt_trace_steps.proofs.Leading.{err_is, same_goes, finds_ok, finds_err, stop_ok, stop_err, so, not_so}
use Rattle.vlt_trace_steps.proofs.Cells.{cell_there, no_cell_there}
use Rattle.vlt_trace_steps.proofs.plain.put.Goals as goal

pub returns-in_err-a : goal.returns-in_err-a
returns-in_err-a c = λ heap depth.
    finds_err value_view c.value.result c.in_err-a.field-0.0 _ (world_view c.args.world.now) _ c.from_residual.result (frame_view c.args.frame.now)
    (err_is c.from_residual.result _ c.from_residual.ensures.1) c.in_err-a.was (rw c.deref.ensures.value at c.value.ensures)

pub returns-in_err-m : goal.returns-in_err-m
returns-in_err-m c = λ heap depth.
    let w = world_view c.args.world.now in
    let fr = frame_view c.args.frame.now in
    same_goes _ _ c.from_residual-in_err-m.result fr w
    (finds_ok value_view c.value.result c.in_ok-a.a _ w _ c.in_ok-a.was (rw c.deref.ensures.value at c.value.ensures))
    (stop_err named_view c.touchable_object.result c.in_err-m.field-0.0 _ w _ c.from_residual-in_err-m.result fr
    (err_is c.from_residual-in_err-m.result _ c.from_residual-in_err-m.ensures.1) c.in_err-m.was (rw c.deref-2.ensures.value at c.touchable_object.ensures))

pub returns-then-i-len : goal.returns-then-i-len
returns-then-i-len c = λ heap depth.
    let w = world_view c.args.world.now in
    let fr = frame_view c.args.frame.now in
    let o = c.in_ok-m.m in
    finds_ok value_view c.value.result c.in_ok-a.a _ w _ c.in_ok-a.was (rw c.deref.ensures.value at c.value.ensures)
    ∙ (stop_ok named_view c.touchable_object.result o _ w _ c.in_ok-m.was (rw c.deref-2.ensures.value at c.touchable_object.ensures)
    ∙ (so (nat_lt c.args.i (length (map value_view o.object.now.cells))) m.missing (Some o.number) w _ (cell_there c.args.i c.len.result o.object.now.cells c.len.ensures c.if-i-len.true)
    ∙ ap (goes fr) (sym c.set_cell.ensures)))

pub returns-else-i-len : goal.returns-else-i-len
returns-else-i-len c = λ heap depth.
    let w = world_view c.args.world.now in
    let fr = frame_view c.args.frame.now in
    let o = c.in_ok-m.m in
    ap told_step
    (finds_ok value_view c.value.result c.in_ok-a.a _ w _ c.in_ok-a.was (rw c.deref.ensures.value at c.value.ensures)
    ∙ stop_ok named_view c.touchable_object.result o _ w _ c.in_ok-m.was (rw c.deref-2.ensures.value at c.touchable_object.ensures))
    ∙ not_so (nat_lt c.args.i (length (map value_view o.object.now.cells))) m.missing (Some o.number) w _ (no_cell_there c.args.i c.len.result o.object.now.cells c.len.ensures c.if-i-len.false)
