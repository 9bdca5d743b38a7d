use Rattle.std.proofs.Common.{◌≡◌, map, sym, ap, ◌∙◌}
use Rattle.vlt_core.specs.Lookups.{fields_of}
use Rattle.vlt_core.specs.LookupViews.{reference_view}
use Rattle.vlt_core.specs.View.{vars_of}
use Rattle.vlt_meaning.specs.World as m
use Rattle.vlt_meaning.specs.Operands.{owning_cells}
use Rattle.vlt_meaning.specs.Run.{open_step}
use Rattle.vlt_trace_worlds.specs.View.{value_view, named_view, frame_view, world_view}
use Rattle.vlt_trace_worlds.specs.Running.{program_in, func_in, setup_in}
use Rattle.vlt_trace_worlds.specs.declared.stops.Halt.TheVariants.{Memory}
use Rattle.vlt_trace_steps.proofs.Leading.{err_is, no_memory, same_goes, some_found, stop_ok, stop_err}
use Rattle.vlt_trace_steps.proofs.objects.open_into.Goals as goal

pub returns-in_err-m : goal.returns-in_err-m
returns-in_err-m c = λ heap depth.
    let w = world_view c.args.world.now in
    let fr = frame_view c.args.frame.now in
    same_goes _ _ c.from_residual.result fr w
    (some_found reference_view m.missing c.reference.result c.in-Some.q _ w _ c.in-Some.is c.reference.ensures)
    (stop_err named_view c.object_of.result c.in_err-m.field-0.0 _ w _ c.from_residual.result fr
    (err_is c.from_residual.result _ c.from_residual.ensures.1) c.in_err-m.was (rw c.deref.ensures.value at c.object_of.ensures))

pub returns-in_err-cells : goal.returns-in_err-cells
returns-in_err-cells c = λ heap depth. no_memory _ _ _ _ (err_is c.from_residual-in_err-cells.result Memory c.from_residual-in_err-cells.ensures.1)

pub returns : goal.returns
returns c = λ heap depth.
    let w = world_view c.args.world.now in
    let fr = frame_view c.args.frame.now in
    let o = c.in_ok-m.m in
    let q = reference_view c.in-Some.q in
    let r = setup_in c.args.at.now heap depth in
    let f = func_in c.args.at.now in
    let cells : map value_view c.in_ok-cells.cells ≡ owning_cells (fields_of (program_in c.args.at.now) q.type) (map value_view o.object.now.cells) =
    c.in_ok-cells.ensures ∙ (ap (λ fs. owning_cells fs (map value_view c.as_slice.result.now)) c.fields.ensures
    ∙ ap (λ cs. owning_cells (fields_of (program_in c.args.at.now) q.type) (map value_view cs)) c.as_slice.ensures) in
    same_goes _ _ c.open_object.result (frame_view c.open_object.new.frame) (world_view c.open_object.new.world)
    (some_found reference_view m.missing c.reference.result c.in-Some.q _ w _ c.in-Some.is c.reference.ensures
    ∙ (stop_ok named_view c.object_of.result o _ w _ c.in_ok-m.was (rw c.deref.ensures.value at c.object_of.ensures)
    ∙ ap (λ cs. open_step r o.number cs f (vars_of c.args.vs.now) fr w) (sym cells)))
    (c.open_object.ensures heap depth)
