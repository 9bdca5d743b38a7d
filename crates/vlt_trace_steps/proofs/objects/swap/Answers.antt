use Rattle.std.proofs.Common.{◌≡◌, map, slice_get, sym, ap, ◌∙◌}
use Rattle.std.specs.Option.{option_map, option_copied}
use Rattle.std.proofs.lemmas.Option.{slice_get-map}
use Rattle.vlt_trace_worlds.specs.View.{value_view, object_view, named_view, frame_view, world_view}
use Rattle.vlt_trace_steps.proofs.Leading.{err_is, same_goes, stop_ok, stop_err, finds_ok, finds_err}
use Rattle.vlt_trace_steps.proofs.objects.swap.Goals as goal

pub returns-in_err-m : goal.returns-in_err-m
returns-in_err-m c = λ heap depth.
    stop_err named_view c.object_of.result c.in_err-m.field-0.0 _ (world_view c.args.world.now) _ c.from_residual.result (frame_view c.args.frame.now)
    (err_is c.from_residual.result _ c.from_residual.ensures.1) c.in_err-m.was (rw c.deref.ensures.value at c.object_of.ensures)

pub returns-in_err-old : goal.returns-in_err-old
returns-in_err-old c = λ heap depth.
    let fr = frame_view c.args.frame.now in
    let w = world_view c.args.world.now in
    let o = c.in_ok-m.m in
    let cell : option_map value_view (option_copied c.get.result) ≡ slice_get (map value_view o.object.now.cells) c.args.i =
    ap (option_map value_view) c.get.ensures.value ∙ sym (slice_get-map value_view o.object.now.cells c.args.i) in
    same_goes _ _ c.from_residual-in_err-old.result fr w
    (stop_ok named_view c.object_of.result o _ w _ c.in_ok-m.was (rw c.deref.ensures.value at c.object_of.ensures))
    (finds_err value_view c.copy_of.result c.in_err-old.field-0.0 _ w _ c.from_residual-in_err-old.result fr
    (err_is c.from_residual-in_err-old.result _ c.from_residual-in_err-old.ensures.1) c.in_err-old.was (rw cell at c.copy_of.ensures))

pub returns-in_err-new : goal.returns-in_err-new
returns-in_err-new c = λ heap depth.
    let fr = frame_view c.args.frame.now in
    let w = world_view c.args.world.now in
    let o = c.in_ok-m.m in
    let cell : option_map value_view (option_copied c.get.result) ≡ slice_get (map value_view o.object.now.cells) c.args.i =
    ap (option_map value_view) c.get.ensures.value ∙ sym (slice_get-map value_view o.object.now.cells c.args.i) in
    same_goes _ _ c.from_residual-in_err-new.result fr w
    (stop_ok named_view c.object_of.result o _ w _ c.in_ok-m.was (rw c.deref.ensures.value at c.object_of.ensures)
    ∙ finds_ok value_view c.copy_of.result c.in_ok-old.old _ w _ c.in_ok-old.was (rw cell at c.copy_of.ensures))
    (finds_err value_view c.copy_of-2.result c.in_err-new.field-0.0 _ w _ c.from_residual-in_err-new.result fr
    (err_is c.from_residual-in_err-new.result _ c.from_residual-in_err-new.ensures.1) c.in_err-new.was (rw c.var.ensures at c.copy_of-2.ensures))

pub returns : goal.returns
returns c = λ heap depth.
    let fr = frame_view c.args.frame.now in
    let w = world_view c.args.world.now in
    let o = c.in_ok-m.m in
    let cell : option_map value_view (option_copied c.get.result) ≡ slice_get (map value_view o.object.now.cells) c.args.i =
    ap (option_map value_view) c.get.ensures.value ∙ sym (slice_get-map value_view o.object.now.cells c.args.i) in
    same_goes _ _ c.swap_values.result (frame_view c.swap_values.new.frame) (world_view c.swap_values.new.world)
    (stop_ok named_view c.object_of.result o _ w _ c.in_ok-m.was (rw c.deref.ensures.value at c.object_of.ensures)
    ∙ (finds_ok value_view c.copy_of.result c.in_ok-old.old _ w _ c.in_ok-old.was (rw cell at c.copy_of.ensures)
    ∙ finds_ok value_view c.copy_of-2.result c.in_ok-new.new _ w _ c.in_ok-new.was (rw c.var.ensures at c.copy_of-2.ensures)))
    (c.swap_values.ensures (object_view o.object.now))
