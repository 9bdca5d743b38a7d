use Rattle.std.proofs.Common.{sym, ap, ◌∙◌}
use Rattle.vlt_meaning.specs.World as m
use Rattle.vlt_meaning.specs.Objects.{with_owner}
use Rattle.vlt_meaning.specs.Step.{goes, with_changed}
use Rattle.vlt_meaning.specs.Run.{focus_end_step}
use Rattle.vlt_trace_worlds.specs.View.{named_view, frame_view, world_view}
use Rattle.vlt_trace_steps.proofs.Leading.{err_is, same_goes, stop_ok, stop_err}
use Rattle.vlt_trace_steps.proofs.focus.end_focus.Goals as goal

pub returns-in_err-focused_object : goal.returns-in_err-focused_object
unfolding focus_end_step
returns-in_err-focused_object c = λ s e.
    stop_err named_view c.focused_object.result c.in_err-focused_object.field-0.0 _ (world_view c.args.world.now) _ c.from_residual.result (frame_view c.args.frame.now)
    (err_is c.from_residual.result _ c.from_residual.ensures.1) c.in_err-focused_object.was (rw c.deref.ensures.value at (c.focused_object.ensures s e))

pub returns-in_err-lent_object : goal.returns-in_err-lent_object
unfolding focus_end_step
returns-in_err-lent_object c = λ s e.
    let w = world_view c.args.world.now in
    let fr = frame_view c.args.frame.now in
    same_goes _ _ c.from_residual-in_err-lent_object.result fr w
    (stop_ok named_view c.focused_object.result _ _ w _ c.in_ok-focused_object.was (rw c.deref.ensures.value at (c.focused_object.ensures s e)))
    (stop_err named_view c.lent_object.result c.in_err-lent_object.field-0.0 _ w _ c.from_residual-in_err-lent_object.result fr
    (err_is c.from_residual-in_err-lent_object.result _ c.from_residual-in_err-lent_object.ensures.1) c.in_err-lent_object.was (rw c.deref-2.ensures.value at c.lent_object.ensures))

pub returns : goal.returns
unfolding focus_end_step
returns c = λ s e.
    let w = world_view c.args.world.now in
    let fr = frame_view c.args.frame.now in
    stop_ok named_view c.focused_object.result _ _ w _ c.in_ok-focused_object.was (rw c.deref.ensures.value at (c.focused_object.ensures s e))
    ∙ (stop_ok named_view c.lent_object.result _ _ w _ c.in_ok-lent_object.was (rw c.deref-2.ensures.value at c.lent_object.ensures)
    ∙ ap (goes fr) (sym (c.set_owner-2.ensures ∙ ap (λ u. with_changed u c.args.adopter (with_owner (m.held fr.depth c.args.guard.key.0))) c.set_owner.ensures)))
