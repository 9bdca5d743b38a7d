use Rattle.std.proofs.Common.{sym, ap, ◌∙◌}
use Rattle.vlt_meaning.specs.Step.{goes}
use Rattle.vlt_trace_worlds.specs.View.{named_view, frame_view, world_view}
use Rattle.vlt_trace_steps.proofs.Leading.{err_is, stop_ok, stop_err}
use Rattle.vlt_trace_steps.proofs.plain.become_state.Goals as goal

pub returns-in_err-m : goal.returns-in_err-m
returns-in_err-m c = λ heap depth.
    stop_err named_view c.object_of.result c.in_err-m.field-0.0 _ (world_view c.args.world.now) _ c.from_residual.result (frame_view c.args.frame.now)
    (err_is c.from_residual.result _ c.from_residual.ensures.1) c.in_err-m.was (rw c.deref.ensures.value at c.object_of.ensures)

pub returns : goal.returns
returns c = λ heap depth.
    stop_ok named_view c.object_of.result c.in_ok-m.m _ (world_view c.args.world.now) _ c.in_ok-m.was (rw c.deref.ensures.value at c.object_of.ensures)
    ∙ ap (goes (frame_view c.args.frame.now)) (sym c.set_state.ensures)
