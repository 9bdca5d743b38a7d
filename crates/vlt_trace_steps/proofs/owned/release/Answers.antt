use Rattle.vlt_meaning.specs.Step.{goes}
use Rattle.vlt_trace_worlds.specs.View.{named_view, objects_view, frame_view, world_view}
use Rattle.vlt_trace_worlds.specs.Running.{program_in}
use Rattle.vlt_trace_steps.proofs.Leading.{err_is, same_goes, stop_ok, stop_err, goes_of_hands}
use Rattle.vlt_trace_steps.proofs.Making.{released_hands}
use Rattle.vlt_trace_steps.proofs.owned.release.Goals as goal

pub returns-in_err-m : goal.returns-in_err-m
returns-in_err-m c = λ heap depth.
    stop_err named_view c.object_of.result c.in_err-m.field-0.0 _ (world_view c.args.world.now) _ c.from_residual.result (frame_view c.args.frame.now)
    (err_is c.from_residual.result _ c.from_residual.ensures.1) c.in_err-m.was (rw c.deref.ensures.value at c.object_of.ensures)

pub returns : goal.returns
returns c = λ heap depth.
    let w = world_view c.args.world.now in
    let fr = frame_view c.args.frame.now in
    same_goes _ _ c.release.result fr (world_view c.release.new.self)
    (stop_ok named_view c.object_of.result c.in_ok-m.m _ w _ c.in_ok-m.was (rw c.deref.ensures.value at c.object_of.ensures))
    (goes_of_hands _ c.release.result fr (world_view c.release.new.self)
    (released_hands (program_in c.args.at.now) _ w (world_view c.release.new.self) (goes fr) c.release.result (objects_view c.release.new.self.objects.items) c.release.ensures.released c.release.ensures.world))
