use Rattle.vlt_core.specs.View.{program_of}
use Rattle.vlt_trace_worlds.specs.View.{named_view, objects_view, world_view}
use Rattle.vlt_trace_steps.proofs.Leading.{err_is, same_hands, stop_ok, stop_hands}
use Rattle.vlt_trace_steps.proofs.Dropping.{drop_one}
use Rattle.vlt_trace_steps.proofs.Making.{released_hands}
use Rattle.vlt_trace_steps.proofs.owned.drop_object.Goals as goal

pub returns-in_err-owned_at : goal.returns-in_err-owned_at
returns-in_err-owned_at c = λ go.
    let w = world_view c.args.world.now in
    same_hands _ _ c.from_residual.result _ w (drop_one (program_of c.args.p.now) c.args.n w go)
    (stop_hands named_view c.owned_at.result c.in_err-owned_at.field-0.0 _ w _ c.from_residual.result _
    (err_is c.from_residual.result _ c.from_residual.ensures.1) c.in_err-owned_at.was (rw c.deref.ensures.value at c.owned_at.ensures))

pub returns : goal.returns
returns c = λ go.
    let w = world_view c.args.world.now in
    let v = world_view c.release.new.self in
    same_hands _ _ c.release.result _ v (drop_one (program_of c.args.p.now) c.args.n w go)
    (same_hands _ _ c.release.result _ v
    (stop_ok named_view c.owned_at.result _ _ w _ c.in_ok-owned_at.was (rw c.deref.ensures.value at c.owned_at.ensures))
    (released_hands (program_of c.args.p.now) c.args.n w v go c.release.result (objects_view c.release.new.self.objects.items) c.release.ensures.released c.release.ensures.world))
