use Rattle.std.proofs.Common.{◌∷◌, [], sym, ap, ◌∙◌}
use Rattle.vlt_trace_worlds.specs.View.{named_view, frame_view, world_view}
use Rattle.vlt_trace_steps.specs.Cases.{case_key_view}
use Rattle.vlt_trace_steps.proofs.Leading.{err_is, same_hands, stop_ok, stop_hands}
use Rattle.vlt_trace_steps.proofs.Packing.{pack_one}
use Rattle.vlt_trace_steps.proofs.cases.pack_key.Goals as goal

pub returns-in_err-m : goal.returns-in_err-m
returns-in_err-m c = λ go.
    let w = world_view c.args.world.now in
    same_hands _ _ c.from_residual.result _ w (pack_one (case_key_view c.args.k) (frame_view c.args.frame.now) w go)
    (stop_hands named_view c.packed_object.result c.in_err-m.field-0.0 _ w _ c.from_residual.result _
    (err_is c.from_residual.result _ c.from_residual.ensures.1) c.in_err-m.was (rw c.deref.ensures.value at c.packed_object.ensures))

pub returns : goal.returns
returns c = λ go.
    let w = world_view c.args.world.now in
    pack_one (case_key_view c.args.k) (frame_view c.args.frame.now) w go
    ∙ (stop_ok named_view c.packed_object.result c.in_ok-m.m _ w _ c.in_ok-m.was (rw c.deref.ensures.value at c.packed_object.ensures)
    ∙ ap (go (c.in_ok-m.m.number ∷ [])) (sym c.set_owner.ensures))
