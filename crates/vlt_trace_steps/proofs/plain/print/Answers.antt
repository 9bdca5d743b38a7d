use Rattle.std.proofs.Common.{rules, ℤ, sym, ap, ◌∙◌, SFits, w64, to_z, of_z}
use Rattle.std.proofs.lemmas.Int.{to_z-of_z}
use Rattle.vlt_meaning.specs.World.{printed}
use Rattle.vlt_meaning.specs.Step.{goes, with_event}
use Rattle.vlt_trace_worlds.specs.View.{frame_view, world_view}
use Rattle.vlt_trace_steps.proofs.Leading.{err_is, stop_ok, stop_err}
use Rattle.vlt_trace_steps.proofs.Making.{told_goes}
use Rattle.vlt_trace_steps.proofs.plain.print.Goals as goal

pub returns-in_err-z : goal.returns-in_err-z
returns-in_err-z c = λ heap depth.
    stop_err (λ (z : ℤ). z) c.number.result c.in_err-z.field-0.0 _ (world_view c.args.world.now) _ c.from_residual.result (frame_view c.args.frame.now)
    (err_is c.from_residual.result _ c.from_residual.ensures.1) c.in_err-z.was (rw c.deref.ensures.value at c.number.ensures)

pub returns : goal.returns
returns c = λ heap depth.
    let w = world_view c.args.world.now in
    let fr = frame_view c.args.frame.now in
    let z = c.in_ok-z.z in
    let fits : SFits w64 z = search rules in
    told_goes _ c.tell.result fr (with_event w (printed (to_z w64 (of_z w64 z)))) (world_view c.tell.new.self)
    (stop_ok (λ (z : ℤ). z) c.number.result z _ w _ c.in_ok-z.was (rw c.deref.ensures.value at c.number.ensures)
    ∙ ap (λ y. goes fr (with_event w (printed y))) (sym (to_z-of_z w64 z fits)))
    c.tell.ensures.ok c.tell.ensures.err
