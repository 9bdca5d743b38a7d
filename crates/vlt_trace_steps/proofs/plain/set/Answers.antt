use Rattle.std.proofs.Common.{sym, ap, ◌∙◌}
use Rattle.vlt_meaning.specs.Step.{goes}
use Rattle.vlt_trace_worlds.specs.View.{value_view, frame_view, world_view}
use Rattle.vlt_trace_worlds.specs.declared.stops.Halt.TheVariants.{Memory}
use Rattle.vlt_trace_steps.proofs.Leading.{err_is, no_memory, finds_ok, finds_err}
use Rattle.vlt_trace_steps.proofs.plain.set.Goals as goal

pub returns-in_err-a : goal.returns-in_err-a
returns-in_err-a c = λ heap depth.
    finds_err value_view c.value.result c.in_err-a.field-0.0 _ (world_view c.args.world.now) _ c.from_residual.result (frame_view c.args.frame.now)
    (err_is c.from_residual.result _ c.from_residual.ensures.1) c.in_err-a.was (rw c.deref.ensures.value at c.value.ensures)

pub returns-in_err-set_var : goal.returns-in_err-set_var
returns-in_err-set_var c = λ heap depth. no_memory _ _ _ _ (err_is c.from_residual-in_err-set_var.result Memory c.from_residual-in_err-set_var.ensures.1)

pub returns : goal.returns
returns c = λ heap depth.
    finds_ok value_view c.value.result c.in_ok-a.a _ (world_view c.args.world.now) _ c.in_ok-a.was (rw c.deref.ensures.value at c.value.ensures)
    ∙ ap (λ f. goes f (world_view c.args.world.now)) (sym c.in_ok-set_var.ensures)
