use Rattle.std.proofs.Common.{sym, ap, ◌∙◌}
use Rattle.vlt_meaning.specs.World as m
use Rattle.vlt_meaning.specs.Found.{or_fault}
use Rattle.vlt_meaning_laws.specs.Machine.Got.{got}
use Rattle.vlt_trace_worlds.specs.View.{value_view, frame_view, world_view}
use Rattle.vlt_trace_worlds.specs.declared.stops.Halt.TheVariants.{Memory}
use Rattle.vlt_trace_steps.proofs.Leading.{err_is, ok_found}
use Rattle.vlt_trace_steps.proofs.Taking.{finds_then, found_then, no_memory_gives}
use Rattle.vlt_trace_steps.proofs.values.take_var.Goals as goal

pub returns-in_err-a : goal.returns-in_err-a
returns-in_err-a c =
    finds_then value_view c.copy_of.result c.in_err-a.field-0.0 _ _ (frame_view c.args.frame.now) (frame_view c.args.frame.now) (world_view c.args.world.now) c.from_residual.result value_view
    (err_is c.from_residual.result _ c.from_residual.ensures.1) c.in_err-a.was (rw c.var.ensures at c.copy_of.ensures)

pub returns-in_err-set_var : goal.returns-in_err-set_var
returns-in_err-set_var c = no_memory_gives value_view _ _ _ _ (err_is c.from_residual-in_err-set_var.result Memory c.from_residual-in_err-set_var.ensures.1)

pub returns : goal.returns
returns c =
    found_then (or_fault m.no_value ((frame_view c.args.frame.now).vars c.args.v.0)) (value_view c.in_ok-a.a) _ (frame_view c.args.frame.now) (world_view c.args.world.now)
    (ok_found value_view c.copy_of.result c.in_ok-a.a _ c.in_ok-a.was (rw c.var.ensures at c.copy_of.ensures))
    ∙ ap (λ f. got (value_view c.in_ok-a.a) f (world_view c.args.world.now)) (sym c.in_ok-set_var.ensures)
