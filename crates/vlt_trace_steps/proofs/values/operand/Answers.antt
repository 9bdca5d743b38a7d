use Rattle.std.proofs.Common.{sym, ap, subst, ◌∙◌}
use Rattle.vlt_core.specs.View.{operand_of, expr_of}
use Rattle.vlt_meaning.specs.World as m
use Rattle.vlt_meaning.specs.Values.{value_of}
use Rattle.vlt_meaning_laws.specs.Machine.Got.{got, operand_got}
use Rattle.vlt_trace_worlds.specs.View.{named_view, value_view, frame_view, world_view}
use Rattle.vlt_trace_worlds.specs.Running.{program_in, func_in}
use Rattle.vlt_trace_worlds.specs.Steps.{Gives}
use Rattle.vlt_trace_steps.proofs.Leading.{err_is, ok_stop}
use Rattle.vlt_trace_steps.proofs.Taking.{found_given, stop_then, found_then}
use Rattle.vlt_trace_steps.proofs.values.operand.Goals as goal

pub returns-in-Pure : goal.returns-in-Pure
returns-in-Pure c =
    let p = program_in c.args.at.now in
    let f = func_in c.args.at.now in
    let fr = frame_view c.args.frame.now in
    let w = world_view c.args.world.now in
    subst (λ o. Gives value_view (operand_got p f (operand_of o) fr w) c.value.result fr w) (sym c.in-Pure.is)
    (found_given value_view (value_of p f (expr_of c.in-Pure.e) fr w.objects) c.value.result fr w (rw c.deref.ensures.value at c.value.ensures))

pub returns-in-Move : goal.returns-in-Move
returns-in-Move c =
    let p = program_in c.args.at.now in
    let f = func_in c.args.at.now in
    subst (λ o. Gives value_view (operand_got p f (operand_of o) (frame_view c.args.frame.now) (world_view c.args.world.now)) c.take_var.result (frame_view c.take_var.new.frame) (world_view c.args.world.now)) (sym c.in-Move.is) c.take_var.ensures

pub returns-in_err-m-in-Pack : goal.returns-in_err-m-in-Pack
returns-in_err-m-in-Pack c =
    let p = program_in c.args.at.now in
    let f = func_in c.args.at.now in
    let fr = frame_view c.args.frame.now in
    let w = world_view c.args.world.now in
    subst (λ o. Gives value_view (operand_got p f (operand_of o) fr w) c.from_residual.result fr w) (sym c.in-Pack.is)
    (stop_then named_view c.object_of.result c.in_err-m-in-Pack.field-0.0 _ _ fr fr w c.from_residual.result value_view
    (err_is c.from_residual.result _ c.from_residual.ensures.1) c.in_err-m-in-Pack.was (rw c.deref-in-Pack.ensures.value at c.object_of.ensures))

pub returns-in_ok-m-in-Pack : goal.returns-in_ok-m-in-Pack
returns-in_ok-m-in-Pack c =
    let p = program_in c.args.at.now in
    let f = func_in c.args.at.now in
    let fr = frame_view c.args.frame.now in
    let w = world_view c.args.world.now in
    let o = c.in_ok-m-in-Pack.m in
    ap (λ o. operand_got p f (operand_of o) fr w) c.in-Pack.is
    ∙ (found_then _ (named_view o) _ fr w (ok_stop named_view c.object_of.result o _ c.in_ok-m-in-Pack.was (rw c.deref-in-Pack.ensures.value at c.object_of.ensures))
    ∙ ap (got (m.one (m.owned o.number)) fr) (sym c.set_owner.ensures))
