use Rattle.std.proofs.Common.{None, sym, ap, ◌∙◌}
use Rattle.std.specs.Option.{option_copied}
use Rattle.vlt_meaning.specs.World as m
use Rattle.vlt_meaning.specs.World.{objects_in}
use Rattle.vlt_meaning.specs.Step.{Step, goes, with_var, with_dropped}
use Rattle.vlt_trace_worlds.specs.View.{value_view, frame_view, world_view}
use Rattle.vlt_trace_worlds.specs.Running.{program_in}
use Rattle.vlt_trace_worlds.specs.declared.stops.Halt.TheVariants.{Memory}
use Rattle.vlt_trace_steps.proofs.Leading.{err_is, no_memory, same_goes, some_found, hands_ok, hands_err}
use Rattle.vlt_trace_steps.proofs.owned.drop_value.Goals as goal

pub returns-in_err-ns : goal.returns-in_err-ns
returns-in_err-ns c = λ heap depth. no_memory _ _ _ _ (err_is c.from_residual.result Memory c.from_residual.ensures.1)

pub returns-in_err-drop_all : goal.returns-in_err-drop_all
returns-in_err-drop_all c = λ heap depth.
    let p = program_in c.args.at.now in
    let fr = frame_view c.args.frame.now in
    let w = world_view c.args.world.now in
    let v = world_view c.drop_all.new.world in
    let a = c.in-Some.a.now in
    let go : m.World → Step = goes (with_var c.args.v.0 None fr) in
    same_goes _ _ c.from_residual-in_err-drop_all.result fr v
    (some_found value_view m.no_value (option_copied c.var.result) a _ w (λ a. with_dropped p (objects_in a) w go) (ap option_copied c.in-Some.is) c.var.ensures
    ∙ ap (λ ns. with_dropped p ns w go) (sym (c.as_slice.ensures ∙ c.in_ok-ns.ensures)))
    (hands_err _ c.drop_all.result c.in_err-drop_all.field-0.0 _ v c.from_residual-in_err-drop_all.result fr
    (err_is c.from_residual-in_err-drop_all.result _ c.from_residual-in_err-drop_all.ensures.1) c.in_err-drop_all.was (c.drop_all.ensures go))

pub returns-in_err-set_var : goal.returns-in_err-set_var
returns-in_err-set_var c = λ heap depth. no_memory _ _ _ _ (err_is c.from_residual-in_err-set_var.result Memory c.from_residual-in_err-set_var.ensures.1)

pub returns : goal.returns
returns c = λ heap depth.
    let p = program_in c.args.at.now in
    let fr = frame_view c.args.frame.now in
    let w = world_view c.args.world.now in
    let v = world_view c.drop_all.new.world in
    let a = c.in-Some.a.now in
    let go : m.World → Step = goes (with_var c.args.v.0 None fr) in
    some_found value_view m.no_value (option_copied c.var.result) a _ w (λ a. with_dropped p (objects_in a) w go) (ap option_copied c.in-Some.is) c.var.ensures
    ∙ (ap (λ ns. with_dropped p ns w go) (sym (c.as_slice.ensures ∙ c.in_ok-ns.ensures))
    ∙ (hands_ok _ c.drop_all.result c.in_ok-drop_all.field-0 _ v c.in_ok-drop_all.was (c.drop_all.ensures go)
    ∙ ap (λ f. goes f v) (sym c.in_ok-set_var.ensures)))
