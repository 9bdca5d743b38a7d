use Rattle.std.proofs.Common.{rules, Some, sym, ap, ◌∙◌, SFits, w64}
use Rattle.std.proofs.lemmas.Int.{to_z-of_z}
use Rattle.vlt_meaning.specs.World as m
use Rattle.vlt_meaning.specs.Step.{goes, with_var}
use Rattle.vlt_trace_worlds.specs.View.{frame_view, world_view}
use Rattle.vlt_trace_worlds.specs.declared.stops.Halt.TheVariants.{Memory}
use Rattle.vlt_trace_steps.proofs.Leading.{err_is, no_memory, hands_ok, hands_err}
use Rattle.vlt_trace_steps.proofs.plain.input.Goals as goal

pub returns-in_err-z : goal.returns-in_err-z
returns-in_err-z c = λ at heap depth.
    hands_err _ c.read.result c.in_err-z.field-0.0 _ (world_view c.read.new.world) c.from_residual.result (frame_view c.args.frame.now)
    (err_is c.from_residual.result _ c.from_residual.ensures.1) c.in_err-z.was (c.read.ensures (λ z w. goes (with_var c.args.v.0 (Some (m.one (m.number z))) (frame_view c.args.frame.now)) w))

pub returns-in_err-set_var : goal.returns-in_err-set_var
returns-in_err-set_var c = λ at heap depth. no_memory _ _ _ _ (err_is c.from_residual-in_err-set_var.result Memory c.from_residual-in_err-set_var.ensures.1)

pub returns : goal.returns
returns c = λ at heap depth.
    let z = c.in_ok-z.z in
    let fits : SFits w64 z = search rules in
    hands_ok _ c.read.result c.in_ok-z.z _ (world_view c.read.new.world) c.in_ok-z.was (c.read.ensures (λ z w. goes (with_var c.args.v.0 (Some (m.one (m.number z))) (frame_view c.args.frame.now)) w))
    ∙ (ap (λ y. goes (with_var c.args.v.0 (Some (m.one (m.number y))) (frame_view c.args.frame.now)) (world_view c.read.new.world)) (sym (to_z-of_z w64 z fits))
    ∙ ap (λ f. goes f (world_view c.read.new.world)) (sym c.in_ok-set_var.ensures))
