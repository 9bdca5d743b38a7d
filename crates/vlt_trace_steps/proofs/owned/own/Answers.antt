use Rattle.std.proofs.Common.{◌∙◌}
use Rattle.vlt_core.specs.View.{operand_of}
use Rattle.vlt_meaning.specs.Step.{fill}
use Rattle.vlt_meaning_laws.specs.Machine.Got.{operand_got}
use Rattle.vlt_meaning_laws.proofs.OfMachine.Gots.{operand_step}
use Rattle.vlt_trace_worlds.specs.View.{value_view, frame_view, world_view}
use Rattle.vlt_trace_worlds.specs.Running.{program_in, func_in}
use Rattle.vlt_trace_steps.proofs.Leading.{err_is, same_goes, gives_ok, gives_err}
use Rattle.vlt_trace_steps.proofs.owned.own.Goals as goal

pub returns-in_err-a : goal.returns-in_err-a
returns-in_err-a c = λ heap depth.
    let p = program_in c.args.at.now in
    let f = func_in c.args.at.now in
    let o = operand_of c.args.o.now in
    let fr = frame_view c.args.frame.now in
    let w = world_view c.args.world.now in
    let next = frame_view c.operand.new.frame in
    let v = world_view c.operand.new.world in
    same_goes _ _ c.from_residual.result next v (operand_step p f o fr w (λ a frame w. fill f c.args.v.0 a frame w))
    (gives_err value_view c.operand.result c.in_err-a.field-0.0 (operand_got p f o fr w) next v (λ a frame w. fill f c.args.v.0 a frame w) c.from_residual.result next
    (err_is c.from_residual.result _ c.from_residual.ensures.1) c.in_err-a.was c.operand.ensures)

pub returns : goal.returns
returns c = λ heap depth.
    let p = program_in c.args.at.now in
    let f = func_in c.args.at.now in
    let o = operand_of c.args.o.now in
    let fr = frame_view c.args.frame.now in
    let w = world_view c.args.world.now in
    let mid = frame_view c.operand.new.frame in
    let v = world_view c.operand.new.world in
    let next = frame_view c.fill.new.frame in
    same_goes _ _ c.fill.result next v
    (operand_step p f o fr w (λ a frame w. fill f c.args.v.0 a frame w)
    ∙ gives_ok value_view c.operand.result c.in_ok-a.a (operand_got p f o fr w) mid v (λ a frame w. fill f c.args.v.0 a frame w) c.in_ok-a.was c.operand.ensures)
    (c.fill.ensures v)
