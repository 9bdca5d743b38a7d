use Rattle.std.proofs.Common.{◌+◌, ◌<◌, drop, length, map, ap, ◌∙◌, arith}
use Rattle.vlt_core.specs.View.{operand_of}
use Rattle.vlt_meaning_laws.specs.Machine.Got.{then_got, operand_got, operands_got}
use Rattle.vlt_trace_worlds.specs.View.{value_view, frame_view, world_view}
use Rattle.vlt_trace_worlds.specs.Running.{program_in, func_in}
use Rattle.vlt_trace_worlds.specs.declared.stops.Halt.TheVariants.{Memory}
use Rattle.vlt_trace_steps.proofs.Leading.{err_is}
use Rattle.vlt_trace_steps.proofs.Loops.{split_at, none_left, map_push}
use Rattle.vlt_trace_steps.proofs.Taking.{after, no_operand, next_taken, taking_halts, all_taken, no_memory_gives, given_got}
use Rattle.vlt_trace_steps.proofs.values.operands.Goals as goal

pub loop-o-init : goal.loop-o-init
loop-o-init c =
    let p = program_in c.args.at.now in
    let f = func_in c.args.at.now in
    let os = map operand_of c.args.os.now in
    let fr = frame_view c.args.frame.now in
    let w = world_view c.args.world.now in
    ap (λ l. then_got (operands_got p f os fr w) (after (map value_view l))) c.new-values.ensures ∙ no_operand p f os fr w

pub loop-o-preserved : goal.loop-o-preserved
loop-o-preserved c =
    let p = program_in c.args.at.now in
    let f = func_in c.args.at.now in
    let os = c.args.os.now in
    let i = c.loop-o.o-index in
    let o = operand_of c.o-item.result in
    let fr = frame_view c.loop-o.frame in
    let w = world_view c.loop-o.world in
    let next = frame_view c.operand.new.frame in
    let v = world_view c.operand.new.world in
    let lt : i < length os = omega arith in
    next_taken p f (map operand_of (drop i os)) (map operand_of (drop (i + 1) os)) o fr next w v (map value_view c.loop-o.values) (map value_view c.push.new.self) (value_view c.in_ok-a.a) _
    (ap (map operand_of) (split_at os i c.o-item.result lt c.o-item.is))
    (given_got value_view c.operand.result c.in_ok-a.a (operand_got p f o fr w) next v c.in_ok-a.was c.operand.ensures)
    (ap (map value_view) c.in_ok-push.ensures.ok ∙ map_push value_view c.loop-o.values c.in_ok-a.a) c.loop-o.invariant

pub returns-in_err-a : goal.returns-in_err-a
returns-in_err-a c =
    let p = program_in c.args.at.now in
    let f = func_in c.args.at.now in
    let os = c.args.os.now in
    let i = c.loop-o.o-index in
    let o = operand_of c.o-item.result in
    let lt : i < length os = omega arith in
    taking_halts p f (map operand_of (drop i os)) (map operand_of (drop (i + 1) os)) o (frame_view c.loop-o.frame) (frame_view c.operand.new.frame) (world_view c.loop-o.world) (world_view c.operand.new.world) (map value_view c.loop-o.values) _
    value_view (map value_view) c.operand.result c.in_err-a.field-0.0 c.from_residual.result
    (ap (map operand_of) (split_at os i c.o-item.result lt c.o-item.is)) (err_is c.from_residual.result _ c.from_residual.ensures.1) c.in_err-a.was c.operand.ensures c.loop-o.invariant

pub returns-in_err-push : goal.returns-in_err-push
returns-in_err-push c = no_memory_gives (map value_view) _ c.from_residual-in_err-push.result _ _ (err_is c.from_residual-in_err-push.result Memory c.from_residual-in_err-push.ensures.1)

pub returns : goal.returns
returns c =
    let p = program_in c.args.at.now in
    let f = func_in c.args.at.now in
    let os = c.args.os.now in
    let i = c.loop-o.o-index in
    all_taken p f (map operand_of (drop i os)) (frame_view c.loop-o.frame) (world_view c.loop-o.world) (map value_view c.loop-o.values) _
    (ap (map operand_of) (none_left os i (omega arith))) c.loop-o.invariant
