use Rattle.std.proofs.Common.{None, map, arith, ap, sym, ◌∙◌}
use Rattle.std.specs.Option.{option_map}
use Rattle.vlt_core.specs.Core as core
use Rattle.vlt_core.specs.View.{form_of, expr_of, block_of, arms_of, keys_of, operand_of}
use Rattle.vlt_core.proofs.Views.{call_form, if_form, while_form, switch_form, focus_form, scope_form, return_form, jump_form}
use Rattle.vlt_interp.specs.Going.{setup_in}
use Rattle.vlt_interp.proofs.Acting.{can_do, may_do, may_call, may_switch, does_acts, simple_acts, call_acts, scope_acts, jump_acts}
use Rattle.vlt_interp.proofs.moves.act.Goals as goal

pub choose-requires : goal.choose-requires
choose-requires g c = record { can = may_do c.args.rules.now c.args.run.now (form_of c.args.form.now) (core.choose (expr_of c.in-If.cond) (block_of c.in-If.then_block) (block_of c.in-If.else_block)) (if_form c.args.form.now c.in-If.cond c.in-If.then_block c.in-If.else_block c.in-If.is) c.requires.can }

pub returns-in-If : goal.returns-in-If
returns-in-If g c = does_acts c.args.rules.now c.args.run.now (form_of c.args.form.now) (core.choose (expr_of c.in-If.cond) (block_of c.in-If.then_block) (block_of c.in-If.else_block)) c.choose.new.run (record { written = g.K.Sink.written c.args.sink.now; faults = g.K.Sink.faults c.args.sink.now }) (record { written = g.K.Sink.written c.args.sink.now; faults = g.K.Sink.faults c.args.sink.now }) c.choose.result (if_form c.args.form.now c.in-If.cond c.in-If.then_block c.in-If.else_block c.in-If.is) (c.choose.ensures (setup_in c.args.rules.now c.args.run.now) (record { written = g.K.Sink.written c.args.sink.now; faults = g.K.Sink.faults c.args.sink.now }))

pub turn_on-requires : goal.turn_on-requires
turn_on-requires g c = record { can = may_do c.args.rules.now c.args.run.now (form_of c.args.form.now) (core.loop (expr_of c.in-While.cond) (block_of c.in-While.body)) (while_form c.args.form.now c.in-While.cond c.in-While.body c.in-While.is) c.requires.can }

pub returns-in-While : goal.returns-in-While
returns-in-While g c = does_acts c.args.rules.now c.args.run.now (form_of c.args.form.now) (core.loop (expr_of c.in-While.cond) (block_of c.in-While.body)) c.turn_on.new.run (record { written = g.K.Sink.written c.args.sink.now; faults = g.K.Sink.faults c.args.sink.now }) (record { written = g.K.Sink.written c.args.sink.now; faults = g.K.Sink.faults c.args.sink.now }) c.turn_on.result (while_form c.args.form.now c.in-While.cond c.in-While.body c.in-While.is) (c.turn_on.ensures (setup_in c.args.rules.now c.args.run.now) (record { written = g.K.Sink.written c.args.sink.now; faults = g.K.Sink.faults c.args.sink.now }))

pub focus_on-requires : goal.focus_on-requires
focus_on-requires g c = record { can = may_do c.args.rules.now c.args.run.now (form_of c.args.form.now) (core.focus c.in-Focus.y.0 c.in-Focus.z.0 (block_of c.in-Focus.body)) (focus_form c.args.form.now c.in-Focus.y c.in-Focus.z c.in-Focus.body c.in-Focus.is) c.requires.can }

pub returns-in-Focus : goal.returns-in-Focus
returns-in-Focus g c = does_acts c.args.rules.now c.args.run.now (form_of c.args.form.now) (core.focus c.in-Focus.y.0 c.in-Focus.z.0 (block_of c.in-Focus.body)) c.focus_on.new.run (record { written = g.K.Sink.written c.args.sink.now; faults = g.K.Sink.faults c.args.sink.now }) (record { written = g.K.Sink.written c.args.sink.now; faults = g.K.Sink.faults c.args.sink.now }) None (focus_form c.args.form.now c.in-Focus.y c.in-Focus.z c.in-Focus.body c.in-Focus.is) (c.focus_on.ensures (setup_in c.args.rules.now c.args.run.now) (record { written = g.K.Sink.written c.args.sink.now; faults = g.K.Sink.faults c.args.sink.now }))

pub give_back-requires : goal.give_back-requires
give_back-requires g c = record { can = may_do c.args.rules.now c.args.run.now (form_of c.args.form.now) (core.return (option_map operand_of c.in-Return.value)) (return_form c.args.form.now c.in-Return.value c.in-Return.is) c.requires.can }

pub returns-in-Return : goal.returns-in-Return
returns-in-Return g c = does_acts c.args.rules.now c.args.run.now (form_of c.args.form.now) (core.return (option_map operand_of c.in-Return.value)) c.give_back.new.run (record { written = g.K.Sink.written c.args.sink.now; faults = g.K.Sink.faults c.args.sink.now }) (record { written = g.K.Sink.written c.args.sink.now; faults = g.K.Sink.faults c.args.sink.now }) c.give_back.result (return_form c.args.form.now c.in-Return.value c.in-Return.is) (c.give_back.ensures (setup_in c.args.rules.now c.args.run.now) (record { written = g.K.Sink.written c.args.sink.now; faults = g.K.Sink.faults c.args.sink.now }))

pub switch_on-requires : goal.switch_on-requires
switch_on-requires g c = record { can = may_switch c.args.rules.now c.args.run.now (form_of c.args.form.now) c.in-Switch.v.0 (arms_of c.as_slice-in-Switch.result.now) c.in-Switch.end (switch_form c.args.form.now c.in-Switch.v c.in-Switch.arms c.in-Switch.end c.in-Switch.is ∙ ap (λ a. core.switch c.in-Switch.v.0 (arms_of a) c.in-Switch.end) (sym c.as_slice-in-Switch.ensures)) c.requires.can }

pub returns-in-Switch : goal.returns-in-Switch
returns-in-Switch g c = does_acts c.args.rules.now c.args.run.now (form_of c.args.form.now) (core.switch c.in-Switch.v.0 (arms_of c.as_slice-in-Switch.result.now) c.in-Switch.end) c.switch_on.new.run (record { written = g.K.Sink.written c.args.sink.now; faults = g.K.Sink.faults c.args.sink.now }) (record { written = g.K.Sink.written c.args.sink.now; faults = g.K.Sink.faults c.args.sink.now }) None (switch_form c.args.form.now c.in-Switch.v c.in-Switch.arms c.in-Switch.end c.in-Switch.is ∙ ap (λ a. core.switch c.in-Switch.v.0 (arms_of a) c.in-Switch.end) (sym c.as_slice-in-Switch.ensures)) (c.switch_on.ensures c.in-Switch.end (setup_in c.args.rules.now c.args.run.now) (record { written = g.K.Sink.written c.args.sink.now; faults = g.K.Sink.faults c.args.sink.now }))

pub enter_block-requires-clause-room : goal.enter_block-requires-clause-room
enter_block-requires-clause-room g c = omega (arith, c.requires.can.ready.tasks, c.requires.can.ready.room.tasks)

pub returns-in-Scope : goal.returns-in-Scope
returns-in-Scope g c = scope_acts c.args.rules.now c.args.run.now (form_of c.args.form.now) (block_of c.in-Scope.body) c.enter_block.new.run (record { written = g.K.Sink.written c.args.sink.now; faults = g.K.Sink.faults c.args.sink.now }) None (scope_form c.args.form.now c.in-Scope.body c.in-Scope.is) (c.enter_block.ensures (setup_in c.args.rules.now c.args.run.now) (record { written = g.K.Sink.written c.args.sink.now; faults = g.K.Sink.faults c.args.sink.now }))

pub returns-in-Jump : goal.returns-in-Jump
returns-in-Jump g c = jump_acts c.args.rules.now c.args.run.now (form_of c.args.form.now) c.in-Jump.continues (record { written = g.K.Sink.written c.args.sink.now; faults = g.K.Sink.faults c.args.sink.now }) (jump_form c.args.form.now c.in-Jump.continues c.in-Jump.is) c.requires.can

pub call-requires : goal.call-requires
call-requires g c = record { can = may_call c.args.rules.now c.args.run.now (form_of c.args.form.now) c.in-Call.f.0 (option_map (λ v. v.0) c.in-Call.target) (keys_of c.as_slice.result.now) (map operand_of c.as_slice-in-Call.result.now) (call_form c.args.form.now c.in-Call.f c.in-Call.target c.in-Call.keys c.in-Call.args c.in-Call.is ∙ ap (λ k. core.call c.in-Call.f.0 (option_map (λ v. v.0) c.in-Call.target) (keys_of k) (map operand_of c.in-Call.args)) (sym c.as_slice.ensures) ∙ ap (λ a. core.call c.in-Call.f.0 (option_map (λ v. v.0) c.in-Call.target) (keys_of c.as_slice.result.now) (map operand_of a)) (sym c.as_slice-in-Call.ensures)) c.requires.can }

pub returns-in-Call : goal.returns-in-Call
returns-in-Call g c = call_acts c.args.rules.now c.args.run.now (form_of c.args.form.now) (core.call c.in-Call.f.0 (option_map (λ v. v.0) c.in-Call.target) (keys_of c.as_slice.result.now) (map operand_of c.as_slice-in-Call.result.now)) c.call.new.run (record { written = g.K.Sink.written c.args.sink.now; faults = g.K.Sink.faults c.args.sink.now }) (record { written = g.K.Sink.written c.call.new.sink; faults = g.K.Sink.faults c.call.new.sink }) c.call.result (call_form c.args.form.now c.in-Call.f c.in-Call.target c.in-Call.keys c.in-Call.args c.in-Call.is ∙ ap (λ k. core.call c.in-Call.f.0 (option_map (λ v. v.0) c.in-Call.target) (keys_of k) (map operand_of c.in-Call.args)) (sym c.as_slice.ensures) ∙ ap (λ a. core.call c.in-Call.f.0 (option_map (λ v. v.0) c.in-Call.target) (keys_of c.as_slice.result.now) (map operand_of a)) (sym c.as_slice-in-Call.ensures)) c.call.ensures

pub do_simple-requires-clause-can : goal.do_simple-requires-clause-can
do_simple-requires-clause-can g c = can_do c.args.rules.now c.args.run.now (form_of c.args.form.now) c.requires.can

pub returns-in_default : goal.returns-in_default
returns-in_default g c = simple_acts c.args.rules.now c.args.run.now (form_of c.args.form.now) c.do_simple.new.run (record { written = g.K.Sink.written c.args.sink.now; faults = g.K.Sink.faults c.args.sink.now }) _ c.do_simple.result c.do_simple.ensures
