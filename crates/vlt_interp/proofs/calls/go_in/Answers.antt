use Rattle.std.proofs.Common.{arith}
use Rattle.std.specs.Option.{option_map}
use Rattle.vlt_core.specs.View.{func_of, keys_of}
use Rattle.vlt_steps.specs.Writing.{Outside}
use Rattle.vlt_interp.specs.Calls.Called.{calling_out, entering_body}
use Rattle.vlt_interp.proofs.OfCalls.Going.{no_fuel, goes_out, goes_in, spent_can, spent_does}
use Rattle.vlt_interp.proofs.calls.go_in.Goals as goal

pub returns-then-run-eq0 : goal.returns-then-run-eq0
returns-then-run-eq0 g c =
    no_fuel c.args.rules.now c.args.run.now (func_of c.args.callee.now) (option_map (λ v. v.0) c.args.target) (keys_of c.args.keys.now) (record { written = g.K.Sink.written c.args.sink.now; faults = g.K.Sink.faults c.args.sink.now }) c.if-run-eq0.true c.requires.can

pub call_out-requires-clause-can : goal.call_out-requires-clause-can
call_out-requires-clause-can g c =
    let target = option_map (λ v. v.0) c.args.target in
    let keys = keys_of c.args.keys.now in
    let callee = func_of c.args.callee.now in
    spent_can c.args.rules.now c.args.run.now callee target keys (calling_out target keys callee) (goes_out c.args.rules.now c.args.run.now callee target keys c.if-callee.true) (let l = c.if-run-eq0.false in omega (arith, l)) c.requires.can

pub enter_body-requires : goal.enter_body-requires
enter_body-requires g c = record {
  can =
      let target = option_map (λ v. v.0) c.args.target in
      let keys = keys_of c.args.keys.now in
      let callee = func_of c.args.callee.now in
      spent_can c.args.rules.now c.args.run.now callee target keys (entering_body target keys callee) (goes_in c.args.rules.now c.args.run.now callee target keys c.if-callee.false) (let l = c.if-run-eq0.false in omega (arith, l)) c.requires.can;
}

pub returns-then-callee : goal.returns-then-callee
returns-then-callee g c =
    let target = option_map (λ v. v.0) c.args.target in
    let keys = keys_of c.args.keys.now in
    let callee = func_of c.args.callee.now in
    spent_does c.args.rules.now c.args.run.now callee target keys (calling_out target keys callee) (goes_out c.args.rules.now c.args.run.now callee target keys c.if-callee.true) (let l = c.if-run-eq0.false in omega (arith, l)) c.call_out.new.run
    (record { written = g.K.Sink.written c.args.sink.now; faults = g.K.Sink.faults c.args.sink.now }) (record { written = g.K.Sink.written c.call_out.new.sink; faults = g.K.Sink.faults c.call_out.new.sink }) c.call_out.result c.call_out.ensures

pub returns-else-callee : goal.returns-else-callee
returns-else-callee g c =
    let target = option_map (λ v. v.0) c.args.target in
    let keys = keys_of c.args.keys.now in
    let callee = func_of c.args.callee.now in
    let b : Outside = record { written = g.K.Sink.written c.args.sink.now; faults = g.K.Sink.faults c.args.sink.now } in
    spent_does c.args.rules.now c.args.run.now callee target keys (entering_body target keys callee) (goes_in c.args.rules.now c.args.run.now callee target keys c.if-callee.false) (let l = c.if-run-eq0.false in omega (arith, l)) c.enter_body.new.run b b c.enter_body.result (c.enter_body.ensures b)
