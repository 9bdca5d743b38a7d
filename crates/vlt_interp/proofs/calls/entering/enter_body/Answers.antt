use Rattle.std.proofs.Common.{◌+◌, ◌*◌, arith, refl, ap}
use Rattle.std.specs.Option.{option_map}
use Rattle.vlt_core.specs.View.{func_of, keys_of, stmts_of, program_of}
use Rattle.vlt_acts.proofs.OfFrames.Like.{like_back, running_like}
use Rattle.vlt_interp.proofs.Likeness.{own_func}
use Rattle.vlt_interp.proofs.OfCalls.Bodies.{too_deep, enters_body, body_room}
use Rattle.vlt_interp.proofs.calls.entering.enter_body.Goals as goal

pub returns-then-run-rules : goal.returns-then-run-rules
returns-then-run-rules c = λ b.
    too_deep c.args.rules.now c.args.run.now (func_of c.args.callee.now) (option_map (λ v. v.0) c.args.target) (keys_of c.args.keys.now) b (let l = c.if-run-rules.true in omega (arith, l)) c.requires.can.ready.room.heap

pub enter-waiting-requires-clause-params : goal.enter-waiting-requires-clause-params
enter-waiting-requires-clause-params c = (own_func (program_of c.args.rules.now.program.now) c.requires.can.ready.own (func_of c.args.callee.now) c.requires.can.ready.callee).params

pub enter-waiting-requires-clause-few : goal.enter-waiting-requires-clause-few
enter-waiting-requires-clause-few c = (own_func (program_of c.args.rules.now.program.now) c.requires.can.ready.own (func_of c.args.callee.now) c.requires.can.ready.callee).few

pub enter-waiting-requires-clause-room : goal.enter-waiting-requires-clause-room
enter-waiting-requires-clause-room c =
    let k = c.requires.can in
    body_room (program_of c.args.rules.now.program.now) (func_of c.args.callee.now) k.ready.callee c.args.rules.now.depth c.args.run.now k.ready.room (func_of c.args.run.now.func.now)
    (running_like c.args.run.now.values k.right.func (func_of c.args.run.now.func.now) (c.args.callee.now.params * c.args.run.now.values.width) (like_back (func_of c.args.run.now.func.now) k.right.func k.right.shown.func) k.right.shown.args_shown.running) k.ready.values

pub returns : goal.returns
returns c = λ b.
    enters_body c.args.rules.now c.args.run.now (record { func = c.args.callee; tasks = c.put-2.new.items; at = c.args.run.now.at; depth = c.args.run.now.depth + 1; fuel = c.args.run.now.fuel; values = c.enter-waiting.new.values; heap = c.args.run.now.heap; host = c.args.run.now.host }) (func_of c.args.callee.now) c.args.target (keys_of c.args.keys.now)
    c.enter-waiting.result c.as_slice.result c.put.new.items.items (record { first = c.put.ensures.items; last = c.put-2.ensures.items; going = refl; depth = refl; fuel = refl; heap = refl; host = refl })
    (record { below = c.enter-waiting.ensures.waits; base = c.enter-waiting.ensures.base; func = c.enter-waiting.ensures.func; target = c.enter-waiting.ensures.target; keys = ap keys_of c.enter-waiting.ensures.keys })
    c.enter-waiting.ensures.running c.enter-waiting.ensures.width c.enter-waiting.ensures.same refl (ap stmts_of c.as_slice.ensures) b (record {
      sound = c.requires.can.ready.room.heap;
      size = record { heap = refl; slots = refl };
      width = c.enter-waiting.ensures.width;
      values = c.enter-waiting.ensures.room;
      tasks = let m = c.put.ensures.room in let n = c.put-2.ensures.room in omega (arith, m, n);
      line = omega arith;
    }) (let l = c.if-run-rules.false in omega (arith, l)) c.enter-waiting.ensures.enters
