use Rattle.std.proofs.Common.{rules, map, length, Some, refl, ap, sym, ◌∙◌, arith}
use Rattle.std.proofs.lemmas.List.{length-append, length-map}
use Rattle.c_syntax.specs.View.{arg_of, program_of}
use Rattle.c_meaning.specs.Run.{function_of}
use Rattle.c_machine.specs.Machine.{frame_in}
use Rattle.c_values.specs.Shown.{value_view}
use Rattle.c_interp.specs.declared.stop.CStop.TheVariants.{Undefined}
use Rattle.c_interp.specs.Shown.{setup_of, state_of, tasks_of, CameTo}
use Rattle.c_interp.proofs.Pushing.{some_world}
use Rattle.c_interp.proofs.Entering.{keeps_room}
use Rattle.c_interp.proofs.CallLaws.{stops_here, call_none, call_bad, call_err, call_ok, callee_room}
use Rattle.c_interp.proofs.calls.call.Goals as goal

pub returns-in_default : goal.returns-in_default
returns-in_default c = λ b. record {
  ready = c.requires.room.ready;
  world = keeps_room c.args.world.now;
  tasks = omega arith;
  slots = omega arith;
  comes = λ things w h made. call_none (setup_of c.args.rules.now) c.args.n c.args.target c.args.name.glue (map arg_of c.args.args.now) (tasks_of c.args.tasks.now.items) (state_of c.args.frames.now w)
      (λ x. CameTo w b b c.no_value.result c.args.tasks.now.items c.args.frames.now c.args.world.now x) (function_of (program_of c.args.rules.now.program.now) c.args.name) c.in_default.ensures
      (stops_here things c.args.world.now w b c.no_value.result c.args.tasks.now.items c.args.frames.now 6 c.args.n h c.no_value.ensures);
}

pub returns-then-not-can_call : goal.returns-then-not-can_call
returns-then-not-can_call c = λ b. record {
  ready = c.requires.room.ready;
  world = keeps_room c.args.world.now;
  tasks = omega arith;
  slots = omega arith;
  comes = λ things w h made. call_bad (setup_of c.args.rules.now) c.args.n c.args.target c.args.name.glue (map arg_of c.args.args.now) (tasks_of c.args.tasks.now.items) (state_of c.args.frames.now w)
      (λ x. CameTo w b b c.no_value-then-not-can_call.result c.args.tasks.now.items c.args.frames.now c.args.world.now x) c.in-Some.found (function_of (program_of c.args.rules.now.program.now) c.args.name) c.in-Some.ensures
      (sym (c.can_call.ensures (frame_in (state_of c.args.frames.now w)) refl) ∙ c.if-not-can_call.true)
      (stops_here things c.args.world.now w b c.no_value-then-not-can_call.result c.args.tasks.now.items c.args.frames.now 6 c.args.n h c.no_value-then-not-can_call.ensures);
}

pub push_args-requires-clause-room : goal.push_args-requires-clause-room
push_args-requires-clause-room c =
    let k = callee_room (program_of c.args.rules.now.program.now) c.args.name c.in-Some.found (map arg_of c.args.args.now) (frame_in (state_of c.args.frames.now some_world)) c.in-Some.ensures (sym (c.can_call.ensures (frame_in (state_of c.args.frames.now some_world)) refl) ∙ c.if-not-can_call.false) in
    let l = length-map c.args.args.now arg_of in
    omega (arith, k, l, c.requires.room.slots)

pub enter-requires-clause-room : goal.enter-requires-clause-room
enter-requires-clause-room c =
    let k = callee_room (program_of c.args.rules.now.program.now) c.args.name c.in-Some.found (map arg_of c.args.args.now) (frame_in (state_of c.args.frames.now some_world)) c.in-Some.ensures (sym (c.can_call.ensures (frame_in (state_of c.args.frames.now some_world)) refl) ∙ c.if-not-can_call.false) in
    let given = c.in-Ok.ensures.pushed in
    let a = ap length given.pushed.items in
    let d = length-append c.args.frames.now.values.items (map Some given.values) in
    let e = length-map given.values Some in
    let n = given.count in
    omega (arith, k, a, d, e, n, given.pushed.room, c.requires.room.slots)

pub returns-in-Ok : goal.returns-in-Ok
returns-in-Ok c = λ b.
    let given = c.in-Ok.ensures.pushed in
    let came = c.enter.ensures c.args.frames.now given.values b given.pushed (search rules) in
    record {
      ready = came.ready;
      world = came.world;
      tasks = came.tasks;
      slots = came.slots;
      comes = λ things w h made. call_ok (setup_of c.args.rules.now) c.args.n c.args.target c.args.name.glue (map arg_of c.args.args.now) (tasks_of c.args.tasks.now.items) (state_of c.args.frames.now w)
          (λ x. CameTo w b b c.enter.result c.enter.new.tasks.items c.enter.new.frames c.enter.new.world x) c.in-Some.found (function_of (program_of c.args.rules.now.program.now) c.args.name) (map value_view given.values) c.in-Some.ensures
          (sym (c.can_call.ensures (frame_in (state_of c.args.frames.now w)) refl) ∙ c.if-not-can_call.false) (given.are things made) (came.comes things w h made);
    }

pub returns-in-Err : goal.returns-in-Err
returns-in-Err c = λ b. record {
  ready = c.requires.room.ready;
  world = keeps_room c.args.world.now;
  tasks = omega arith;
  slots = c.push_args.ensures.room;
  comes = λ things w h made. call_err (setup_of c.args.rules.now) c.args.n c.args.target c.args.name.glue (map arg_of c.args.args.now) (tasks_of c.args.tasks.now.items) (state_of c.args.frames.now w)
      (λ x. CameTo w b b (Some (Undefined c.in-Err.rule c.args.n)) c.args.tasks.now.items c.push_args.new.frames c.args.world.now x) c.in-Some.found (function_of (program_of c.args.rules.now.program.now) c.args.name) c.in-Err.rule c.in-Some.ensures
      (sym (c.can_call.ensures (frame_in (state_of c.args.frames.now w)) refl) ∙ c.if-not-can_call.false) (c.in-Err.ensures.pushed things made)
      (stops_here things c.args.world.now w b (Some (Undefined c.in-Err.rule c.args.n)) c.args.tasks.now.items c.push_args.new.frames c.in-Err.rule c.args.n h refl);
}
