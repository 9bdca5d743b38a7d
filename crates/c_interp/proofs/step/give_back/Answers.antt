use Rattle.std.proofs.Common.{refl, subst, arith}
use Rattle.c_syntax.specs.View.{expr_of}
use Rattle.c_meaning.specs.Values.{value_of}
use Rattle.c_machine.specs.Machine as m
use Rattle.c_memory.specs.Shown.{blocks_of}
use Rattle.c_values.specs.Shown.{IsValue, value_view}
use Rattle.c_interp.specs.Shown.{state_of, CameTo}
use Rattle.c_interp.proofs.Setting.{vars_are, made_drop}
use Rattle.c_interp.proofs.Plain.{plain_came}
use Rattle.c_primitives.proofs.Coming.{silent}
use Rattle.c_interp.proofs.Entering.{keeps_room}
use Rattle.c_interp.proofs.CallLaws.{stops_here}
use Rattle.c_interp.proofs.StepLaws.{found_ok, found_err, value_ok, value_err}
use Rattle.c_interp.proofs.step.give_back.Goals as goal

pub returns-in-Ok : goal.returns-in-Ok
returns-in-Ok c = λ b. record {
  ready = c.requires.ready;
  world = keeps_room c.args.world.now;
  tasks = c.leave.ensures.room;
  slots = c.leave.ensures.kept.room;
  comes = λ things w h made.
      let value = value_ok things c.args.world.now w c.args.frames.now (expr_of c.args.e.now) c.eval.result c.in-Ok.a h c.in-Ok.is (subst (λ v. IsValue things c.eval.result (value_of (expr_of c.args.e.now) v (blocks_of c.args.world.now.blocks things))) (vars_are c.args.frames.now c.vars.result w c.vars.ensures.names c.vars.ensures.values) (c.eval.ensures things h.holds (made_drop things c.args.frames.now.values.items c.vars.result.values.now c.args.frames.now.base c.vars.ensures.values made))) in
      found_ok c.args.n (value_of (expr_of c.args.e.now) (m.vars_in (state_of c.args.frames.now w)) w.blocks) (state_of c.args.frames.now w) _ (λ x. CameTo w b b c.leave.result c.leave.new.tasks.items c.leave.new.frames c.args.world.now x) (value_view c.in-Ok.a) value.0
      (plain_came w w b b c.leave.new.tasks.items c.leave.new.frames c.args.world.now things c.leave.result _ h (c.leave.ensures.kept.made things value.1 made) (silent w w b refl) (c.leave.ensures.comes w));
}

pub returns-in-Err : goal.returns-in-Err
returns-in-Err c = λ b. record {
  ready = c.requires.ready;
  world = keeps_room c.args.world.now;
  tasks = omega arith;
  slots = omega arith;
  comes = λ things w h made. found_err c.args.n (value_of (expr_of c.args.e.now) (m.vars_in (state_of c.args.frames.now w)) w.blocks) (state_of c.args.frames.now w) _ (λ x. CameTo w b b c.broken.result c.args.tasks.now.items c.args.frames.now c.args.world.now x) c.in-Err.rule
      (value_err things c.args.world.now w c.args.frames.now (expr_of c.args.e.now) c.eval.result c.in-Err.rule h c.in-Err.is (subst (λ v. IsValue things c.eval.result (value_of (expr_of c.args.e.now) v (blocks_of c.args.world.now.blocks things))) (vars_are c.args.frames.now c.vars.result w c.vars.ensures.names c.vars.ensures.values) (c.eval.ensures things h.holds (made_drop things c.args.frames.now.values.items c.vars.result.values.now c.args.frames.now.base c.vars.ensures.values made))))
      (stops_here things c.args.world.now w b c.broken.result c.args.tasks.now.items c.args.frames.now c.in-Err.rule c.args.n h c.broken.ensures);
}
