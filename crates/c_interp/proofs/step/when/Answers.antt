use Rattle.std.proofs.Common.{rules, ◌≡◌, suc, ◌+◌, true, false, None, refl, ap, sym, ◌∙◌, arith, SFits, w64}
use Rattle.std.proofs.lemmas.Int.{to_z-of_z}
use Rattle.vlt_ops.specs.Operator as operator
use Rattle.c_syntax.specs.View.{expr_of}
use Rattle.c_meaning.specs.Run as run
use Rattle.c_machine.specs.Machine as m
use Rattle.c_interp.specs.Shown.{state_of, CameTo}
use Rattle.c_interp.proofs.Entering.{keeps_room}
use Rattle.c_interp.proofs.CallLaws.{stops_here}
use Rattle.c_interp.proofs.StepLaws.{found_ok, found_err, chosen, goes_here, list_pushed}
use Rattle.c_interp.proofs.step.when.Goals as goal

pub returns-then-is_true : goal.returns-then-is_true
returns-then-is_true c = let fits : SFits w64 c.in-Ok.z = search rules in λ r b. record {
  ready = c.requires.ready;
  world = keeps_room c.args.world.now;
  tasks = omega (arith, c.put.ensures.room);
  slots = omega arith;
  comes = λ things w h made. found_ok c.args.n (run.condition (expr_of c.args.e.now) (m.frame_in (state_of c.args.frames.now w)) w) (state_of c.args.frames.now w) _ (λ x. CameTo w b b None c.put.new.items.items c.args.frames.now c.args.world.now x) c.in-Ok.z (sym (c.condition.ensures things w h made) ∙ c.in-Ok.is)
      (chosen (λ x. CameTo w b b None c.put.new.items.items c.args.frames.now c.args.world.now x) (operator.is_true c.in-Ok.z) true _ _ (sym (c.is_true.ensures ∙ ap operator.is_true (to_z-of_z w64 c.in-Ok.z fits)) ∙ c.if-is_true.true) (goes_here things c.args.world.now w b c.args.frames.now c.put.new.items.items _ h made (list_pushed c.args.tasks.now.items c.put.new.items.items (c.args.n + 1) (suc c.args.n) c.args.xs c.put.ensures.items (let e : suc c.args.n ≡ c.args.n + 1 = omega arith in e))));
}

pub returns-else-is_true : goal.returns-else-is_true
returns-else-is_true c = let fits : SFits w64 c.in-Ok.z = search rules in λ r b. record {
  ready = c.requires.ready;
  world = keeps_room c.args.world.now;
  tasks = omega arith;
  slots = omega arith;
  comes = λ things w h made. found_ok c.args.n (run.condition (expr_of c.args.e.now) (m.frame_in (state_of c.args.frames.now w)) w) (state_of c.args.frames.now w) _ (λ x. CameTo w b b None c.args.tasks.now.items c.args.frames.now c.args.world.now x) c.in-Ok.z (sym (c.condition.ensures things w h made) ∙ c.in-Ok.is)
      (chosen (λ x. CameTo w b b None c.args.tasks.now.items c.args.frames.now c.args.world.now x) (operator.is_true c.in-Ok.z) false _ _ (sym (c.is_true.ensures ∙ ap operator.is_true (to_z-of_z w64 c.in-Ok.z fits)) ∙ c.if-is_true.false) (goes_here things c.args.world.now w b c.args.frames.now c.args.tasks.now.items _ h made refl));
}

pub returns-in-Err : goal.returns-in-Err
returns-in-Err c = λ r b. record {
  ready = c.requires.ready;
  world = keeps_room c.args.world.now;
  tasks = omega arith;
  slots = omega arith;
  comes = λ things w h made. found_err c.args.n (run.condition (expr_of c.args.e.now) (m.frame_in (state_of c.args.frames.now w)) w) (state_of c.args.frames.now w) _ (λ x. CameTo w b b c.broken.result c.args.tasks.now.items c.args.frames.now c.args.world.now x) c.in-Err.rule (sym (c.condition.ensures things w h made) ∙ c.in-Err.is)
      (stops_here things c.args.world.now w b c.broken.result c.args.tasks.now.items c.args.frames.now c.in-Err.rule c.args.n h c.broken.ensures);
}
