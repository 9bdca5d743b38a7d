use Rattle.std.proofs.Common.{rules, ◌≡◌, ◌∷◌, ◌-◌, true, false, Some, None, Ok, Err, refl, ap, subst, arith}
use Rattle.vlt_ops.specs.Operator.{is_true}
use Rattle.vlt_core.specs.View.{expr_of, block_of}
use Rattle.vlt_meaning.specs.Values.{number_of}
use Rattle.vlt_meaning.specs.Step.{goes}
use Rattle.vlt_meaning_laws.specs.Machine.Machine as m
use Rattle.vlt_meaning_laws.specs.Machine.Machine.{at, enter_block}
use Rattle.vlt_acts.specs.Values.Shown.{IsNumber}
use Rattle.vlt_acts.proofs.OfHosts.Writing.{silent}
use Rattle.vlt_steps.specs.declared.stop.Stop.TheVariants.{Trap}
use Rattle.vlt_interp.specs.declared.tasks.task.Task.TheVariants.{Turn}
use Rattle.vlt_interp.proofs.OfTasks.Staying.{going, keeps_all, keeps_on}
use Rattle.vlt_interp.proofs.OfTasks.Pushing.{put_shown}
use Rattle.vlt_interp.proofs.OfTasks.Coming.{number_came, trapped_came}
use Rattle.vlt_interp.proofs.OfStatements.Entering.{if_came, number_here, spent_shown, turn_ends, turn_goes, keeps_still}
use Rattle.vlt_interp.proofs.statements.blocks.turn_on.Goals as goal

pub returns-then-run-eq0 : goal.returns-then-run-eq0
returns-then-run-eq0 c = λ s b. record {
  keeps = keeps_all c.args.run.now c.requires.can.can.ready.room.heap;
  comes = λ f ts frame w q. turn_ends s (expr_of c.args.e.now) (block_of c.args.body.now) w b c.args.run.now f ts frame (going q.items c.args.run.now f c.args.run.now.at frame w q.step).runs.fuel c.if-run-eq0.true;
}

pub returns-then-z-ne0 : goal.returns-then-z-ne0
returns-then-z-ne0 c =
    let t : is_true c.in-Ok.z ≡ true = search rules in
    let less = record c.args.run.now { fuel = c.args.run.now.fuel - 1 } in
    let more = record less { tasks = c.put.new.items } in
    λ s b. record {
      keeps = keeps_on c.args.run.now more c.enter_block.new.run (keeps_still c.args.run.now more c.requires.can.can.ready.room.heap refl refl refl c.put.ensures.room) (c.enter_block.ensures s b).keeps;
      comes = λ f ts frame w q.
          let v = record w { fuel = w.fuel - 1 } in
          let shown = spent_shown c.args.run.now less refl f ts frame w q in
          turn_goes s (expr_of c.args.e.now) (block_of c.args.body.now) w b c.enter_block.new.run f ts frame None c.args.run.now.fuel (going q.items c.args.run.now f c.args.run.now.at frame w q.step).runs.fuel (omega (arith, c.if-run-eq0.false))
          (number_came v b c.enter_block.new.run f ts c.in-Ok.z None (number_of s.program f (expr_of c.args.e.now) frame w.objects) _
          (number_here s (expr_of c.args.e.now) less (Ok c.in-Ok.z) (λ k. subst (λ x. IsNumber x (number_of k.program k.func (expr_of c.args.e.now) k.frame k.objects)) c.in-Ok.is (c.number.ensures k)) f ts frame v shown)
          (if_came v b None c.enter_block.new.run (is_true c.in-Ok.z) true (enter_block f (block_of c.args.body.now) (m.turn (expr_of c.args.e.now) (block_of c.args.body.now) ∷ ts) frame v) (at f ts (goes frame v)) t
          ((c.enter_block.ensures s b).comes f (m.turn (expr_of c.args.e.now) (block_of c.args.body.now) ∷ ts) frame v
          (put_shown less more refl (Turn c.args.e c.args.body) f ts (m.turn (expr_of c.args.e.now) (block_of c.args.body.now) ∷ ts) (goes frame v) c.put.ensures.items shown (record { condition = refl; body = refl }, shown.shown)))));
    }

pub returns-else-z-ne0 : goal.returns-else-z-ne0
returns-else-z-ne0 c =
    let t : is_true c.in-Ok.z ≡ false = search rules in
    let less = record c.args.run.now { fuel = c.args.run.now.fuel - 1 } in
    λ s b. record {
      keeps = keeps_still c.args.run.now less c.requires.can.can.ready.room.heap refl refl refl (omega arith);
      comes = λ f ts frame w q.
          let v = record w { fuel = w.fuel - 1 } in
          let shown = spent_shown c.args.run.now less refl f ts frame w q in
          turn_goes s (expr_of c.args.e.now) (block_of c.args.body.now) w b less f ts frame None c.args.run.now.fuel (going q.items c.args.run.now f c.args.run.now.at frame w q.step).runs.fuel (omega (arith, c.if-run-eq0.false))
          (number_came v b less f ts c.in-Ok.z None (number_of s.program f (expr_of c.args.e.now) frame w.objects) _
          (number_here s (expr_of c.args.e.now) less (Ok c.in-Ok.z) (λ k. subst (λ x. IsNumber x (number_of k.program k.func (expr_of c.args.e.now) k.frame k.objects)) c.in-Ok.is (c.number.ensures k)) f ts frame v shown)
          (if_came v b None less (is_true c.in-Ok.z) false (enter_block f (block_of c.args.body.now) (m.turn (expr_of c.args.e.now) (block_of c.args.body.now) ∷ ts) frame v) (at f ts (goes frame v)) t
          (record { shown = shown; wrote = silent v v b refl })));
    }

pub returns-in-Err : goal.returns-in-Err
returns-in-Err c =
    let less = record c.args.run.now { fuel = c.args.run.now.fuel - 1 } in
    λ s b. record {
      keeps = keeps_still c.args.run.now less c.requires.can.can.ready.room.heap refl refl refl (omega arith);
      comes = λ f ts frame w q.
          let v = record w { fuel = w.fuel - 1 } in
          let shown = spent_shown c.args.run.now less refl f ts frame w q in
          let spent = (going q.items c.args.run.now f c.args.run.now.at frame w q.step).runs.fuel in
          turn_goes s (expr_of c.args.e.now) (block_of c.args.body.now) w b less f ts frame (Some (Trap c.in-Err.trap)) c.args.run.now.fuel spent (omega (arith, c.if-run-eq0.false))
          (trapped_came v b less f ts c.in-Err.trap (number_of s.program f (expr_of c.args.e.now) frame w.objects) _ (ap (λ n. n - 1) spent)
          (number_here s (expr_of c.args.e.now) less (Err c.in-Err.trap) (λ k. subst (λ x. IsNumber x (number_of k.program k.func (expr_of c.args.e.now) k.frame k.objects)) c.in-Err.is (c.number.ensures k)) f ts frame v shown));
    }
