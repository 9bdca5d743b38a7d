use Rattle.std.proofs.Common.{rules, ◌≡◌, true, false, None, Ok, Err, subst}
use Rattle.vlt_ops.specs.Operator.{is_true}
use Rattle.vlt_core.specs.View.{expr_of, block_of}
use Rattle.vlt_meaning.specs.Values.{number_of}
use Rattle.vlt_meaning_laws.specs.Machine.Machine.{enter_block}
use Rattle.vlt_acts.specs.Values.Shown.{IsNumber}
use Rattle.vlt_interp.proofs.OfTasks.Staying.{going, keeps_all}
use Rattle.vlt_interp.proofs.OfTasks.Coming.{number_came, trapped_came}
use Rattle.vlt_interp.proofs.OfStatements.Entering.{if_came, number_here}
use Rattle.vlt_interp.proofs.statements.blocks.choose.Goals as goal

pub returns-then-z-ne0 : goal.returns-then-z-ne0
returns-then-z-ne0 c = let t : is_true c.in-Ok.z ≡ true = search rules in λ s b. record {
  keeps = (c.enter_block.ensures s b).keeps;
  comes = λ f ts frame w q. number_came w b c.enter_block.new.run f ts c.in-Ok.z None (number_of s.program f (expr_of c.args.e.now) frame w.objects) _
      (number_here s (expr_of c.args.e.now) c.args.run.now (Ok c.in-Ok.z) (λ k. subst (λ x. IsNumber x (number_of k.program k.func (expr_of c.args.e.now) k.frame k.objects)) c.in-Ok.is (c.number.ensures k)) f ts frame w q)
      (if_came w b None c.enter_block.new.run (is_true c.in-Ok.z) true (enter_block f (block_of c.args.then_block.now) ts frame w) (enter_block f (block_of c.args.else_block.now) ts frame w) t ((c.enter_block.ensures s b).comes f ts frame w q));
}

pub returns-else-z-ne0 : goal.returns-else-z-ne0
returns-else-z-ne0 c = let t : is_true c.in-Ok.z ≡ false = search rules in λ s b. record {
  keeps = (c.enter_block-else-z-ne0.ensures s b).keeps;
  comes = λ f ts frame w q. number_came w b c.enter_block-else-z-ne0.new.run f ts c.in-Ok.z None (number_of s.program f (expr_of c.args.e.now) frame w.objects) _
      (number_here s (expr_of c.args.e.now) c.args.run.now (Ok c.in-Ok.z) (λ k. subst (λ x. IsNumber x (number_of k.program k.func (expr_of c.args.e.now) k.frame k.objects)) c.in-Ok.is (c.number.ensures k)) f ts frame w q)
      (if_came w b None c.enter_block-else-z-ne0.new.run (is_true c.in-Ok.z) false (enter_block f (block_of c.args.then_block.now) ts frame w) (enter_block f (block_of c.args.else_block.now) ts frame w) t ((c.enter_block-else-z-ne0.ensures s b).comes f ts frame w q));
}

pub returns-in-Err : goal.returns-in-Err
returns-in-Err c = λ s b. record {
  keeps = keeps_all c.args.run.now c.requires.can.can.ready.room.heap;
  comes = λ f ts frame w q. trapped_came w b c.args.run.now f ts c.in-Err.trap (number_of s.program f (expr_of c.args.e.now) frame w.objects) _ (going q.items c.args.run.now f c.args.run.now.at frame w q.step).runs.fuel
      (number_here s (expr_of c.args.e.now) c.args.run.now (Err c.in-Err.trap) (λ k. subst (λ x. IsNumber x (number_of k.program k.func (expr_of c.args.e.now) k.frame k.objects)) c.in-Err.is (c.number.ensures k)) f ts frame w q);
}
