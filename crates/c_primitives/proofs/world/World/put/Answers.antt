use Rattle.std.proofs.Common.{subst}
use Rattle.c_syntax.specs.View.{expr_of}
use Rattle.c_values.specs.Shown.{shown_vars, IsReference}
use Rattle.c_meaning.specs.Values.{base_in}
use Rattle.c_primitives.proofs.Coming.{same_room}
use Rattle.c_primitives.proofs.Assigning.{put_come, put_value_breaks, put_base_breaks}
use Rattle.c_primitives.proofs.world.World.put.Goals as goal

pub returns-in-Ok-eval : goal.returns-in-Ok-eval
returns-in-Ok-eval c = λ b. record {
  ready = c.write.ensures.ready;
  room = c.write.ensures.room;
  comes = λ ts w h made. put_come ts c.args.self.now w b (expr_of c.args.e.now) (shown_vars c.args.vars) c.eval.result c.write.new.self c.write.result c.args.x c.base.result c.in-Ok.b c.in-Ok-eval.a h c.in-Ok.is
      (subst (λ n. IsReference ts c.base.result (base_in n (shown_vars c.args.vars))) c.base_number.ensures (c.base.ensures ts made)) c.in-Ok-eval.is (c.eval.ensures ts h.holds made)
      (λ m n. c.write.ensures.comes b ts w h m n);
}

pub returns-in-Err-eval : goal.returns-in-Err-eval
returns-in-Err-eval c = λ b. record {
  ready = c.requires.ready;
  room = same_room c.args.self.now;
  comes = λ ts w h made. put_value_breaks ts c.args.self.now w b (expr_of c.args.e.now) (shown_vars c.args.vars) c.eval.result c.args.x c.base.result c.in-Ok.b c.in-Err-eval.rule h c.in-Ok.is
      (subst (λ n. IsReference ts c.base.result (base_in n (shown_vars c.args.vars))) c.base_number.ensures (c.base.ensures ts made)) c.in-Err-eval.is (c.eval.ensures ts h.holds made);
}

pub returns-in-Err : goal.returns-in-Err
returns-in-Err c = λ b. record {
  ready = c.requires.ready;
  room = same_room c.args.self.now;
  comes = λ ts w h made. put_base_breaks ts c.args.self.now w b (expr_of c.args.e.now) (shown_vars c.args.vars) c.args.x c.base.result c.in-Err.rule h c.in-Err.is
      (subst (λ n. IsReference ts c.base.result (base_in n (shown_vars c.args.vars))) c.base_number.ensures (c.base.ensures ts made));
}
