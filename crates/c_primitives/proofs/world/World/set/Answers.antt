use Rattle.c_syntax.specs.View.{expr_of}
use Rattle.c_values.specs.Shown.{shown_vars}
use Rattle.c_primitives.proofs.Coming.{same_room}
use Rattle.c_primitives.proofs.Assigning.{set_come, set_breaks}
use Rattle.c_primitives.proofs.world.World.set.Goals as goal

pub returns-in-Ok : goal.returns-in-Ok
returns-in-Ok c = λ b. record {
  ready = c.requires.ready;
  room = same_room c.args.self.now;
  comes = λ ts w h made. set_come ts c.args.self.now w b (expr_of c.args.e.now) (shown_vars c.args.vars) c.eval.result c.in-Ok.a h c.in-Ok.is (c.eval.ensures ts h.holds made);
}

pub returns-in-Err : goal.returns-in-Err
returns-in-Err c = λ b. record {
  ready = c.requires.ready;
  room = same_room c.args.self.now;
  comes = λ ts w h made. set_breaks ts c.args.self.now w b (expr_of c.args.e.now) (shown_vars c.args.vars) c.eval.result c.in-Err.rule h c.in-Err.is (c.eval.ensures ts h.holds made);
}
