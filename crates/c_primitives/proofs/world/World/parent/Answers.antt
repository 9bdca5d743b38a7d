use Rattle.std.proofs.Common.{map}
use Rattle.c_syntax.specs.View.{arg_of}
use Rattle.c_values.specs.Shown.{shown_vars}
use Rattle.c_memory.specs.Shown.{number_of}
use Rattle.c_primitives.proofs.Coming.{same_room, reference_come, reference_breaks, parent_come}
use Rattle.c_primitives.proofs.world.World.parent.Goals as goal

pub returns-in-Ok : goal.returns-in-Ok
returns-in-Ok c = λ b. record {
  ready = c.requires.ready;
  room = same_room c.args.self.now;
  comes = λ ts w h made. reference_come ts c.args.self.now w b b (map arg_of c.args.args.now) (shown_vars c.args.vars) c.parent_value.result c.one_reference.result c.in-Ok.child _ c.in-Ok.is (c.one_reference.ensures ts made)
      (λ m. parent_come c.args.self.now ts w b c.parent.result (number_of c.in-Ok.child) c.parent_value.result h (c.parent.ensures ts h.holds m) c.parent_value.ensures);
}

pub returns-in-Err : goal.returns-in-Err
returns-in-Err c = λ b. record {
  ready = c.requires.ready;
  room = same_room c.args.self.now;
  comes = λ ts w h made. reference_breaks ts c.args.self.now w b (map arg_of c.args.args.now) (shown_vars c.args.vars) c.in-Err.rule h c.one_reference.result _ c.in-Err.is (c.one_reference.ensures ts made);
}
