use Rattle.std.proofs.Common.{◌≡◌, suc, ◌+◌, ◌-◌, refl, ap, ◌∙◌, arith, ◌∷◌}
use Rattle.c_syntax.specs.View.{stmts_of}
use Rattle.c_machine.specs.Machine as m
use Rattle.c_interp.specs.Shown.{tasks_of}
use Rattle.c_interp.proofs.Entering.{ready_fuel, room_fuel, keeps_room, spends_none, turned}
use Rattle.c_interp.proofs.Tasks.{pushed_two}
use Rattle.c_interp.proofs.step.turn.Goals as goal

pub returns-then-world-eq0 : goal.returns-then-world-eq0
returns-then-world-eq0 c = λ r b. record {
  ready = c.requires.ready;
  world = keeps_room c.args.world.now;
  tasks = omega arith;
  slots = omega arith;
  comes = λ things w h made. spends_none things c.args.world.now w b h c.args.frames.now c.args.frames.now c.args.tasks.now.items _ c.if-world-eq0.true;
}

pub returns : goal.returns
returns c = λ r b. record {
  ready = ready_fuel c.args.world.now (record c.args.world.now { fuel = c.args.world.now.fuel - 1 }) c.requires.ready;
  world = room_fuel c.args.world.now (record c.args.world.now { fuel = c.args.world.now.fuel - 1 });
  tasks = omega (arith, c.put.ensures.room, c.put-2.ensures.room);
  slots = omega arith;
  comes = λ things w h made. turned things c.args.world.now w b h r c.args.n (stmts_of c.args.body.now) c.args.tasks.now.items c.put-2.new.items.items c.args.frames.now (record c.args.world.now { fuel = c.args.world.now.fuel - 1 })
      (omega (arith, c.if-world-eq0.false)) refl made
      (pushed_two c.args.tasks.now.items c.put.new.items.items c.put-2.new.items.items _ _ c.put.ensures.items c.put-2.ensures.items ∙ (let e : c.args.n + 1 ≡ suc c.args.n = omega arith in ap (λ k. m.list k (stmts_of c.args.body.now) ∷ m.again c.args.n (stmts_of c.args.body.now) ∷ tasks_of c.args.tasks.now.items) e));
}
