use Rattle.std.proofs.Common.{◌≡◌, Some, Ok, subst, map, sym, ◌∙◌}
use Rattle.c_syntax.specs.View.{arg_of}
use Rattle.c_meaning.specs.Primitives.{asked_cells, makes_asked}
use Rattle.c_values.specs.declared.value.Value.TheVariants.{Reference}
use Rattle.c_primitives.specs.Shown.{Comes}
use Rattle.c_primitives.proofs.Coming.{ready_blocks, room_blocks, new_come}
use Rattle.c_primitives.proofs.world.World.make.Goals as goal

pub returns-in-Ok : goal.returns-in-Ok
returns-in-Ok c = λ b. record {
  ready = ready_blocks c.args.self.now c.make.new.self c.requires.ready c.make.ensures.sound c.make.ensures.heap c.make.ensures.cells;
  room = room_blocks c.args.self.now c.make.new.self c.make.ensures.cells;
  comes = λ ts w h made.
      let asked : Some (c.in-Some.numbers, c.in-Some.references) ≡ asked_cells (map arg_of c.args.args.now) = sym c.in-Some.is ∙ c.asked.ensures in
      subst (λ q. Comes ts (record c.args.self.now { blocks = c.make.new.self }) w b b (Ok (Some (Reference (Some c.in-Ok.made)))) (makes_asked c.args.self.now.heap q w)) asked
      (new_come c.args.self.now c.make.new.self ts w b c.in-Ok.made c.in-Some.numbers c.in-Some.references (sym c.requires.ready.heap) h (c.in-Ok.ensures.did ts h.holds));
}
