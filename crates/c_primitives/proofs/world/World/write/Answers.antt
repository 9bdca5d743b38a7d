use Rattle.std.proofs.Common.{rules, subst, sym, SFits, w64}
use Rattle.std.proofs.lemmas.Int.{to_z-of_z}
use Rattle.c_syntax.specs.declared.program.CCell.TheVariants as cell
use Rattle.c_meaning.specs.Blocks.{write_number, write_reference}
use Rattle.c_meaning.specs.Primitives.{write_effect}
use Rattle.c_memory.specs.Shown.{number_of, blocks_of, Did}
use Rattle.c_values.specs.Shown.{value_view, IsMadeValue}
use Rattle.c_primitives.specs.Shown.{Comes}
use Rattle.c_primitives.proofs.Coming.{ready_blocks, room_blocks, blocks_come}
use Rattle.c_primitives.proofs.world.World.write.Goals as goal

pub returns-in-Number-a : goal.returns-in-Number-a
returns-in-Number-a c = let fits : SFits w64 c.in-Number-a.z = search rules in record {
  ready = ready_blocks c.args.self.now c.write_n.new.self c.requires.ready c.write_n.ensures.sound c.write_n.ensures.heap c.write_n.ensures.cells;
  room = room_blocks c.args.self.now c.write_n.new.self c.write_n.ensures.cells;
  comes = λ b ts w h made made_a.
      subst (λ x. Comes ts (record c.args.self.now { blocks = c.write_n.new.self }) w b b c.done.result (write_effect x (number_of c.args.b) (value_view c.args.a) w)) (sym c.in-Number.is)
      (subst (λ a. Comes ts (record c.args.self.now { blocks = c.write_n.new.self }) w b b c.done.result (write_effect (cell.Number c.in-Number.base c.in-Number.index) (number_of c.args.b) (value_view a) w)) (sym c.in-Number-a.is)
      (blocks_come ts c.args.self.now w b c.write_n.new.self h c.done.result c.write_n.result (λ bs. write_number bs (number_of c.args.b) c.in-Number.index c.in-Number-a.z) c.done.ensures
      (subst (λ z. Did ts c.write_n.result (write_number (blocks_of c.args.self.now.blocks ts) (number_of c.args.b) c.in-Number.index z) c.write_n.new.self) (to_z-of_z w64 c.in-Number-a.z fits) (c.write_n.ensures.did ts h.holds made))));
}

pub returns-in-Reference-a-2 : goal.returns-in-Reference-a-2
returns-in-Reference-a-2 c = record {
  ready = ready_blocks c.args.self.now c.write_r.new.self c.requires.ready c.write_r.ensures.sound c.write_r.ensures.heap c.write_r.ensures.cells;
  room = room_blocks c.args.self.now c.write_r.new.self c.write_r.ensures.cells;
  comes = λ b ts w h made made_a.
      subst (λ x. Comes ts (record c.args.self.now { blocks = c.write_r.new.self }) w b b c.done-in-Reference-a-2.result (write_effect x (number_of c.args.b) (value_view c.args.a) w)) (sym c.in-Reference.is)
      (subst (λ a. Comes ts (record c.args.self.now { blocks = c.write_r.new.self }) w b b c.done-in-Reference-a-2.result (write_effect (cell.Reference c.in-Reference.base c.in-Reference.index) (number_of c.args.b) (value_view a) w)) (sym c.in-Reference-a-2.is)
      (blocks_come ts c.args.self.now w b c.write_r.new.self h c.done-in-Reference-a-2.result c.write_r.result (λ bs. write_reference bs (number_of c.args.b) c.in-Reference.index (number_of c.in-Reference-a-2.p)) c.done-in-Reference-a-2.ensures
      (c.write_r.ensures.did ts h.holds made (subst (IsMadeValue ts) c.in-Reference-a-2.is made_a))));
}
