use Rattle.std.proofs.Common.{rules, refl, ap, ◌∙◌, slice_set}
use Rattle.std.proofs.Common.{w64}
use Rattle.std.proofs.lemmas.Int.{to_z-of_z}
use Rattle.c_memory.specs.declared.cells.Cell.TheVariants.{Number}
use Rattle.c_memory.proofs.Calls.{number_not_written, number_written}
use Rattle.c_memory.proofs.blocks.Blocks.write_n.Goals as goal

pub returns-in_default-number_cell-clause-did : goal.returns-in_default-number_cell-clause-did
returns-in_default-number_cell-clause-did c = λ ts holds made.
    rw (number_not_written c.args.self.now ts c.args.p c.in-Some.c c.args.i c.args.v (c.in-Some.ensures.things ts holds made) c.in_default-number_cell.ensures.none) refl

pub returns-clause-did : goal.returns-clause-did
returns-clause-did c = λ ts holds made. let s = c.in-Some-number_cell.ensures.some in
    number_written c.args.self.now _ ts c.args.p c.in-Some.c c.args.i c.args.v c.requires.sound holds (c.in-Some.ensures.things ts holds made) s.0 (record {
      places = refl;
      shapes = refl;
      cells = c.put.ensures.items ∙ ap (λ z. slice_set c.args.self.now.cells.items c.in-Some-number_cell.k (Number z)) (to_z-of_z w64 c.args.v (search rules)) ∙ ap (λ k. slice_set c.args.self.now.cells.items k (Number c.args.v)) s.1;
      width = refl;
      within = rw (← s.1) (s.2);
    })
