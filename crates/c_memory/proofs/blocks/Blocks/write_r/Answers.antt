use Rattle.std.proofs.Common.{refl, arith, ap, subst, ◌∙◌, ◌≡◌, ◌+◌, ◌*◌, ◌<◌, length, slice_set}
use Rattle.c_memory.specs.Shown.{shape_at}
use Rattle.c_memory.specs.declared.cells.Cell.TheVariants.{Reference}
use Rattle.c_memory.proofs.Calls.{reference_not_written, reference_written}
use Rattle.c_memory.proofs.blocks.Blocks.write_r.Goals as goal

pub returns-in_default-reference_cell-clause-did : goal.returns-in_default-reference_cell-clause-did
returns-in_default-reference_cell-clause-did c = λ ts holds made made_v.
    rw (reference_not_written c.args.self.now ts c.args.p c.in-Some.c c.args.i _ (c.in-Some.ensures.things ts holds made) c.in_default-reference_cell.ensures.none) refl

pub returns-clause-did : goal.returns-clause-did
returns-clause-did c = λ ts holds made made_v. let s = c.in-Some-reference_cell.ensures.some in
    let k : c.in-Some-reference_cell.k ≡ c.in-Some.c * c.args.self.now.width + ((shape_at c.args.self.now.shapes.items c.in-Some.c).numbers + c.args.i) = s.1 ∙ omega arith in
    reference_written c.args.self.now _ ts c.args.p c.in-Some.c c.args.i c.args.v c.requires.sound holds made_v (c.in-Some.ensures.things ts holds made) s.0 (record {
      places = refl;
      shapes = refl;
      cells = c.put.ensures.items ∙ ap (λ j. slice_set c.args.self.now.cells.items j (Reference c.args.v)) k;
      width = refl;
      within = subst (λ j. j < length c.args.self.now.cells.items) k (s.2);
    })
