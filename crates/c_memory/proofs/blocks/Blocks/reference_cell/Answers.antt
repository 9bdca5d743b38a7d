use Rattle.std.proofs.Common.{rules, refl, arith, ◌+◌, ◌<◌}
use Rattle.c_memory.specs.Shown.{shape_at}
use Rattle.c_memory.proofs.Calls.{cell_within}
use Rattle.c_memory.proofs.blocks.Blocks.reference_cell.Goals as goal

pub returns-then-i-from-clause-some : goal.returns-then-i-from-clause-some
returns-then-i-from-clause-some c =
    let l : c.args.i < (shape_at c.args.self.now.shapes.items c.args.c).references = search rules in
    let k = cell_within c.args.self.now c.args.c ((shape_at c.args.self.now.shapes.items c.args.c).numbers + c.args.i) c.requires.sound c.requires.live (omega (arith, l)) in
    rw (c.shape-shape.ensures) (l, refl, omega (arith, k))
