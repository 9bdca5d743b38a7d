use Rattle.std.proofs.Common.{refl, arith}
use Rattle.c_primitives.proofs.world.Tables.open.Goals as goal

pub returns : goal.returns
returns c = record {
  are_new = record {
    fresh = c.in_ok-open.ensures.fresh;
    sound = c.in_ok-open.ensures.sound;
    heap = c.in_ok-open.ensures.heap;
    cells = omega (arith, c.in_ok-open.ensures.cells, c.ranges.cells.fits);
    numbers = c.in_ok-unset.ensures;
    references = c.in_ok-unset-2.ensures;
  };
  budget = refl;
  width = c.in_ok-open.ensures.cells;
  line = omega (arith, c.in_ok-with_capacity.ensures.capacity, c.in-Some.ensures);
}
