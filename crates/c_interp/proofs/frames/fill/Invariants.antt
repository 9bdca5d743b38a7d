use Rattle.std.proofs.Common.{◌≡◌, ◌≤◌, ◌++◌, replicate, None}
use Rattle.std.specs.Vec.{vec_capacity}
use Rattle.c_interp.proofs.frames.fill.Given as goal

abbrev pub invariant-loop-done : goal.invariant-loop-done
invariant-loop-done l = record {
  items : l.values.items ≡ l.fn.values.items ++ replicate l.done None;
  room : vec_capacity l.fn.values ≤ vec_capacity l.values;
}
