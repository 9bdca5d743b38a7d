use Rattle.std.proofs.Common.{◌≡◌, ◌≤◌, ◌+◌}
use Rattle.vlt_base.specs.Place.{column_of}
use Rattle.vlt_base.proofs.places.column.Given as goal

abbrev pub invariant-loop-start : goal.invariant-loop-start
invariant-loop-start l = record {
  within : l.start ≤ l.at;
  same : l.start + column_of l.text l.at ≡ l.at + column_of l.text l.start;
}

abbrev pub decreases-loop-start : goal.decreases-loop-start
decreases-loop-start l = l.start
