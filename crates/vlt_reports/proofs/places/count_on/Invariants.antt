use Rattle.std.proofs.Common.{◌≡◌, ◌≤◌, ◌+◌, ◌-◌}
use Rattle.vlt_base.specs.Place.{line_of, column_of}
use Rattle.vlt_reports.proofs.places.count_on.Given as goal

abbrev pub invariant-loop-place : goal.invariant-loop-place
invariant-loop-place l = record {
  order : l.place.at ≤ l.fn.at;
  line : l.place.line ≡ line_of l.text l.place.at;
  column : l.place.column ≡ column_of l.text l.place.at;
  few : l.place.line ≤ 1 + l.place.at;
  short : l.place.column ≤ 1 + l.place.at;
}

abbrev pub decreases-loop-place : goal.decreases-loop-place
decreases-loop-place l = l.fn.at - l.place.at
