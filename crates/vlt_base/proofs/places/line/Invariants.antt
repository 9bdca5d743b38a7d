use Rattle.std.proofs.Common.{◌≡◌, ◌≤◌, ◌+◌}
use Rattle.vlt_base.specs.Place.{line_of}
use Rattle.vlt_base.proofs.places.line.Given as goal

abbrev pub invariant-loop-byte : goal.invariant-loop-byte
invariant-loop-byte l = record {
  line : l.line ≡ line_of l.byte-items l.byte-index;
  few : l.line ≤ 1 + l.byte-index;
}
