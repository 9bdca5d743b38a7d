use Rattle.std.proofs.Common.{◌≡◌, ◌≤◌, drop}
use Rattle.cert_rows.specs.Values.{ascends}
use Rattle.cert_read_parts.specs.Maps.{pairs_of}
use Rattle.cert_read_rows.proofs.maps.ascends.Given as goal

abbrev pub invariant-loop-x : goal.invariant-loop-x
invariant-loop-x l = (ascends 0 (pairs_of l.pairs) ≡ ascends l.least (pairs_of (drop l.x-index l.pairs))) × (l.least ≤ 4294967552)
