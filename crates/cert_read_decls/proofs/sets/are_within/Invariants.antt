use Rattle.std.proofs.Common.{◌≡◌, drop}
use Rattle.cert_read_decls.specs.Rows.{are_own}
use Rattle.cert_read_decls.proofs.sets.are_within.Given as goal

abbrev pub invariant-loop-l : goal.invariant-loop-l
invariant-loop-l l = are_own l.count l.links ≡ are_own l.count (drop l.l-index l.links)
