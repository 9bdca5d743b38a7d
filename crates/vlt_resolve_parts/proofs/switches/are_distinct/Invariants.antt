use Rattle.std.proofs.Common.{◌≡◌, drop}
use Rattle.vlt_elaboration.specs.Switches as s
use Rattle.vlt_resolve_parts.specs.Seen.{texts_seen}
use Rattle.vlt_resolve_parts.proofs.switches.are_distinct.Given as goal

abbrev pub invariant-loop-i : goal.invariant-loop-i
invariant-loop-i l = s.are_distinct (texts_seen l.names) ≡ s.are_distinct (texts_seen (drop l.i l.names))
