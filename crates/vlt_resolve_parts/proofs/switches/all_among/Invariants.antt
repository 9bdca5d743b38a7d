use Rattle.std.proofs.Common.{◌≡◌, drop}
use Rattle.vlt_elaboration.specs.Switches as s
use Rattle.vlt_resolve_parts.specs.Seen.{texts_seen}
use Rattle.vlt_resolve_parts.proofs.switches.all_among.Given as goal

abbrev pub invariant-loop-other : goal.invariant-loop-other
invariant-loop-other l =
    s.all_among (texts_seen l.names) (texts_seen l.others) ≡ s.all_among (texts_seen l.names) (texts_seen (drop l.other-index l.others))
