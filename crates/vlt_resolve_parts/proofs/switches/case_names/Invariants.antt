use Rattle.std.proofs.Common.{◌≡◌, ◌++◌, drop, map}
use Rattle.vlt_core.specs.View.{case_of}
use Rattle.vlt_elaboration.specs.Switches as s
use Rattle.vlt_resolve_parts.specs.Seen.{texts_seen}
use Rattle.vlt_resolve_parts.proofs.switches.case_names.Given as goal

abbrev pub invariant-loop-case : goal.invariant-loop-case
invariant-loop-case l =
    texts_seen l.names ++ s.case_names (map case_of (drop l.case-index l.cases)) ≡ s.case_names (map case_of l.cases)
