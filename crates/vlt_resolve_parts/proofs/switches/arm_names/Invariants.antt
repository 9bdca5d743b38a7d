use Rattle.std.proofs.Common.{◌≡◌, ◌++◌, drop}
use Rattle.vlt_syntax.specs.View.{arms_of}
use Rattle.vlt_elaboration.specs.Switches as s
use Rattle.vlt_resolve_parts.specs.Seen.{texts_seen}
use Rattle.vlt_resolve_parts.proofs.switches.arm_names.Given as goal

abbrev pub invariant-loop-arm : goal.invariant-loop-arm
invariant-loop-arm l =
    texts_seen l.names ++ s.arm_names (arms_of (drop l.arm-index l.arms)) ≡ s.arm_names (arms_of l.arms)
