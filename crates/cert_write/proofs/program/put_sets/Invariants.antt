use Rattle.std.proofs.Common.{◌≡◌, map, drop}
use Rattle.vlt_core.specs.View.{set_of}
use Rattle.cert_values.specs.Laid.{each_laid}
use Rattle.cert_write.specs.Rows.{sets_data}
use Rattle.cert_write.proofs.program.put_sets.Given as goal

-- what is left, after what was written, is the whole
abbrev pub invariant-loop-set : goal.invariant-loop-set
invariant-loop-set l =
    each_laid (sets_data l.ordered (map set_of (drop l.set-index l.sets))) l.out ≡ each_laid (sets_data l.ordered (map set_of l.sets)) l.initial.out
