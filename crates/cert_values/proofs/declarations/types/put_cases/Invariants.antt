use Rattle.std.proofs.Common.{◌≡◌, map, drop}
use Rattle.vlt_core.specs.View.{case_of}
use Rattle.cert_rows.specs.Rows as row
use Rattle.cert_values.specs.Heads.{plain_data}
use Rattle.cert_values.specs.Laid.{each_laid}
use Rattle.cert_values.proofs.declarations.types.put_cases.Given as goal

-- what is left, after what was written, is the whole
abbrev pub invariant-loop-case : goal.invariant-loop-case
invariant-loop-case l =
    each_laid (map plain_data (map row.case_of (map case_of (drop l.case-index l.cases)))) l.out ≡ each_laid (map plain_data (map row.case_of (map case_of l.cases))) l.initial.out
