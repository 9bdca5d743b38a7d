use Rattle.std.proofs.Common.{◌≡◌, map, drop}
use Rattle.serde_json.specs.View.{items_of}
use Rattle.cert_rows.specs.Parts.{nat}
use Rattle.vlt_core.specs.View.{vars_of}
use Rattle.cert_values.specs.Laid.{items_laid}
use Rattle.cert_values.proofs.parts.put_vars.Given as goal

-- what is left, after what was written, is the whole
abbrev pub invariant-loop-var : goal.invariant-loop-var
invariant-loop-var l =
    items_laid (items_of (map nat (vars_of (drop l.var-index l.vars)))) l.out ≡ items_laid (items_of (map nat (vars_of l.vars))) l.initial.out
