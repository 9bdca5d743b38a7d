use Rattle.std.proofs.Common.{◌≡◌, map, drop}
use Rattle.serde_json.specs.View.{items_of}
use Rattle.vlt_core.specs.View.{var_of}
use Rattle.cert_rows.specs.Values.{var_decl}
use Rattle.cert_values.specs.Laid.{items_laid}
use Rattle.cert_values.proofs.declarations.heads.put_vars.Given as goal

-- what is left, after what was written, is the whole
abbrev pub invariant-loop-var : goal.invariant-loop-var
invariant-loop-var l =
    items_laid (items_of (map var_decl.data_of (map var_of (drop l.var-index l.vars)))) l.out ≡ items_laid (items_of (map var_decl.data_of (map var_of l.vars))) l.initial.out
