use Rattle.std.proofs.Common.{◌≡◌, map, drop}
use Rattle.serde_json.specs.View.{items_of}
use Rattle.vlt_core.specs.View.{key_of}
use Rattle.cert_rows.specs.Values.{key_decl}
use Rattle.cert_values.specs.Laid.{items_laid}
use Rattle.cert_values.proofs.declarations.heads.put_keys.Given as goal

-- what is left, after what was written, is the whole
abbrev pub invariant-loop-key : goal.invariant-loop-key
invariant-loop-key l =
    items_laid (items_of (map key_decl.data_of (map key_of (drop l.key-index l.keys)))) l.out ≡ items_laid (items_of (map key_decl.data_of (map key_of l.keys))) l.initial.out
