use Rattle.std.proofs.Common.{◌≡◌, map, drop}
use Rattle.serde_json.specs.View.{items_of}
use Rattle.cert_rows.specs.Parts.{nat}
use Rattle.vlt_core.specs.View.{keys_of}
use Rattle.cert_values.specs.Laid.{items_laid}
use Rattle.cert_values.proofs.parts.put_ids.Given as goal

-- what is left, after what was written, is the whole
abbrev pub invariant-loop-key : goal.invariant-loop-key
invariant-loop-key l =
    items_laid (items_of (map nat (keys_of (drop l.key-index l.keys)))) l.out ≡ items_laid (items_of (map nat (keys_of l.keys))) l.initial.out
