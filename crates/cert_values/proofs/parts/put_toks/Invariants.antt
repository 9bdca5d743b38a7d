use Rattle.std.proofs.Common.{◌≡◌, map, drop}
use Rattle.serde_json.specs.View.{items_of}
use Rattle.cert_rows.specs.Values.{token}
use Rattle.vlt_core.specs.View.{tok_of}
use Rattle.cert_values.specs.Laid.{items_laid}
use Rattle.cert_values.proofs.parts.put_toks.Given as goal

-- what is left, after what was written, is the whole
abbrev pub invariant-loop-tok : goal.invariant-loop-tok
invariant-loop-tok l =
    items_laid (items_of (map token.data_of (map tok_of (drop l.tok-index l.toks)))) l.out ≡ items_laid (items_of (map token.data_of (map tok_of l.toks))) l.initial.out
