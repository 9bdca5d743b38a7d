use Rattle.std.proofs.Common.{◌≡◌, map, drop}
use Rattle.serde_json.specs.View.{items_of}
use Rattle.cert_rows.specs.Values.{token_status}
use Rattle.cert_values.specs.Heads.{token_status_of}
use Rattle.cert_values.specs.Laid.{items_laid}
use Rattle.cert_values.proofs.maps.put_map.Given as goal

-- what is left, after what was written, is the whole
abbrev pub invariant-loop-pair : goal.invariant-loop-pair
invariant-loop-pair l =
    items_laid (items_of (map token_status.data_of (map token_status_of (drop l.pair-index l.held.pairs)))) l.out ≡ items_laid (items_of (map token_status.data_of (map token_status_of l.held.pairs))) l.initial.out
