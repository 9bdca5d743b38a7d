use Rattle.std.proofs.Common.{◌≡◌, map, drop}
use Rattle.serde_json.specs.View.{items_of}
use Rattle.cert_rows.specs.Values.{map_part}
use Rattle.cert_values.specs.Laid.{items_laid}
use Rattle.cert_write.specs.Notes.{maps_in}
use Rattle.cert_write.proofs.maps.put_each_around.Given as goal

-- what is left, after what was written, is the whole
abbrev pub invariant-loop-annotation : goal.invariant-loop-annotation
invariant-loop-annotation l =
    items_laid (items_of (map map_part.data_of ((maps_in (drop l.annotation-index l.annotations)).around l.from.next))) l.out ≡
    items_laid (items_of (map map_part.data_of ((maps_in l.annotations).around l.from.next))) l.initial.out
