use Rattle.std.proofs.Common.{◌≡◌, map, drop}
use Rattle.serde_json.specs.View.{items_of}
use Rattle.serde_json.specs.Data.{string}
use Rattle.cert_values.specs.Laid.{items_laid}
use Rattle.cert_values.proofs.declarations.names.put_names.Given as goal

-- what is left, after what was written, is the whole
abbrev pub invariant-loop-name : goal.invariant-loop-name
invariant-loop-name l =
    items_laid (items_of (map string (map (λ n. n) (drop l.name-index l.names)))) l.out ≡ items_laid (items_of (map string (map (λ n. n) l.names))) l.initial.out
