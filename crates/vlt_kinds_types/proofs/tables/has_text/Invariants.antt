use Rattle.std.proofs.Common.{◌≡◌, drop, map}
use Rattle.std.specs.List.{list_any}
use Rattle.std.specs.Str.{bytes_eq}
use Rattle.vlt_syntax.specs.View as view
use Rattle.vlt_kinds_types.proofs.tables.has_text.Given as goal

abbrev pub invariant-loop-text : goal.invariant-loop-text
invariant-loop-text l =
    list_any (bytes_eq (view.name_of l.name).text) (map (λ n. n) l.texts)
    ≡ list_any (bytes_eq (view.name_of l.name).text) (map (λ n. n) (drop l.text-index l.texts))
