use Rattle.std.proofs.Common.{◌≡◌, drop, map}
use Rattle.std.specs.List.{list_any}
use Rattle.vlt_core.specs.View as view
use Rattle.vlt_core.specs.Types as t
use Rattle.vlt_kinds_queries.proofs.queries.has_keys.Given as goal

abbrev pub invariant-loop-case : goal.invariant-loop-case
invariant-loop-case l =
    list_any (λ c. t.is_filled c.keys) (map view.case_of l.cases) ≡ list_any (λ c. t.is_filled c.keys) (map view.case_of (drop l.case-index l.cases))
