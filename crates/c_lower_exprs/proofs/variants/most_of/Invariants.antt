use Rattle.std.proofs.Common.{◌≡◌, max, map, drop}
use Rattle.std.specs.List.{count_by}
use Rattle.vlt_core.specs.View.{case_of}
use Rattle.vlt_core.specs.Widths.{greatest}
use Rattle.c_lower_exprs.specs.Tables.{is_of}
use Rattle.c_lower_exprs.proofs.variants.most_of.Given as goal

abbrev pub invariant-loop-case : goal.invariant-loop-case
invariant-loop-case l =
    max l.most (greatest (λ c. count_by (is_of l.sort) c.payload) (map case_of (drop l.case-index l.cases)))
    ≡ greatest (λ c. count_by (is_of l.sort) c.payload) (map case_of l.cases)
