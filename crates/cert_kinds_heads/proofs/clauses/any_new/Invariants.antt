use Rattle.std.proofs.Common.{◌≡◌, map, drop}
use Rattle.std.specs.List.{list_any}
use Rattle.vlt_core.specs.View.{entry_of}
use Rattle.vlt_core.specs.Lookups.{is_new}
use Rattle.cert_kinds_heads.proofs.clauses.any_new.Given as goal

abbrev pub invariant-loop-e : goal.invariant-loop-e
invariant-loop-e l = list_any (is_new) (map entry_of l.clause) ≡ list_any (is_new) (map entry_of (drop l.e-index l.clause))
