use Rattle.std.proofs.Common.{◌≡◌, map, drop}
use Rattle.std.specs.List.{list_any}
use Rattle.vlt_core.specs.View.{entry_of}
use Rattle.vlt_core.specs.KindedHeads.{is_bound_entry}
use Rattle.cert_write.proofs.ordered.has_bound.Given as goal

abbrev pub invariant-loop-entry : goal.invariant-loop-entry
invariant-loop-entry l = list_any is_bound_entry (map entry_of l.clause) ≡ list_any is_bound_entry (map entry_of (drop l.entry-index l.clause))
