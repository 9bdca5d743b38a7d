use Rattle.std.proofs.Common.{◌≡◌, ◌&&◌, ◌==◌, map, drop}
use Rattle.std.specs.List.{list_any}
use Rattle.vlt_core.specs.View.{entry_of}
use Rattle.vlt_core.specs.Lookups.{is_new}
use Rattle.vlt_host_acts.proofs.permits.entries.lists_new.Given as goal

abbrev pub invariant-loop-e : goal.invariant-loop-e
invariant-loop-e l = list_any (λ e. is_new e && e.key == l.k.0) (map entry_of l.clause) ≡ list_any (λ e. is_new e && e.key == l.k.0) (map entry_of (drop l.e-index l.clause))
