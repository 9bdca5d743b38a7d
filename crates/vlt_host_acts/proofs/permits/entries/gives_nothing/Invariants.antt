use Rattle.std.proofs.Common.{◌≡◌, not, map, drop}
use Rattle.std.specs.List.{list_all}
use Rattle.vlt_core.specs.View.{entry_of}
use Rattle.vlt_meaning.specs.Externals.{is_given}
use Rattle.vlt_host_acts.proofs.permits.entries.gives_nothing.Given as goal

abbrev pub invariant-loop-e : goal.invariant-loop-e
invariant-loop-e l = list_all (λ e. not (is_given e)) (map entry_of l.clause) ≡ list_all (λ e. not (is_given e)) (map entry_of (drop l.e-index l.clause))
