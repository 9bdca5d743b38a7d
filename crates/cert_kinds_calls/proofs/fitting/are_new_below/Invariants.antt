use Rattle.std.proofs.Common.{◌≡◌, ◌||◌, not, nat_lt, map, drop}
use Rattle.std.specs.List.{list_all}
use Rattle.vlt_core.specs.View.{entry_of}
use Rattle.vlt_core.specs.Lookups.{is_new}
use Rattle.cert_kinds_calls.proofs.fitting.are_new_below.Given as goal

abbrev pub invariant-loop-e : goal.invariant-loop-e
invariant-loop-e l = list_all (λ e. not (is_new e) || nat_lt e.key l.count) (map entry_of l.clause) ≡ list_all (λ e. not (is_new e) || nat_lt e.key l.count) (map entry_of (drop l.e-index l.clause))
