use Rattle.std.proofs.Common.{◌≡◌, map, drop}
use Rattle.std.specs.List.{list_any}
use Rattle.vlt_core.specs.View.{func_of}
use Rattle.vlt_core.specs.KindedHeads.{is_bound_entry}
use Rattle.cert_write.proofs.ordered.have_bounds.Given as goal

abbrev pub invariant-loop-f : goal.invariant-loop-f
invariant-loop-f l = list_any (λ g. list_any is_bound_entry g.clause) (map func_of l.fns) ≡ list_any (λ g. list_any is_bound_entry g.clause) (map func_of (drop l.f-index l.fns))
