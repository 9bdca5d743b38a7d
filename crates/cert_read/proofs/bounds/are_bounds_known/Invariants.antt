use Rattle.std.proofs.Common.{◌≡◌, map, drop}
use Rattle.std.specs.List.{list_all}
use Rattle.vlt_core.specs.View.{program_of, entry_of}
use Rattle.cert_format.specs.Bounds.{is_bound_known, are_bounds_known}
use Rattle.cert_read.specs.Heads.{head_of}
use Rattle.cert_read.proofs.bounds.are_bounds_known.Given as goal

abbrev pub invariant-loop-e : goal.invariant-loop-e
invariant-loop-e l = are_bounds_known (program_of l.p) (head_of l.row) ≡ list_all (λ e. is_bound_known (program_of l.p) (head_of l.row) e.key e.mode) (map entry_of (drop l.e-index l.row.lists.clause))
