use Rattle.std.proofs.Common.{◌≡◌, map, drop}
use Rattle.std.specs.List.{list_all}
use Rattle.vlt_core.specs.View.{var_of}
use Rattle.vlt_host_meaning.specs.EntryFunctions.{is_host_type}
use Rattle.vlt_host_acts.proofs.permits.entries.are_host_types.Given as goal

abbrev pub invariant-loop-d : goal.invariant-loop-d
invariant-loop-d l = list_all is_host_type (map (λ d. d.ty) (map var_of l.vars)) ≡ list_all is_host_type (map (λ d. d.ty) (map var_of (drop l.d-index l.vars)))
