use Rattle.vlt_core.specs.Instances.{instance, entry_in}
use Rattle.vlt_core.specs.View.{program_of, func_of, entry_of}
use Rattle.vlt_keyset.specs.Held.{map_of}
use Rattle.vlt_flow_maps.specs.Starts.{HasRange}
use Rattle.vlt_flow_maps.proofs.Starting.{StartingAt}
use Rattle.vlt_flow_maps.proofs.start.start_keys.Given as goal

abbrev pub invariant-loop-e : goal.invariant-loop-e
invariant-loop-e l = StartingAt (λ e. entry_in (program_of l.p) (func_of l.f) l.origin (entry_of e)) (program_of l.p) (instance (program_of l.p) (func_of l.f) l.origin) l.f.clause l.e-index (map_of l.held) × HasRange (func_of l.f) l.held
