use Rattle.vlt_core.specs.Instances.{instance}
use Rattle.vlt_core.specs.View.{program_of, func_of}
use Rattle.vlt_keyset.specs.Held.{map_of}
use Rattle.vlt_flow_maps.specs.Starts.{HasRange, HasVars}
use Rattle.vlt_flow_maps.proofs.start.start_map_of.Given as goal

abbrev pub invariant-loop-v : goal.invariant-loop-v
invariant-loop-v l = HasVars (program_of l.p) (instance (program_of l.p) (func_of l.f) l.fn.origin) l.v (map_of l.held) × HasRange (func_of l.f) l.held
