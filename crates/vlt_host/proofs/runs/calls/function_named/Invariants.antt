use Rattle.std.proofs.Common.{◌≡◌, map, drop}
use Rattle.vlt_core.specs.View.{func_of}
use Rattle.vlt_host_meaning.specs.EntryFunctions.{function_of_name}
use Rattle.vlt_host.proofs.runs.calls.function_named.Given as goal

abbrev pub invariant-loop-i : goal.invariant-loop-i
invariant-loop-i l = function_of_name l.name 0 (map func_of l.fns) ≡ function_of_name l.name l.i (map func_of (drop l.i l.fns))
