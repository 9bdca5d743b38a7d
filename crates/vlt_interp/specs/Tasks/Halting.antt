-- The stops of statements.
use Rattle.std.specs.Prelude.{Option, Some, None, Result, Ok, Err}
use Rattle.vlt_ops.specs.declared.TrapKind.{TrapKind}
use Rattle.vlt_acts.specs.declared.objects.halt.Halt.{Halt}
use Rattle.vlt_acts.specs.declared.objects.halt.Halt.TheVariants as object
use Rattle.vlt_steps.specs.declared.stop.Stop.{Stop}
use Rattle.vlt_steps.specs.declared.stop.Stop.TheVariants.{Trap, HeapEnd}

abbrev pub stop_of_result : Result (Unit {0}) Stop → Option Stop
stop_of_result (Ok u) = None
stop_of_result (Err stop) = Some stop

abbrev pub stop_of_trap : Result (Unit {0}) TrapKind → Option Stop
stop_of_trap (Ok u) = None
stop_of_trap (Err t) = Some (Trap t)

abbrev pub full : Result (Unit {0}) Halt → Option Stop
full (Ok u) = None
full (Err (object.Trap t)) = Some (Trap t)
full (Err object.HeapEnd) = Some HeapEnd
