-- The function that runs.
use Rattle.std.specs.Prelude.{ℕ}
use Rattle.vlt_core.specs.Core as core
use Rattle.vlt_core.specs.Core.{States}
use Rattle.vlt_core.specs.Instances.{instance}
use Rattle.vlt_core.specs.View.{program_of, func_of}
use Rattle.vlt_meaning.specs.Run.{Setup}
use Rattle.vlt_trace_worlds.specs.declared.running.Running.{Running}

abbrev pub program_in : Running → core.Program
program_in r = program_of r.program.now

abbrev pub func_in : Running → core.Func
func_in r = instance (program_of r.program.now) (func_of r.func.now) r.origin

abbrev pub setup_in : Running → (heap depth : ℕ) → Setup
setup_in r heap depth = record { program = program_in r; heap = heap; depth = depth }
