-- A function of the code as it stands in an instance; private contracts alone cite this.
use Rattle.vlt_core.specs.Core.{Func, Program}
use Rattle.vlt_core.specs.Instances.{instance}
use Rattle.vlt_core.specs.View.{program_of, func_of}
use Rattle.vlt_rows.specs.declared.instances.Instance.{Instance}

abbrev pub program_in : Instance → Program
program_in i = program_of i.program.now

abbrev pub func_in : Instance → Func
func_in i = instance (program_of i.program.now) (func_of i.func.now) i.origin
