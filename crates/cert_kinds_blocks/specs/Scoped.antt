-- The plain program and function of a scope.
use Rattle.vlt_core.specs.Core.{Func, Program}
use Rattle.vlt_core.specs.View.{program_of, func_of}
use Rattle.vlt_kinds_queries.specs.Marks.{AreMarks}
use Rattle.cert_kinds_blocks.specs.declared.scope.Scope.{Scope}

abbrev pub program_in : Scope → Program
program_in x = program_of x.program.now

abbrev pub func_in : Scope → Func
func_in x = func_of x.func.now

-- its marks are those on the program's types
pub record HasMarks (x : Scope) : Type 0 where
  pub marks : AreMarks (program_in x) x.marks.now
