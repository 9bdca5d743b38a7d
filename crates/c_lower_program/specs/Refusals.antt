-- What the lowering of a program gives, and why it gives none.
use Rattle.std.specs.Prelude.{◌≡◌, ℕ, ◌<◌, ◌≤◌, true, false, length}
use Rattle.vlt_base.specs.Limits.{limit_of}
use Rattle.vlt_base.specs.declared.limits.TheConstants.{C_BYTES}
use Rattle.vlt_core.specs.Core.{Program}
use Rattle.c_syntax.specs.C as c
use Rattle.c_syntax.specs.View.{program_of}
use Rattle.c_syntax.specs.Canonical.{canonical_text}
use Rattle.c_syntax.specs.declared.program.CProgram.{CProgram}
use Rattle.c_lower.specs.Lowering.{lowered}
use Rattle.c_lower_program.specs.Glue.ManyCases.{gives_many_cases}
use Rattle.c_lower_program.specs.declared.error.LowerError.{LowerError}
use Rattle.c_lower_program.specs.declared.error.LowerError.TheVariants as error

-- the bytes of the canonical text
abbrev pub length_of : c.Program → ℕ
length_of x = length (canonical_text x)

-- It is the C program of the definition, its text isn't over the limit, and each mask in it is a number of C.
pub record IsLowered (p : Program) (x : CProgram) : Type 0 where
  pub few : gives_many_cases p ≡ false
  pub program : program_of x ≡ lowered p
  pub within : length_of (lowered p) ≤ limit_of C_BYTES

-- each refusal but that of memory with its cause
abbrev pub Refuses : Program → LowerError → Type 0
Refuses p error.Memory = Unit {0}
Refuses p error.Limit = limit_of C_BYTES < length_of (lowered p)
Refuses p error.Cases = gives_many_cases p ≡ true
