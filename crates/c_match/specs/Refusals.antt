-- Why a C program isn't known to be the lowering of a core program.
use Rattle.std.specs.Prelude.{◌≡◌, ℕ}
use Rattle.vlt_core.specs.Core.{Program}
use Rattle.c_syntax.specs.C as c
use Rattle.c_lower.specs.Lowering.{lowered}
use Rattle.c_match.specs.Apart.{IsApartAt}
use Rattle.c_match.specs.declared.error.MatchError.{MatchError}
use Rattle.c_match.specs.declared.error.MatchError.TheVariants as error

-- It isn't the lowering, and this is the first statement whose lowering isn't there.
pub record Differs (p : Program) (x : c.Program) (statement : ℕ) : Type 0 where
  pub other : x ≡ lowered p → ⊥
  pub first : IsApartAt p x statement

-- each refusal but that of memory with its cause
abbrev pub Refuses : Program → c.Program → MatchError → Type 0
Refuses p x error.Memory = Unit {0}
Refuses p x (error.Differs statement) = Differs p x statement
