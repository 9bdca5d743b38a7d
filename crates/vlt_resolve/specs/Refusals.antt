-- What an error says.
use Rattle.std.specs.Prelude.{◌≡◌, ℕ, Option, Some, None, Result, Err}
use Rattle.vlt_resolve.specs.declared.error.ElabError.{ElabError}
use Rattle.vlt_resolve.specs.declared.error.ElabError.TheVariants.{Rule, Limit, Memory}
use Rattle.vlt_elaboration.specs.Elaboration.{Refused, broken, exceeded}

-- a fact for what is told
pub record OnTold {A : Type 0} (r : Result A ElabError) (p : Refused → Type 0) : Type 0 where
  pub rule : (n at : ℕ) → r ≡ Err (Rule n at) → p (broken n at)
  pub limit : (n : ℕ) → r ≡ Err (Limit n) → p (exceeded n)

-- what an error tells, but for want of memory
abbrev pub error_seen : ElabError → Option Refused
error_seen (Rule n at) = Some (broken n at)
error_seen (Limit n) = Some (exceeded n)
error_seen Memory = None
