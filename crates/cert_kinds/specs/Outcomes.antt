-- What an answer of `kinded` means.
use Rattle.std.specs.Prelude.{◌≡◌, ℕ, min, Some, Result, Ok, Err}
use Rattle.vlt_core.specs.Core.{Program}
use Rattle.vlt_core.specs.Kinded.{IsKinded, breaks}
use Rattle.cert_kinds_tallies.specs.Tallies.{last_row}
use Rattle.cert_kinds.specs.declared.whole.KindedError.{KindedError}
use Rattle.cert_kinds.specs.declared.whole.KindedError.TheVariants.{Broken, Memory}

-- This is the least rule that the first broken row breaks; the row's number is this one, or greater
-- where this is the greatest that is counted.
pub record HasFirstBroken (p : Program) (row rule : ℕ) : Type 0 where
  pub number : ℕ
  pub breaks : breaks p ≡ Some (number, rule)
  pub counted : row ≡ min number last_row

-- `Ok` of a program that breaks no rule on names and types, and a broken row of one that does; out of
-- memory says nothing of it.
abbrev pub IsAnswered : Program → Result (Unit {0}) KindedError → Type 0
IsAnswered p (Ok u) = IsKinded p
IsAnswered p (Err (Broken row rule)) = HasFirstBroken p row rule
IsAnswered p (Err Memory) = Unit {0}
