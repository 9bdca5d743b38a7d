-- What an expression gives: a value that fits its type, or a trap.
use Rattle.std.specs.Prelude.{◌≡◌, false, Option, Some, Ok, Err}
use Rattle.vlt_core.specs.Core.{Ty, Program}
use Rattle.vlt_core.specs.Lookups.{is_owning}
use Rattle.vlt_meaning.specs.World.{Value, is_fault}
use Rattle.vlt_meaning.specs.Found.{Found}
use Rattle.vlt_sound_worlds.specs.Scene.{Scene}
use Rattle.vlt_sound_worlds.specs.Fits.{Names, Fits}

-- a value of a known type that owns nothing
pub record IsRead (p : Program) (s : Scene) (names : Names) (type : Option Ty) (value : Value) : Type 0 where
  pub ty : Ty
  pub known : type ≡ Some ty
  pub plain : is_owning ty ≡ false
  pub fits : Fits p s names ty value

-- no fault, and a value that fits
abbrev pub IsFine : Program → Scene → Names → Option Ty → Found Value → Type 0
IsFine p s names type (Ok v) = IsRead p s names type v
IsFine p s names type (Err o) = is_fault o ≡ false
