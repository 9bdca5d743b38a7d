-- Places don't count.
use Rattle.std.specs.Prelude.{◌≡◌, ◌↔◌, ℕ, Option}
use Rattle.vlt_core.specs.Core.{Func, Program}
use Rattle.vlt_core.specs.Instances.{instance, origins}
use Rattle.vlt_core.specs.Kinded.{breaks}
use Rattle.vlt_core.specs.Local.{Notes, IsLocalIn}
use Rattle.c_lower.specs.Lowering.{lowered}
use Rattle.cert_format.specs.Places.{unplaced_func, unplaced_program}

-- Without its places a program breaks the same rules at the same rows, the same annotations hold in
-- its bodies, and it becomes the same C program.
pub record PlacesDontCount (p : Program) : Type 0 where
  pub kinds : breaks (unplaced_program p) ≡ breaks p
  pub local : (f : Func) (a : Notes) →
      IsLocalIn (unplaced_program p) (unplaced_func f) a ↔ IsLocalIn p f a
  pub instances : (f : Func) (o : Option ℕ) →
      instance (unplaced_program p) (unplaced_func f) o ≡ unplaced_func (instance p f o)
  pub origins : (f : Func) → origins (unplaced_program p) (unplaced_func f) ≡ origins p f
  pub lowering : lowered (unplaced_program p) ≡ lowered p
