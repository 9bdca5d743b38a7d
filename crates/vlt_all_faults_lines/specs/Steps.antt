-- What the steps take and give; private contracts alone cite this.
use Rattle.std.specs.Prelude.{◌≡◌, ℕ, false, List, [], ◌∷◌}
use Rattle.vlt_core.specs.Core.{Func, Program}
use Rattle.vlt_faults.specs.Judge.Faulty.{AreFitIn, HasUntold}
use Rattle.vlt_check_laws.specs.Shown.{IsFault}
use Rattle.vlt_all_faults_laws.specs.Each.{Finding}
use Rattle.vlt_all_faults_laws.specs.Laws.{fault_at}

-- the function's body, if it has one, is fit in each instance
abbrev pub IsFitFunc : Program → Func → Type 0
IsFitFunc p f = f.external ≡ false → AreFitIn p f

-- it has one, of which no fault can be told in some instance
abbrev pub HasUntoldBody : Program → Func → Type 0
HasUntoldBody p f = (f.external ≡ false) × HasUntold p f

-- each is a fault of the function of this number
abbrev pub AreFaultsAt : Program → (number : ℕ) → List Finding → Type 0
AreFaultsAt p n [] = Unit {0}
AreFaultsAt p n (x ∷ xs) = IsFault p (fault_at n x) × AreFaultsAt p n xs
