-- What is proved of the code of statements.
use Rattle.std.specs.Prelude.{◌≡◌, ℕ, Option}
use Rattle.vlt_core.specs.Core.{Simple, Operand, simple, switch, return, Arms, Func, Program}
use Rattle.vlt_core.specs.Kinded.{IsKinded}
use Rattle.vlt_meaning.specs.Run as run
use Rattle.c_meaning.specs.Run as crun
use Rattle.c_lower_worlds.specs.Naming.Functions.{IsFunction}
use Rattle.c_lower_worlds.specs.Operands.{RegistersSuffice}
use Rattle.c_lower_worlds.specs.SameStatements.{IsSameForm, IsSameFormIn, AreSameArms}

-- the setup of a run
abbrev setup : Program → ℕ → ℕ → run.Setup
setup p heap depth = record { program = p; heap = heap; depth = depth }

-- A statement without blocks does in C what it does in the source, where that isn't a fault: in
-- each function of a program that breaks no rule, and whatever follows once a unit of fuel is
-- spent.
abbrev pub SimpleStatementsAreLowered : Type 0
SimpleStatementsAreLowered =
    (p : Program) → IsKinded p → (heap depth : ℕ) (r : crun.Setup) → r.heap ≡ heap →
    (m : run.Meaning) (cm : crun.Meaning) (n : ℕ) (f : Func) (s : Simple) → IsFunction p f →
    IsSameForm p (setup p heap depth) r m cm n f (simple s)

-- so does a switch whose arms do
abbrev pub SwitchesAreLowered : Type 0
SwitchesAreLowered =
    (p : Program) → IsKinded p → (heap depth : ℕ) (r : crun.Setup) (m : run.Meaning)
    (cm : crun.Meaning) (n : ℕ) (f : Func) (v : ℕ) (arms : Arms) (end : ℕ) → IsFunction p f →
    AreSameArms p (setup p heap depth) r m cm n f arms →
    IsSameFormIn p (setup p heap depth) r m cm n f (switch v arms end)

-- and a return, where there are as many registers as a variant needs
abbrev pub ReturnsAreLowered : Type 0
ReturnsAreLowered =
    (p : Program) → RegistersSuffice p → (heap depth : ℕ) (r : crun.Setup) (m : run.Meaning)
    (cm : crun.Meaning) (n : ℕ) (f : Func) (value : Option Operand) → IsFunction p f →
    IsSameForm p (setup p heap depth) r m cm n f (return value)
