-- The C frame that stands for a frame of the source.
use Rattle.std.specs.Prelude.{◌≡◌, ◌<◌, ◌≤◌, ℕ, false, if◌then◌else◌, List, [], ◌∷◌, Option, Some, None}
use Rattle.vlt_core.specs.Core.{Ty, Func, Program}
use Rattle.vlt_core.specs.Lookups.{var_type}
use Rattle.vlt_meaning.specs.World as source
use Rattle.c_syntax.specs.declared.program.CVar.{CVar}
use Rattle.c_meaning.specs.World.{Value}
use Rattle.c_meaning.specs.Run.{Frame}
use Rattle.c_lower.specs.Slots.{Numbers, slot_vars}
use Rattle.c_lower_worlds.specs.Worlds.{slot_values}
use Rattle.c_lower_worlds.specs.Shapes.{HasShape}

-- the variables have these values, one each
abbrev pub HaveValues : List CVar → List Value → Frame → Type 0
HaveValues [] [] frame = Unit {0}
HaveValues (v ∷ vs) (a ∷ rest) frame = (frame.vars v ≡ Some a) × HaveValues vs rest frame
HaveValues _ _ frame = ⊥

pub record Holds (p : Program) (types : List ℕ) (ty : Ty) (slots : List CVar) (a : source.Value)
    (frame : Frame) : Type 0 where
  pub shape : HasShape p types ty a
  pub at : HaveValues slots (slot_values p ty a) frame

abbrev pub HoldsTyped : Program → (types : List ℕ) → Option Ty → List CVar → source.Value → Frame →
    Type 0
HoldsTyped p ts None slots a frame = ⊥
HoldsTyped p ts (Some ty) slots a frame = Holds p ts ty slots a frame

-- Nothing is said of the slots of a variable without a value: what was moved out of it is in
-- them still.
abbrev pub HoldsVar : Program → (types : List ℕ) → Func → (v : ℕ) → Option source.Value → Frame →
    Type 0
HoldsVar p ts f v None frame = Unit {0}
HoldsVar p ts f v (Some a) frame = HoldsTyped p ts (var_type f v) (slot_vars p f v) a frame

pub record StandsFor (p : Program) (types : List ℕ) (f : Func) (s : source.Frame) (frame : Frame)
    : Type 0 where
  pub depth : frame.depth ≡ s.depth
  pub is_glue : frame.is_glue ≡ false
  pub vars : (v : ℕ) → HoldsVar p types f v (s.vars v) frame

-- ---- temps

-- the variable is a temp between these numbers
pub record IsBetween (t u : Numbers) (v : CVar) : Type 0 where
  pub from : (if v.reference then t.p else t.n) ≤ v.number
  pub below : v.number < (if v.reference then u.p else u.n)

-- Two frames of one function that differ in no temp between these numbers. Between the first temp
-- of a function and those of a statement is what the switches and foci around the statement need.
pub record Spares (t u : Numbers) (f g : Frame) : Type 0 where
  pub vars : (v : CVar) → IsBetween t u v → f.vars v ≡ g.vars v
  pub depth : f.depth ≡ g.depth
  pub is_glue : f.is_glue ≡ g.is_glue
