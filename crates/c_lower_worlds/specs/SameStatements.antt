-- What is promised of a statement, a block and an arm, where so many units of fuel are left at
-- most.
use Rattle.std.specs.Prelude.{◌≤◌, ◌<◌, ℕ, Bool}
use Rattle.vlt_core.specs.Core.{Form, Block, Stmts, Arms, no_arms, arm, Func, Program}
use Rattle.vlt_core.specs.KindedScopes.{Ids, Around}
use Rattle.vlt_meaning.specs.World as source
use Rattle.vlt_meaning.specs.Run as run
use Rattle.vlt_meaning.specs.Run.{does_form, does_block, does_stmts}
use Rattle.c_syntax.specs.View.{stmts_made}
use Rattle.c_meaning.specs.Run as crun
use Rattle.c_lower.specs.Slots.{Numbers, first_temps}
use Rattle.c_lower.specs.Statements.{form_code, block_code, list_code, body_of}
use Rattle.c_lower_worlds.specs.Operators.Codes.{AreUpTo}
use Rattle.c_lower_worlds.specs.Worlds.{Registers, AreRegisters, c_world}
use Rattle.c_lower_worlds.specs.Given.{IsFed}
use Rattle.c_lower_worlds.specs.Shapes.{AreShaped, types_of}
use Rattle.c_lower_worlds.specs.Frames.{StandsFor}
use Rattle.c_lower_worlds.specs.Same.{Same}
use Rattle.c_lower_worlds.specs.Naming.KindedParts.{IsKindedForm, IsKindedBlock, AreKinded}
use Rattle.c_lower_worlds.specs.Naming.Naming.{IsInScope}
use Rattle.c_lower_worlds.specs.Naming.Functions.{IsFunction}

-- all that a statement is begun with
pub record Begins (p : Program) (f : Func) (fuel : ℕ) (s : source.Frame) (w : source.World)
    (frame : crun.Frame) (g : Registers) : Type 0 where
  pub stands : StandsFor p (types_of w.objects) f s frame
  pub shaped : AreShaped p w.objects
  pub registers : AreRegisters g
  pub fuel_left : w.fuel ≤ fuel
  pub fed : IsFed w.input w.answers

module _ (p : Program) (r : run.Setup) (R : crun.Setup) (m : run.Meaning) (cm : crun.Meaning)
    (n : ℕ) where
  abbrev pub IsSameForm : Func → Form → Type 0
  IsSameForm f form =
      (around : Around) (ids : Ids) (t : Numbers) (k : ℕ) (s : source.Frame) (w : source.World)
      (frame : crun.Frame) (g : Registers) (i : ℕ) →
      IsKindedForm p f around ids form → AreUpTo (first_temps p f) t → k ≤ n →
      Begins p f k s w frame g →
      Same p f t k frame (does_form r m f form s w)
      (crun.does_stmts R cm i (stmts_made (form_code p f t form).stmts) frame (c_world p g w))

  -- of a statement with blocks, or a call: references in scope are what their keys name
  abbrev pub IsSameFormIn : Func → Form → Type 0
  IsSameFormIn f form =
      (around : Around) (ids : Ids) (t : Numbers) (k : ℕ) (s : source.Frame) (w : source.World)
      (frame : crun.Frame) (g : Registers) (i : ℕ) →
      IsKindedForm p f around ids form → AreUpTo (first_temps p f) t → k ≤ n →
      Begins p f k s w frame g → IsInScope f ids s →
      Same p f t k frame (does_form r m f form s w)
      (crun.does_stmts R cm i (stmts_made (form_code p f t form).stmts) frame (c_world p g w))

  abbrev pub IsSameBlock : Func → Block → Type 0
  IsSameBlock f b =
      (around : Around) (ids : Ids) (t : Numbers) (k : ℕ) (s : source.Frame) (w : source.World)
      (frame : crun.Frame) (g : Registers) (i : ℕ) →
      IsKindedBlock p f around ids b → AreUpTo (first_temps p f) t → k ≤ n →
      Begins p f k s w frame g → IsInScope f ids s →
      Same p f t k frame (does_block r m f b s w)
      (crun.does_stmts R cm i (body_of (block_code p f t b)) frame (c_world p g w))

  abbrev pub AreSame : Func → Stmts → Type 0
  AreSame f ss =
      (around : Around) (ids : Ids) (ended : Bool) (t : Numbers) (k : ℕ) (s : source.Frame)
      (w : source.World) (frame : crun.Frame) (g : Registers) (i : ℕ) →
      AreKinded p f around ids ended ss → AreUpTo (first_temps p f) t → k ≤ n →
      Begins p f k s w frame g → IsInScope f ids s →
      Same p f t k frame (does_stmts r m f ss s w)
      (crun.does_stmts R cm i (body_of (list_code p f t ss)) frame (c_world p g w))

  abbrev pub AreSameArms : Func → Arms → Type 0
  AreSameArms f no_arms = Unit {0}
  AreSameArms f (arm c vs b rest) = IsSameBlock f b × AreSameArms f rest

  -- what follows once a unit of fuel is spent
  abbrev pub RestIsSame : Type 0
  RestIsSame =
      (f : Func) (ss : Stmts) (around : Around) (ids : Ids) (ended : Bool) (t : Numbers) (k : ℕ)
      (s : source.Frame) (w : source.World) (frame : crun.Frame) (g : Registers) (i : ℕ) →
      IsFunction p f → AreKinded p f around ids ended ss → AreUpTo (first_temps p f) t → k < n →
      Begins p f k s w frame g → IsInScope f ids s →
      Same p f t k frame (m f ss s w) (cm i (body_of (list_code p f t ss)) frame (c_world p g w))
