-- Where the numbers of variables and fields stand in C.
use Rattle.std.specs.Prelude.{◌≡◌, ℕ, ℤ, true, List, [], ◌∷◌, Some, Ok, slice_get}
use Rattle.vlt_core.specs.Core as core
use Rattle.vlt_core.specs.Core.{VarDecl, Func, Program}
use Rattle.vlt_meaning.specs.World as source
use Rattle.vlt_meaning.specs.Values.{number_of}
use Rattle.c_meaning.specs.World.{World, number}
use Rattle.c_meaning.specs.Values.{value_of}
use Rattle.c_meaning.specs.Run.{Frame}
use Rattle.c_syntax.specs.C as c
use Rattle.c_syntax.specs.declared.program.CCell.TheVariants as cell
use Rattle.c_lower.specs.Slots.{of_number, slot_of, touched_cells, cell_sorts, first_temps}
use Rattle.c_lower_worlds.specs.Operators.Expressions.{LeavesStand}

-- each variable that has a number is one of the function's, and has the number in its slot
pub record NumbersStand (p : Program) (f : Func) (s : source.Frame) (frame : Frame) : Type 0 where
  pub declared : (v : ℕ) (z : ℤ) → s.vars v ≡ Some (source.one (source.number z)) →
      (d : VarDecl) × (slice_get f.vars v ≡ Some d)
  pub slots : (v : ℕ) (z : ℤ) → s.vars v ≡ Some (source.one (source.number z)) → frame.vars (slot_of p f v) ≡ Some (number z)

-- A field has one cell, of the block that the variable refers to, and the cell's value in C is this number.
pub record HasCell (p : Program) (f : Func) (x position : ℕ) (frame : Frame) (w : World) (z : ℤ) : Type 0 where
  pub index : ℕ
  pub cells : touched_cells p f x position ≡ cell.Number (slot_of p f x).number index ∷ []
  pub sorts : cell_sorts p f x position ≡ of_number ∷ []
  pub declared : (d : VarDecl) × (slice_get f.vars x ≡ Some d)
  pub refers : (slot_of p f x).reference ≡ true
  pub value : value_of (c.cell (cell.Number (slot_of p f x).number index)) frame.vars w.blocks ≡ Ok (number z)

abbrev pub FieldsStand : Program → Func → source.Frame → List source.Object → Frame → World → Type 0
FieldsStand p f s objects frame w =
    (x i : ℕ) (z : ℤ) → number_of p f (core.field x i) s objects ≡ Ok z → HasCell p f x i frame w z

-- Then the premise of the law on expressions holds of the first temps: slots lie below them.
abbrev pub LeavesStandThere : Type 0
LeavesStandThere = (p : Program) (f : Func) (s : source.Frame) (objects : List source.Object) (frame : Frame) (w : World) →
    NumbersStand p f s frame → FieldsStand p f s objects frame w → LeavesStand p f s objects (first_temps p f) frame w
