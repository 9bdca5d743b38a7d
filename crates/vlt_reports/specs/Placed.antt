-- Places of the code in a text; private contracts alone cite this.
use Rattle.std.specs.Prelude.{◌≡◌, ◌≤◌, ℕ, List, length}
use Rattle.vlt_base.specs.Place.{line_of, column_of}
use Rattle.vlt_reports.specs.declared.places.Place.{Place}

-- the place is a byte of the text, or its end, with its line and its column
pub record IsPlace (text : List ℕ) (p : Place) : Type 0 where
  pub within : p.at ≤ length text
  pub line : p.line ≡ line_of text p.at
  pub column : p.column ≡ column_of text p.at
