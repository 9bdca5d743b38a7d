-- What is written for a row is read as that row, what is read was written so, and its text is
-- exact.
use Rattle.std.specs.Prelude.{◌≡◌, ◌≤◌, ℕ, false, List, Some, IfSome}
use Rattle.serde_json.specs.Data.{Data, depth}
use Rattle.serde_json.specs.Written.{has_float}
use Rattle.cert_rows.specs.Parts.{Part, Fields}
use Rattle.cert_rows.specs.Values.{Shape}
use Rattle.cert_rows.specs.Rows.{Row, row_data, row_part}

-- ---- written, then read

-- the value was written for what is read of it
abbrev pub Reads : {A : Type 0} → Part A → Data → Type 0
Reads p d = IfSome (p.of_data d) (λ a. (d ≡ p.data_of a) × p.Fits a)

pub record IsPart {A : Type 0} (p : Part A) : Type 0 where
  pub back : (a : A) → p.Fits a → p.of_data (p.data_of a) ≡ Some a
  pub reads : (d : Data) → Reads p d

abbrev pub ReadsAll : {A : Type 0} → Fields A → List Data → Type 0
ReadsAll f ds = IfSome (f.of_items ds) (λ a. (ds ≡ f.items a) × f.Fits a)

pub record AreFields {A : Type 0} (f : Fields A) : Type 0 where
  pub back : (a : A) → f.Fits a → f.of_items (f.items a) ≡ Some a
  pub reads : (ds : List Data) → ReadsAll f ds

-- A value of JSON is read as a row exactly where it is what is written for a row that fits.
abbrev pub RowsAreReadAsWritten : Type 0
RowsAreReadAsWritten = (w : Shape) → IsPart (row_part w)

-- ---- its text

-- Such a value's text is exact, and is read back: the value nests at most so deep, and each of its
-- numbers is whole.
pub record IsExact (most : ℕ) (d : Data) : Type 0 where
  pub nests : depth d ≤ most
  pub whole : has_float d ≡ false

abbrev pub RowsAreExact : Type 0
RowsAreExact = (w : Shape) (r : Row) → IsExact 5 (row_data w r)
