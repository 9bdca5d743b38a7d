-- The text of rows.
use Rattle.std.specs.Prelude.{◌≡◌, ℕ, List}
use Rattle.serde_json.specs.Data.{Data}
use Rattle.serde_json.specs.Written.{compact_text}
use Rattle.cert_rows.specs.Parts.{list}
use Rattle.cert_format.specs.Text.{marked}
use Rattle.cert_format_laws.specs.Texts.{IsWrittenText}

-- the array of the rows as compact JSON, between the marks
abbrev pub text_of_rows : List Data → List ℕ
text_of_rows rows = marked (compact_text (list rows))

-- and that text is read back as the array
pub record IsTextOfRows (rows : List Data) (text : List ℕ) : Type 0 where
  pub compact : text ≡ text_of_rows rows
  pub written : IsWrittenText (compact_text (list rows)) (list rows)
