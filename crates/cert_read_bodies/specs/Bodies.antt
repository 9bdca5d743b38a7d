-- The rows of statements are rows: what is read of a body by its statements' rows alone is what all rows say.
use Rattle.std.specs.Prelude.{◌≡◌, ℕ, Bool, true, if◌then◌else◌, List, ◌++◌, map, Option, Some, None}
use Rattle.serde_json.specs.Data.{Data}
use Rattle.cert_rows.specs.Parts.{All}
use Rattle.cert_rows.specs.Values.{Shape}
use Rattle.cert_rows.specs.Rows.{Row, choose, loop, switch, focus, scope, row_data, row_part, FitsRow}
use Rattle.cert_format.specs.Drafts.{Drafts, list_rows, is_plain, AreTaken}
use Rattle.cert_read_rows.specs.Statements.{stmt_of_data}

abbrev pub is_stmt : Row → Bool
is_stmt (choose e a b m) = true
is_stmt (loop e a m k) = true
is_stmt (switch v hs m) = true
is_stmt (focus y z a) = true
is_stmt (scope a) = true
is_stmt r = is_plain r

-- a row of a statement, and nothing in place of another row
abbrev pub stmt_in : Option Row → Option Row
stmt_in None = None
stmt_in (Some r) = if is_stmt r then Some r else None

-- A value is read as a statement's row where it is read as a row and that is a statement's.
abbrev pub StatementsAreRows : Type 0
StatementsAreRows =
    (w : Shape) (d : Data) → stmt_of_data w.instances d ≡ stmt_in ((row_part w).of_data d)

-- What is read of a body by its statements' rows alone is what all rows say.
abbrev pub BodiesAreRead : Type 0
BodiesAreRead =
    (w : Shape) (n : ℕ) (ss : Drafts) (ds more : List Data) →
    AreTaken 1 n ss (map (stmt_of_data w.instances) more) →
    map (stmt_of_data w.instances) ds
    ≡ map Some (list_rows ss) ++ map (stmt_of_data w.instances) more →
    (rest : List Data) × (ds ≡ map (row_data w) (list_rows ss) ++ rest) ×
    All (FitsRow w) (list_rows ss) × AreTaken 1 n ss (map (row_part w).of_data rest)
