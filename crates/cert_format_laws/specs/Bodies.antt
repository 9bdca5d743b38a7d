-- Rows say one list of statements, and the rows of a body with its maps say that body, without its
-- places, and those maps.
use Rattle.std.specs.Prelude.{◌≡◌, ◌++◌, ℕ, map, Some}
use Rattle.vlt_core.specs.Core as core
use Rattle.cert_format.specs.Places.{unplaced_stmts}
use Rattle.cert_format.specs.Drafts.{Drafts, Rest, list_rows, AreTaken}
use Rattle.cert_format.specs.Notes.{MapNotes}
use Rattle.cert_format.specs.Bodies.{length_of, list_draft, core_list, list_notes, AreWithin}

-- Two lists of statements that the same rows say, as far as they go, are one, and so are the rows
-- after them.
abbrev pub RowsSayOneThing : Type 0
RowsSayOneThing =
    (deep n : ℕ) (x y : Drafts) (more rest : Rest) →
    AreTaken deep n x more → AreTaken deep n y rest →
    map Some (list_rows x) ++ more ≡ map Some (list_rows y) ++ rest → (x ≡ y) × (more ≡ rest)

-- what the rows of a body say, whatever comes after them
pub record IsReadBack (a : MapNotes) (ss : core.Stmts) (x : Drafts)
    (more rest : Rest) : Type 0 where
  pub body : core_list x ≡ unplaced_stmts ss
  pub notes : list_notes 0 x ≡ list_notes 0 (list_draft a 0 ss)
  pub following : rest ≡ more

abbrev pub BodiesAreReadBack : Type 0
BodiesAreReadBack =
    (a : MapNotes) (ss : core.Stmts) (x : Drafts) (more rest : Rest) →
    AreWithin 1 ss → AreTaken 1 (length_of ss) x rest →
    map Some (list_rows (list_draft a 0 ss)) ++ more ≡ map Some (list_rows x) ++ rest →
    IsReadBack a ss x more rest
