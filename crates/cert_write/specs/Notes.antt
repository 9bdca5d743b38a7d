-- The notes of a program as a certificate has them, from those of the code: of each function its
-- annotations, one for each instance.
use Rattle.std.specs.Prelude.{◌≡◌, ℕ, ◌==◌, if◌then◌else◌, List, [], ◌∷◌, map, Option, Some, None}
use Rattle.vlt_core.specs.Core.{Func}
use Rattle.vlt_core.specs.declared.notes.Annotation.{Annotation}
use Rattle.vlt_core.specs.declared.notes.Note as code
use Rattle.vlt_core.specs.declared.notes.Note.TheVariants as note
use Rattle.cert_rows.specs.Values.{ListedMap}
use Rattle.cert_format.specs.Notes.{MapNotes, Note, at_loop, at_join}
use Rattle.cert_format.specs.Bodies.{list_draft, list_notes}
use Rattle.cert_format.specs.Certificate.{body_draft}
use Rattle.cert_values.specs.Heads.{listed_map}

-- the number of the note's statement
abbrev pub number_of : code.Note → ℕ
number_of (note.Loop stmt around exit) = stmt.0
number_of (note.Join stmt m) = stmt.0

-- the first note of the statement of this number
abbrev pub note_at : List code.Note → ℕ → Option code.Note
note_at [] n = None
note_at (x ∷ xs) n = if number_of x == n then Some x else note_at xs n

-- the map at the head of a loop, and the one after a loop or a choice; the empty one where the note
-- has none
abbrev pub around_in : Option code.Note → ListedMap
around_in None = []
around_in (Some (note.Loop stmt around exit)) = listed_map around
around_in (Some (note.Join stmt m)) = []

abbrev pub after_in : Option code.Note → ListedMap
after_in None = []
after_in (Some (note.Loop stmt around exit)) = listed_map exit
after_in (Some (note.Join stmt m)) = listed_map m

-- the maps of each statement, one of each annotation
abbrev pub maps_in : List Annotation → MapNotes
maps_in annotations = record {
  around = λ n. map (λ a. around_in (note_at a.maps n)) annotations;
  following = λ n. map (λ a. after_in (note_at a.maps n)) annotations;
}

-- the notes of a function's loops and of its choices that don't end, in order
abbrev pub fn_notes : Func → List Annotation → List Note
fn_notes f annotations = list_notes 0 (list_draft (maps_in annotations) 0 f.body)

-- of each function; without annotations its notes have no maps
abbrev pub notes_in : List Func → List (List Annotation) → List (List Note)
notes_in [] all = []
notes_in (f ∷ fs) [] = fn_notes f [] ∷ notes_in fs []
notes_in (f ∷ fs) (annotations ∷ all) = fn_notes f annotations ∷ notes_in fs all

-- ---- a function without a bound entry

-- the note itself, with its maps of the one instance
abbrev pub note_of : code.Note → Note
note_of (note.Loop stmt around exit) =
    at_loop stmt.0 (listed_map around ∷ []) (listed_map exit ∷ [])
note_of (note.Join stmt m) = at_join stmt.0 (listed_map m ∷ [])

-- Notes that are just those of the function's statements, in order, are written as they are.
abbrev pub NotesAreKept : Type 0
NotesAreKept =
    (f : Func) (a : Annotation) →
    map note_of a.maps ≡ list_notes 0 (body_draft f (map note_of a.maps)) →
    fn_notes f (a ∷ []) ≡ map note_of a.maps
