-- Notes of the code as the plain ones that they stand for.
use Rattle.std.specs.Prelude.{◌≡◌, ℕ, ◌+◌, List, ◌++◌, map}
use Rattle.cert_format.specs.Notes.{Note, at_loop, at_join}
use Rattle.cert_read_parts.specs.Maps.{maps_of}
use Rattle.cert_read_bodies.specs.declared.notes.MapsNote.{MapsNote}
use Rattle.cert_read_bodies.specs.declared.notes.MapsNote.TheVariants as note
use Rattle.cert_read_bodies.specs.declared.notes.Notes.{Notes}

abbrev pub note_of : MapsNote → Note
note_of (note.Loop n around exit) = at_loop n (maps_of around) (maps_of exit)
note_of (note.Join n maps) = at_join n (maps_of maps)

abbrev pub notes_of : Notes → List Note
notes_of x = map note_of x.list

-- these notes come to the others, of so many statements
pub record Adds (before after : Notes) (more : List Note) (count : ℕ) : Type 0 where
  pub goes_on : after.next ≡ before.next + count
  pub listed : notes_of after ≡ notes_of before ++ more
