-- A note by its number; private contracts alone cite this.
use Rattle.std.specs.Prelude.{◌≡◌, ◌<◌, ℕ, List, [], ◌∷◌, length, drop}
use Rattle.cert_read_bodies.specs.declared.notes.MapsNote.{MapsNote}
use Rattle.cert_check.specs.Notes.{number_of, around_of, following_of}

-- the note at the place i is that of the statement n
pub record IsFound (notes : List MapsNote) (i n : ℕ) : Type 0 where
  pub within : i < length notes
  pub number : (x : MapsNote) (rest : List MapsNote) → drop i notes ≡ x ∷ rest → number_of x ≡ n

-- the statement has no note, and so no pairs
pub record HasNoNote (instance : ℕ) (notes : List MapsNote) (n : ℕ) : Type 0 where
  pub around : around_of instance notes n ≡ []
  pub following : following_of instance notes n ≡ []
