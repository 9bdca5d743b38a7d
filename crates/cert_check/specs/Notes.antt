-- What the notes of a certificate give to each statement, in one instance of the function.
use Rattle.std.specs.Prelude.{◌<◌, ◌==◌, ℕ, List, [], ◌∷◌, map, if◌then◌else◌, Option, Some, None, slice_get}
use Rattle.vlt_core.specs.Maps.{HeldMap}
use Rattle.vlt_core.specs.Local.{Notes}
use Rattle.vlt_core.specs.declared.notes.TokMap.{TokMap}
use Rattle.vlt_keyset.specs.Pairs.{Pair, AreInOrder}
use Rattle.cert_format.specs.Notes as format
use Rattle.cert_read_bodies.specs.Notes.{note_of}
use Rattle.cert_read_bodies.specs.declared.notes.MapsNote.{MapsNote}
use Rattle.cert_read_bodies.specs.declared.notes.MapsNote.TheVariants as note
use Rattle.cert_fit_laws.specs.Annotation.{annotation}
use Rattle.cert_check.specs.declared.given.Given.{Given}
use Rattle.cert_check.specs.declared.side.Side.{Side}
use Rattle.cert_check.specs.declared.side.Side.TheVariants as side

-- notes of the code as plain ones, of one function and of each
abbrev pub plain_notes : List MapsNote → List format.Note
plain_notes = map note_of

abbrev pub notes_of_all : List (List MapsNote) → List (List format.Note)
notes_of_all = map plain_notes

-- the annotation that notes give in the instance of this number
abbrev pub given_by : List MapsNote → (instance : ℕ) → Notes
given_by notes i = annotation (plain_notes notes) i

abbrev pub annotation_of : Given → Notes
annotation_of g = given_by g.notes.now g.instance

abbrev pub map_at : Side → Notes → ℕ → HeldMap
map_at side.Around a n = a.around n
map_at side.Following a n = a.following n

-- ---- pairs by number; private contracts alone cite these

abbrev pub pairs_in : Option TokMap → List Pair
pairs_in None = []
pairs_in (Some m) = m.pairs

-- the pairs of the instance's map, none where there are fewer maps
abbrev pub pairs_at : List TokMap → (instance : ℕ) → List Pair
pairs_at maps i = pairs_in (slice_get maps i)

-- the pairs at the head of a loop, and those after a loop or a choice
abbrev pub around_of : (instance : ℕ) → List MapsNote → ℕ → List Pair
around_of i [] n = []
around_of i (note.Loop stmt around exit ∷ notes) n = if stmt == n then pairs_at around i else around_of i notes n
around_of i (note.Join stmt maps ∷ notes) n = around_of i notes n

abbrev pub following_of : (instance : ℕ) → List MapsNote → ℕ → List Pair
following_of i [] n = []
following_of i (note.Loop stmt around exit ∷ notes) n = if stmt == n then pairs_at exit i else following_of i notes n
following_of i (note.Join stmt maps ∷ notes) n = if stmt == n then pairs_at maps i else following_of i notes n

abbrev pub pairs_of : Side → (instance : ℕ) → List MapsNote → ℕ → List Pair
pairs_of side.Around i notes n = around_of i notes n
pairs_of side.Following i notes n = following_of i notes n

-- ---- their order; private contracts alone cite this

abbrev pub number_of : MapsNote → ℕ
number_of (note.Loop stmt around exit) = stmt
number_of (note.Join stmt maps) = stmt

-- the instance's maps are in order
abbrev pub IsOrderedNote : (instance : ℕ) → MapsNote → Type 0
IsOrderedNote i (note.Loop stmt around exit) = AreInOrder (pairs_at around i) × AreInOrder (pairs_at exit i)
IsOrderedNote i (note.Join stmt maps) = AreInOrder (pairs_at maps i)

-- the number is below those of all
abbrev pub IsBelowAll : ℕ → List MapsNote → Type 0
IsBelowAll n [] = Unit {0}
IsBelowAll n (x ∷ xs) = (n < number_of x) × IsBelowAll n xs

-- the numbers of statements ascend, and each map of the instance is in order
abbrev pub AreOrdered : (instance : ℕ) → List MapsNote → Type 0
AreOrdered i [] = Unit {0}
AreOrdered i (x ∷ xs) = IsOrderedNote i x × IsBelowAll (number_of x) xs × AreOrdered i xs

abbrev pub IsOrdered : Given → Type 0
IsOrdered g = AreOrdered g.instance g.notes.now
