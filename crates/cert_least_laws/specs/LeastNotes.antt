-- The notes of a certificate that are the least annotations of a program's bodies.
use Rattle.std.specs.Prelude.{◌≡◌, ℕ, true, false, List, [], ◌∷◌, map, Option, Some, slice_get}
use Rattle.vlt_core.specs.Core.{Func, Program}
use Rattle.vlt_core.specs.Maps.{HeldMap}
use Rattle.vlt_core.specs.Bodies.{body_flow}
use Rattle.vlt_core.specs.Instances.{instance, origins}
use Rattle.vlt_core.specs.Least as least
use Rattle.vlt_core.specs.Least.{noted_block, IsLeast}
use Rattle.cert_rows.specs.Parts.{All}
use Rattle.cert_rows.specs.Rows.{Maps}
use Rattle.cert_format.specs.Notes.{Note, at_loop, at_join}
use Rattle.cert_format.specs.Bounds.{instances}
use Rattle.cert_fit_laws.specs.Annotation.{held_map, map_or_empty}
use Rattle.cert_fit_laws.specs.Complete.{named_by, FitsNote}

-- ---- the notes of one instance, by ascending origin

abbrev pub map_at : (instance : ℕ) → Maps → HeldMap
map_at i maps = held_map (map_or_empty (slice_get maps i))

abbrev pub note_at : (instance : ℕ) → Note → least.Note
note_at i (at_loop n around exit) = least.at_loop n (map_at i around) (map_at i exit)
note_at i (at_join n maps) = least.at_join n (map_at i maps)

-- ---- functions

-- The notes of a body: those of each loop and each choice that can be passed, in order. Their maps fit
-- rows of the function. In each of its instances they hold, and lie below each annotation that does.
pub record AreLeastNotes (p : Program) (f : Func) (notes : List Note) : Type 0 where
  pub names : map named_by notes ≡ noted_block 0 (body_flow p f)
  pub fit : All (FitsNote (instances p f)) notes
  pub least : (i : ℕ) (o : Option ℕ) → slice_get (origins p f) i ≡ Some o →
      IsLeast p (instance p f o) (map (note_at i) notes)

-- an external has none
pub record HasLeastNotes (p : Program) (f : Func) (notes : List Note) : Type 0 where
  pub none : f.external ≡ true → notes ≡ []
  pub body : f.external ≡ false → AreLeastNotes p f notes

-- ---- programs

abbrev pub HaveLeastNotes : Program → List Func → List (List Note) → Type 0
HaveLeastNotes p [] [] = Unit {0}
HaveLeastNotes p (f ∷ fs) (notes ∷ all) = HasLeastNotes p f notes × HaveLeastNotes p fs all
HaveLeastNotes p _ _ = ⊥

-- The notes of each of its functions. A program has at most one such list
-- (`LeastCertificatesAreOne`).
abbrev pub IsLeastCertificate : Program → (all : List (List Note)) → Type 0
IsLeastCertificate p all = HaveLeastNotes p p.fns all
