-- What the points of an accepted program show.
use Rattle.std.specs.Prelude.{◌≡◌, ℕ, false, List, map, Contains, Option, Some, slice_get}
use Rattle.vlt_core.specs.Core.{Tok, Func, Program}
use Rattle.vlt_core.specs.Bodies.{body_flow}
use Rattle.vlt_core.specs.Instances.{instance, origins}
use Rattle.vlt_core.specs.Least.{notes_in}
use Rattle.vlt_core.specs.Local.{Notes}
use Rattle.vlt_core_laws.specs.Fit.{IsWellFormed}
use Rattle.vlt_points.specs.Lines.{Point, ArePoints, tokens_of}
use Rattle.cert_format.specs.Notes.{Note}
use Rattle.cert_least_laws.specs.LeastNotes.{note_at, IsLeastCertificate}
use Rattle.cert_points_laws.specs.Noted.{AreNotedBlock}

-- the points of an instance show the annotation, of each token of the function
abbrev pub ShowNotes : Program → Func → (origin : Option ℕ) → Notes → List Point → Type 0
ShowNotes p f o a points = (t : Tok) → Contains (tokens_of f) t →
    AreNotedBlock a t 0 (body_flow p (instance p f o)) (map (λ m. m t) points)

-- In each instance of each body of a program with a least certificate the points show that instance's
-- annotation.
abbrev pub PointsShowCertificates : Type 0
PointsShowCertificates =
    (p : Program) (all : List (List Note)) → IsWellFormed p → IsLeastCertificate p all →
    (g i : ℕ) (f : Func) (o : Option ℕ) (notes : List Note) (points : List Point) →
    slice_get p.fns g ≡ Some f → f.external ≡ false → slice_get (origins p f) i ≡ Some o →
    slice_get all g ≡ Some notes → ArePoints p f o points →
    ShowNotes p f o (notes_in (map (note_at i) notes)) points
