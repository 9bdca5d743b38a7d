-- Notes that hold, the least ones or others.
use Rattle.std.specs.Prelude.{◌≡◌, ℕ, false, List, map, Option, Some, slice_get}
use Rattle.vlt_core.specs.Core.{Func, Program}
use Rattle.vlt_core.specs.Bodies.{body_flow}
use Rattle.vlt_core.specs.Instances.{instance, origins}
use Rattle.vlt_core.specs.Local.{IsLocalIn}
use Rattle.vlt_core.specs.Least as code
use Rattle.vlt_core.specs.Least.{noted_by, noted_block}
use Rattle.vlt_core.specs.View.{func_of, program_of}
use Rattle.vlt_core.specs.declared.notes.Annotation.{Annotation}
use Rattle.vlt_core.specs.declared.program.Func.{Func as CodeFunc}
use Rattle.vlt_core.specs.declared.program.Program.{Program as CodeProgram}
use Rattle.vlt_flow.specs.Notes.Listed.{note_of}
use Rattle.cert_format.specs.Notes.{Note}
use Rattle.cert_write.specs.Notes.{notes_in}
use Rattle.cert_fit_laws.specs.Annotation.{IsLocalCertificate}
use Rattle.cert_least_laws.specs.LeastNotes.{note_at}
use Rattle.cert_text_laws.specs.Texts.{IsProgramOfTexts}

-- ---- of a certificate

-- In each instance of each body its maps, as notes, hold.
pub record AreHeld (p : Program) (all : List (List Note)) : Type 0 where
  pub each : (g : ℕ) (f : Func) (notes : List Note) → slice_get p.fns g ≡ Some f →
      slice_get all g ≡ Some notes → f.external ≡ false → (i : ℕ) (o : Option ℕ) →
      slice_get (origins p f) i ≡ Some o →
      IsLocalIn p (instance p f o) (code.notes_in (map (note_at i) notes))

abbrev pub HeldNotesAreLocal : Type 0
HeldNotesAreLocal =
    (p : Program) (all : List (List Note)) → AreHeld p all → IsLocalCertificate p all

-- ---- of the code

-- The annotation has a note of each statement that has one, and holds in the function's instance of
-- this origin.
pub record IsHeldIn (p : CodeProgram) (f : CodeFunc) (origin : Option ℕ)
    (a : Annotation) : Type 0 where
  pub complete : map noted_by (map note_of a.maps) ≡
      noted_block 0 (body_flow (program_of p) (instance (program_of p) (func_of f) origin))
  pub local : IsLocalIn (program_of p) (instance (program_of p) (func_of f) origin)
      (code.notes_in (map note_of a.maps))

-- So do those of each body, one of each instance, by ascending origin.
pub record AreHeldBy (p : CodeProgram) (all : List (List Annotation)) : Type 0 where
  pub each : (g : ℕ) (f : CodeFunc) → slice_get p.fns g ≡ Some f → f.external ≡ false →
      (i : ℕ) (o : Option ℕ) → slice_get (origins (program_of p) (func_of f)) i ≡ Some o →
      (own : List Annotation) × (slice_get all g ≡ Some own) ×
      (a : Annotation) × (slice_get own i ≡ Some a) × IsHeldIn p f o a

-- What is written of them holds as notes of a certificate.
abbrev pub HeldAnnotationsAreLocal : Type 0
HeldAnnotationsAreLocal =
    (p : CodeProgram) (all : List (List Annotation)) →
    IsProgramOfTexts (program_of p) → AreHeldBy p all →
    IsLocalCertificate (program_of p) (notes_in (program_of p).fns all)
