-- Notes that hold are local as those of a certificate.
use Rattle.std.proofs.Common.{◌≡◌, ℕ, zero, suc, false, List, [], ◌∷◌, map, Option, Some, slice_get, refl, sym, ap, ◌∙◌, subst}
use Rattle.std.specs.Option.{option_map}
use Rattle.std.proofs.lemmas.Option.{slice_get-map}
use Rattle.vlt_core.specs.Core as core
use Rattle.vlt_core.specs.Instances.{instance, origins}
use Rattle.vlt_core.specs.Kinded.{IsKinded}
use Rattle.vlt_core.specs.Local.{IsLocalIn}
use Rattle.vlt_core.specs.Least as code
use Rattle.vlt_core.specs.View.{func_of, program_of}
use Rattle.vlt_core.specs.declared.notes.Annotation.{Annotation}
use Rattle.vlt_core.specs.declared.program.Func.{Func}
use Rattle.vlt_core.specs.declared.program.Program.{Program as CodeProgram}
use Rattle.vlt_core_laws.proofs.Unbroken.{some_same, some_not_none}
use Rattle.cert_format.specs.Notes.{Note}
use Rattle.cert_write.specs.Notes.{fn_notes, notes_in, NotesAreKept}
use Rattle.cert_fit_laws.specs.Annotation.{IsLocalCertificate}
use Rattle.cert_fit_laws.specs.Limits.{IsLimitedProgram}
use Rattle.cert_least_laws.specs.LeastNotes.{note_at}
use Rattle.cert_least_laws.proofs.Holding.{same_notes}
use Rattle.cert_least_texts.specs.Held.{AreHeld, HeldNotesAreLocal, AreHeldBy}
use Rattle.cert_least_texts.proofs.Annotating.{read_again}

pub held_certificate : HeldNotesAreLocal
held_certificate p all have = record {
  each = λ g f notes there noted body i o at.
      subst (IsLocalIn p (instance p f o)) (sym (same_notes i notes)) (have.each g f notes there noted body i o at);
}

-- ---- the notes that are written of annotations

-- the function of the code
function_at : (fs : List Func) (g : ℕ) (h : core.Func) → slice_get (map func_of fs) g ≡ Some h → (f : Func) × (slice_get fs g ≡ Some f) × (func_of f ≡ h)
function_at [] g h at = absurd (some_not_none h (sym at))
function_at (f ∷ fs) zero h at = (f, refl, some_same (func_of f) h at)
function_at (f ∷ fs) (suc g) h at = function_at fs g h at

written_at : (fs : List core.Func) (all : List (List Annotation)) (g : ℕ) (h : core.Func) (own : List Annotation) →
    slice_get fs g ≡ Some h → slice_get all g ≡ Some own → slice_get (notes_in fs all) g ≡ Some (fn_notes h own)
written_at [] all g h own there at = absurd (some_not_none h (sym there))
written_at (f ∷ fs) [] g h own there at = absurd (some_not_none own (sym at))
written_at (f ∷ fs) (a ∷ all) zero h own there at = ap (λ f. Some (fn_notes f a)) (some_same f h there) ∙ ap (λ a. Some (fn_notes h a)) (some_same a own at)
written_at (f ∷ fs) (a ∷ all) (suc g) h own there at = written_at fs all g h own there at

module _ (kept : NotesAreKept) (p : CodeProgram) (kinded : IsKinded (program_of p)) (limited : IsLimitedProgram (program_of p)) (all : List (List Annotation)) (are : AreHeldBy p all) where
  own_held : (g : ℕ) (f : Func) → slice_get p.fns g ≡ Some f → f.external ≡ false →
      (notes : List Note) → slice_get (notes_in (program_of p).fns all) g ≡ Some notes →
      (i : ℕ) (o : Option ℕ) → slice_get (origins (program_of p) (func_of f)) i ≡ Some o →
      IsLocalIn (program_of p) (instance (program_of p) (func_of f) o) (code.notes_in (map (note_at i) notes))
  own_held g f there body notes noted i o at =
      let x = are.each g f there body i o at in
      let own = x.0 in
      let a = x.2 in
      let held = x.4 in
      let listed = slice_get-map func_of p.fns g ∙ ap (option_map func_of) there in
      let is = some_same (fn_notes (func_of f) own) notes (sym (written_at (program_of p).fns all g (func_of f) own listed x.1) ∙ noted) in
      subst (λ notes. IsLocalIn (program_of p) (instance (program_of p) (func_of f) o) (code.notes_in (map (note_at i) notes))) is
      (subst (λ notes. IsLocalIn (program_of p) (instance (program_of p) (func_of f) o) (code.notes_in notes))
      (sym (read_again kept p kinded limited g f listed own i o a x.3 held.complete)) held.local)

  are_held : AreHeld (program_of p) (notes_in (program_of p).fns all)
  are_held = record {
    each = λ g h notes there noted body i o at.
        let x = function_at p.fns g h there in
        subst (λ h. h.external ≡ false → slice_get (origins (program_of p) h) i ≡ Some o → IsLocalIn (program_of p) (instance (program_of p) h o) (code.notes_in (map (note_at i) notes))) x.2
        (λ body at. own_held g x.0 x.1 body notes noted i o at) body at;
  }

  pub held_annotations : IsLocalCertificate (program_of p) (notes_in (program_of p).fns all)
  held_annotations = held_certificate (program_of p) (notes_in (program_of p).fns all) are_held
