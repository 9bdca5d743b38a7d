-- Least notes hold in each instance.
use Rattle.std.proofs.Common.{◌≡◌, ℕ, zero, suc, ◌==◌, Bool, true, false, if◌then◌else◌, List, [], ◌∷◌, map, Some, slice_get, refl, sym, subst}
use Rattle.vlt_core.specs.Core.{Func, Program}
use Rattle.vlt_core.specs.Instances.{instance}
use Rattle.vlt_core.specs.Local.{IsLocalIn}
use Rattle.vlt_core.specs.Least.{around_in, after_in, notes_in}
use Rattle.vlt_core_laws.proofs.Unbroken.{some_same, some_not_none}
use Rattle.cert_format.specs.Notes.{Note, at_loop, at_join, around_of, following_of}
use Rattle.cert_fit_laws.specs.Annotation.{annotation}
use Rattle.cert_least_laws.specs.LeastNotes.{map_at, note_at, HasLeastNotes, HaveLeastNotes}
use Rattle.cert_least_laws.specs.Laws.{LeastCertificatesAreLocal}

module _ (i : ℕ) where
  same_around : (notes : List Note) (n : ℕ) → map_at i (around_of notes n) ≡ around_in (map (note_at i) notes) n
  same_around [] n = refl
  same_around (at_loop m around exit ∷ notes) n = by (same_around notes n) (m == n)
    where
      by : map_at i (around_of notes n) ≡ around_in (map (note_at i) notes) n → (b : Bool) →
          map_at i (if b then around else around_of notes n) ≡ (if b then map_at i around else around_in (map (note_at i) notes) n)
      by more true = refl
      by more false = more
  same_around (at_join m maps ∷ notes) n = same_around notes n

  same_after : (notes : List Note) (n : ℕ) → map_at i (following_of notes n) ≡ after_in (map (note_at i) notes) n
  same_after [] n = refl
  same_after (at_loop m around exit ∷ notes) n = by (same_after notes n) (m == n)
    where
      by : map_at i (following_of notes n) ≡ after_in (map (note_at i) notes) n → (b : Bool) →
          map_at i (if b then exit else following_of notes n) ≡ (if b then map_at i exit else after_in (map (note_at i) notes) n)
      by more true = refl
      by more false = more
  same_after (at_join m maps ∷ notes) n = by (same_after notes n) (m == n)
    where
      by : map_at i (following_of notes n) ≡ after_in (map (note_at i) notes) n → (b : Bool) →
          map_at i (if b then maps else following_of notes n) ≡ (if b then map_at i maps else after_in (map (note_at i) notes) n)
      by more true = refl
      by more false = more

  pub same_notes : (notes : List Note) → annotation notes i ≡ notes_in (map (note_at i) notes)
  same_notes notes = λ j. record { around = λ n. same_around notes n j; following = λ n. same_after notes n j }

-- the notes of one of the functions
pub least_at : (p : Program) (fs : List Func) (all : List (List Note)) → HaveLeastNotes p fs all → (g : ℕ) (f : Func) (notes : List Note) →
    slice_get fs g ≡ Some f → slice_get all g ≡ Some notes → HasLeastNotes p f notes
least_at p [] all have g f notes there noted = absurd (some_not_none f (sym there))
least_at p (x ∷ fs) [] have g f notes there noted = absurd have
least_at p (x ∷ fs) (a ∷ all) have zero f notes there noted =
    subst (λ y. HasLeastNotes p y notes) (some_same x f there) (subst (HasLeastNotes p x) (some_same a notes noted) have.0)
least_at p (x ∷ fs) (a ∷ all) have (suc g) f notes there noted = least_at p fs all have.1 g f notes there noted

pub local_certificate : LeastCertificatesAreLocal
local_certificate p all have = record {
  each = λ g f notes there noted body i o at.
      let least = (least_at p p.fns all have g f notes there noted).body body in
      subst (IsLocalIn p (instance p f o)) (sym (same_notes i notes)) (least.least i o at).local;
}
