-- What is so of all of a list is so of each, and the other way round.
use Rattle.std.proofs.Common.{◌≡◌, refl, sym, subst, ℕ, zero, suc, Bool, List, [], ◌∷◌, map, Some, slice_get}
use Rattle.std.specs.List.{flat_map}
use Rattle.std.proofs.lemmas.List.Concat.{flat_map-cons}
use Rattle.vlt_core.specs.Core.{Func, Program}
use Rattle.vlt_core_laws.proofs.Unbroken.{some_same, some_not_none}
use Rattle.cert_rows.specs.Parts.{All}
use Rattle.cert_format.specs.Notes.{Note}
use Rattle.cert_format.specs.Certificate.{FitsFunction, FitFunctions}
use Rattle.cert_format_laws.proofs.Decoding.{all_left, all_right}

pub all_at : {A : Type 0} (P : A → Type 0) (xs : List A) (i : ℕ) (x : A) → All P xs → slice_get xs i ≡ Some x → P x
all_at P [] i x h at = absurd (some_not_none x (sym at))
all_at P (y ∷ ys) zero x h at = subst P (some_same y x at) h.0
all_at P (y ∷ ys) (suc i) x h at = all_at P ys i x h.1 at

pub all_from : {A : Type 0} (P : A → Type 0) (xs : List A) → ((i : ℕ) (x : A) → slice_get xs i ≡ Some x → P x) → All P xs
all_from P [] each = tt
all_from P (x ∷ xs) each = (each 0 x refl, all_from P xs (λ i y at. each (suc i) y at))

pub mapped : {A B : Type 0} (P : B → Type 0) (g : A → B) (xs : List A) (i : ℕ) (x : A) → All P (map g xs) → slice_get xs i ≡ Some x → P (g x)
mapped P g [] i x h at = absurd (some_not_none x (sym at))
mapped P g (y ∷ ys) zero x h at = subst (λ z. P (g z)) (some_same y x at) h.0
mapped P g (y ∷ ys) (suc i) x h at = mapped P g ys i x h.1 at

pub spread : {A B : Type 0} (P : B → Type 0) (g : A → List B) (xs : List A) (i : ℕ) (x : A) → All P (flat_map g xs) → slice_get xs i ≡ Some x → All P (g x)
spread P g [] i x h at = absurd (some_not_none x (sym at))
spread P g (y ∷ ys) zero x h at = subst (λ z. All P (g z)) (some_same y x at) (all_left P (g y) (flat_map g ys) (subst (All P) (flat_map-cons g y ys) h))
spread P g (y ∷ ys) (suc i) x h at = spread P g ys i x (all_right P (g y) (flat_map g ys) (subst (All P) (flat_map-cons g y ys) h)) at

-- ---- the functions of a certificate with their notes

pub record IsNoted (o : Bool) (p : Program) (all : List (List Note)) (g : ℕ) (f : Func) : Type 0 where
  pub notes : List Note
  pub at : slice_get all g ≡ Some notes
  pub fits : FitsFunction o p f notes

pub noted : (o : Bool) (p : Program) (fs : List Func) (all : List (List Note)) → FitFunctions o p fs all → (g : ℕ) (f : Func) → slice_get fs g ≡ Some f → IsNoted o p all g f
noted o p [] all h g f at = absurd (some_not_none f (sym at))
noted o p (x ∷ fs) [] h g f at = absurd h
noted o p (x ∷ fs) (notes ∷ all) h zero f at = record { notes = notes; at = refl; fits = subst (λ y. FitsFunction o p y notes) (some_same x f at) h.0 }
noted o p (x ∷ fs) (notes ∷ all) h (suc g) f at = let is = noted o p fs all h.1 g f at in record { notes = is.notes; at = is.at; fits = is.fits }
