-- Least notes are complete.
use Rattle.std.proofs.Common.{◌≡◌, ℕ, suc, Bool, true, false, List, [], ◌∷◌, Some, slice_get, refl, sym, subst}
use Rattle.vlt_core.specs.Core as core
use Rattle.vlt_core.specs.Core.{Func, Program}
use Rattle.vlt_core.specs.Bodies.{body_flow}
use Rattle.vlt_core.specs.Least.{noted_block}
use Rattle.cert_format.specs.Notes.{Note}
use Rattle.cert_fit_laws.specs.Complete.{IsComplete, AreComplete}
use Rattle.cert_least_laws.specs.LeastNotes.{HasLeastNotes, HaveLeastNotes}
use Rattle.cert_least_laws.specs.Laws.{LeastCertificatesAreComplete}

-- a body without statements has no notes
pub none_noted : (p : Program) (f : Func) → f.body ≡ core.done → [] ≡ noted_block 0 (body_flow p f)
none_noted p f blank = rw blank refl

module _ (p : Program) (f : Func) where
  one_complete : (notes : List Note) → (f.external ≡ true → f.body ≡ core.done) → HasLeastNotes p f notes → IsComplete p f notes
  one_complete notes blank has = by f.external refl
    where
      by : (b : Bool) → f.external ≡ b → IsComplete p f notes
      by true e = subst (IsComplete p f) (sym (has.none e)) (record { names = none_noted p f (blank e); fit = tt })
      by false e = let least = has.body e in record { names = least.names; fit = least.fit }

all_complete : (p : Program) (fs : List Func) (all : List (List Note)) → ((g : ℕ) (f : Func) → slice_get fs g ≡ Some f → f.external ≡ true → f.body ≡ core.done) →
    HaveLeastNotes p fs all → AreComplete p fs all
all_complete p [] [] blank have = tt
all_complete p [] (a ∷ all) blank have = have
all_complete p (f ∷ fs) [] blank have = have
all_complete p (f ∷ fs) (notes ∷ all) blank have = (one_complete p f notes (blank 0 f refl) have.0, all_complete p fs all (λ g h at. blank (suc g) h at) have.1)

pub complete_certificate : LeastCertificatesAreComplete
complete_certificate p all blank have = all_complete p p.fns all blank have
