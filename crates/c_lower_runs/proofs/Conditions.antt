-- What the conditions on programs (specs/Lowerable) give.
use Rattle.std.proofs.Common.{◌≡◌, ◌≤◌, ◌<◌, ℕ, zero, suc, ◌+◌, Bool, true, false, if◌then◌else◌, List, [], ◌∷◌, filter, length, Option, Some, None, is_some, slice_get, refl, sym, ap, ◌∙◌, arith}
use Rattle.std.proofs.lemmas.Bool.{false≢true}
use Rattle.std.specs.List.{range_with_len}
use Rattle.vlt_core.specs.Core.{States, Ty, CaseDecl, TypeDecl, Func, Program}
use Rattle.vlt_core.specs.Lookups.{cases_of}
use Rattle.vlt_core.specs.Types.{decl_of, type_in}
use Rattle.vlt_core.specs.KindedHeads.{external_result_broken, is_declared_result}
use Rattle.c_lower_worlds.specs.Naming.Lists.{Each}
use Rattle.c_lower_runs.specs.Lowerable.{IsAnswerSet, IsLowerable}
use Rattle.c_lower_worlds.proofs.OfNaming.KindedBodies.{bodies_are}
use Rattle.c_lower_runs.proofs.EnoughRegisters.{FewPayloads, registers_suffice}
use Rattle.c_lower_runs.proofs.ExternalHeads.{result_row}
use Rattle.c_lower_runs.proofs.AnswerReading.{IsProper}
use Rattle.c_lower_worlds.specs.Naming.KindedParts.{HasKindedBodies}
use Rattle.c_lower_worlds.specs.Operands.{RegistersSuffice}
use Rattle.c_lower_runs.proofs.Calls.{CallsFit}
use Rattle.c_lower_runs.proofs.CallTypes.{calls_fit}

-- ---- sets of states

filtered : (s : States) (k n i : ℕ) → i < n → s (k + i) ≡ true → filter s (range_with_len k n) ≡ [] → ⊥
filtered s k zero i l h e = absurd (omega arith)
filtered s k (suc n) zero l h e = by (s k) (ap s (none k) ∙ h) e
  where
    none : (k : ℕ) → k ≡ k + 0
    none k = omega arith

    never : (k : ℕ) (ns : List ℕ) → k ∷ ns ≡ [] → ⊥
    never k ns e = cc

    by : (b : Bool) → b ≡ true → (if b then k ∷ filter s (range_with_len (k + 1) n) else filter s (range_with_len (k + 1) n)) ≡ [] → ⊥
    by true q e = never k (filter s (range_with_len (k + 1) n)) e
    by false q e = false≢true q
filtered s k (suc n) (suc i) l h e = by (s k) e (filtered s (k + 1) n i (omega arith) (ap s (more k i) ∙ h))
  where
    more : (k i : ℕ) → k + 1 + i ≡ k + suc i
    more k i = omega arith

    never : (k : ℕ) (ns : List ℕ) → k ∷ ns ≡ [] → ⊥
    never k ns e = cc

    by : (b : Bool) → (if b then k ∷ filter s (range_with_len (k + 1) n) else filter s (range_with_len (k + 1) n)) ≡ [] → (filter s (range_with_len (k + 1) n) ≡ [] → ⊥) → ⊥
    by true e later = never k (filter s (range_with_len (k + 1) n)) e
    by false e later = later e

pub proper_set : (s : States) → IsAnswerSet s → IsProper s
proper_set s h = record { below = h.below; some = filtered s 0 32 h.state (h.below h.state h.has) (ap s (none h.state) ∙ h.has) }
  where
    none : (i : ℕ) → 0 + i ≡ i
    none i = omega arith

-- ---- the conditions, as the parts of the law ask them

pub few_payloads : (p : Program) → IsLowerable p → FewPayloads p
few_payloads p h = record { few = λ t. all (cases_of p t) (λ c d at. h.payloads t c d at) }
  where
    all : (cases : List CaseDecl) → ((c : ℕ) (d : CaseDecl) → slice_get cases c ≡ Some d → length d.payload ≤ 8) → Each (λ (c : CaseDecl). length c.payload ≤ 8) cases
    all [] h = tt
    all (d ∷ cases) h = (h 0 d refl, all cases (λ c d at. h (suc c) d at))

-- what the rules say of an external's result: where it refers to objects, their type is declared
pub declared_row : (p : Program) → IsLowerable p → (g : ℕ) (gf : Func) → slice_get p.fns g ≡ Some gf → gf.external ≡ true → (ty : Ty) (t : ℕ) → gf.result ≡ Some ty → type_in ty ≡ Some t → is_some (decl_of p t) ≡ true →
    external_result_broken p gf ty ≡ []
declared_row p h g gf at external ty t q of there = by (decl_of p t) refl there
  where
    by : (o : Option TypeDecl) → decl_of p t ≡ o → is_some (decl_of p t) ≡ true → external_result_broken p gf ty ≡ []
    by None e there = absurd (false≢true (sym (ap is_some e) ∙ there))
    by (Some d) e there =
        let so : is_declared_result p ty ≡ true = rw (of, e) refl in
        ap (λ (b : Bool). if b then external_result_broken p gf ty else []) (sym so) ∙ result_row p h.kinded g gf at external ty q

-- what calls, registers and the bodies of functions need
pub program_parts : (p : Program) → IsLowerable p → HasKindedBodies p × RegistersSuffice p × CallsFit p
program_parts p h = (bodies_are p h.kinded h.operators, registers_suffice p (few_payloads p h), calls_fit p h.kinded)
