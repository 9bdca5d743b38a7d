-- A body's answer, from the answer for its tests.
use Rattle.std.proofs.Common.{◌≡◌, ◌<◌, ◌≤◌, ◌^◌, ℕ, List, None, Result, Ok, Err, ap, ◌∙◌, sym, subst, arith}
use Rattle.std.specs.Result.{IsErrAnd}
use Rattle.vlt_core.specs.Core.{Program, Func}
use Rattle.vlt_core.specs.Maps.{HeldMap}
use Rattle.vlt_core.specs.Flow.{Block, size_block}
use Rattle.vlt_core.specs.Bodies.{body_flow}
use Rattle.vlt_core.specs.Derives.{start_map}
use Rattle.vlt_core.specs.Local.{Notes}
use Rattle.cert_check.specs.Tests.{Test, FirstFails, lost, body_tests, block_tests}
use Rattle.cert_check.specs.Notes.{plain_notes, annotation_of}
use Rattle.cert_check.specs.Bodies.{IsUnfitFlow}
use Rattle.cert_check.specs.Bodies as flow
use Rattle.cert_check.specs.Unfit.{IsUnfitBody}
use Rattle.cert_check.specs.Unfit as body
use Rattle.cert_check.specs.declared.given.Given.{Given}
use Rattle.cert_check.specs.declared.errors.Stop.{Stop}
use Rattle.cert_check.specs.declared.errors.Stop.TheVariants.{Refused, Unfit, Memory}
use Rattle.cert_check.specs.Outcomes.{HasOutcome, AreTested, HasOutcomeUnless, AreTestedUnless, IsUnlessMemory, refusal_of}
use Rattle.cert_check.proofs.Counting.{AreBelow, blocks, refused_below}
use Rattle.cert_check.proofs.Plain.{ordered_notes}

pub body_is : (p : Program) (f : Func) (a : Notes) (s : Block) (h : HeldMap) → s ≡ body_flow p f → h ≡ start_map p f → block_tests a None 0 0 h s ≡ body_tests p f a
body_is p f a s h flow start = ap (λ s. block_tests a None 0 0 h s) flow ∙ ap (λ h. block_tests a None 0 0 h (body_flow p f)) start

-- the answer of tests that aren't all made
pub unless_stopped : {A B : Type 0} {P : A → Type 0} {Q : B → Type 0} (r : Result B Stop) (s : Result A Stop) (d : Stop) (cause : Type 0) (ts : List Test) → IsErrAnd r (λ x. x ≡ d) → s ≡ Err d → AreTested s ts P →
    AreBelow (2 ^ 62) ts → (FirstFails ts lost → cause) → AreTestedUnless cause r ts Q
unless_stopped {A} {B} {P} {Q} r s d cause ts gives was told few why = record { outcome = by r gives (subst (λ r. HasOutcome r ts P) was told.outcome) }
  where
    one : (e : Stop) → (let r : Result A Stop = Err e in HasOutcome r ts P) → (let r : Result B Stop = Err e in HasOutcomeUnless cause r ts Q)
    one (Refused x) t = (t, refused_below (2 ^ 62) ts (refusal_of x) few t)
    one Unfit t = why t
    one Memory t = tt

    by : (r : Result B Stop) → IsErrAnd r (λ x. x ≡ d) → (let r : Result A Stop = Err d in HasOutcome r ts P) → HasOutcomeUnless cause r ts Q
    by (Ok x) gives t = absurd gives
    by (Err e) gives t = one e (subst (λ e. let r : Result A Stop = Err e in HasOutcome r ts P) (sym gives) t)

-- an error before the tests
pub unless_before : {B : Type 0} {Q : B → Type 0} (r : Result B Stop) (d : Stop) (cause wider : Type 0) (ts : List Test) → IsErrAnd r (λ x. x ≡ d) → IsUnlessMemory cause d → (cause → wider) → AreTestedUnless wider r ts Q
unless_before {B} {Q} r d cause wider ts gives told why = record { outcome = by r gives told }
  where
    one : (e : Stop) → IsUnlessMemory cause e → (let r : Result B Stop = Err e in HasOutcomeUnless wider r ts Q)
    one (Refused x) t = absurd t
    one Unfit t = why t
    one Memory t = tt

    by : (r : Result B Stop) → IsErrAnd r (λ x. x ≡ d) → IsUnlessMemory cause d → HasOutcomeUnless wider r ts Q
    by (Ok x) gives t = absurd gives
    by (Err e) gives t = one e (subst (IsUnlessMemory cause) (sym gives) t)

pub unless_wider : {A : Type 0} {P Q : A → Type 0} (r : Result A Stop) (cause wider : Type 0) (ts : List Test) → AreTestedUnless cause r ts P → (cause → wider) → ((x : A) → P x → Q x) → AreTestedUnless wider r ts Q
unless_wider {A} {P} {Q} r cause wider ts told why f = record { outcome = by r told.outcome }
  where
    by : (r : Result A Stop) → HasOutcomeUnless cause r ts P → HasOutcomeUnless wider r ts Q
    by (Ok x) t = (t.0, f x t.1)
    by (Err (Refused x)) t = t
    by (Err Unfit) t = why t
    by (Err Memory) t = tt

-- ---- a body's flow

-- its tests are of statements that have numbers
pub flow_below : (a : Notes) (h : HeldMap) (s : Block) → size_block s < 2 ^ 62 → AreBelow (2 ^ 62) (block_tests a None 0 0 h s)
flow_below a h s few = blocks (2 ^ 62) a None 0 0 h s (omega arith) (omega (arith, few))

pub small_flow : (n : ℕ) (s : Block) → (n ≡ size_block s) × (n < 2 ^ 62) → size_block s < 2 ^ 62
small_flow n s q = omega (arith, q.0, q.1)

module _ (p : Program) (f : Func) (g : Given) (s : Block) (h : HeldMap) (is : s ≡ body_flow p f) (from : h ≡ start_map p f) where
  unfit : IsUnfitFlow g h s → IsUnfitBody p f (plain_notes g.notes.now) g.instance
  unfit (flow.disordered never) = body.disordered (λ o. never (ordered_notes g.instance g.notes.now o))
  unfit (flow.many_statements q) = body.many_statements (subst (λ s. 2 ^ 62 ≤ size_block s) is q)
  unfit (flow.lost_jump t) = body.lost_jump (subst (λ ts. FirstFails ts lost) (body_is p f (annotation_of g) s h is from) t)

  pub body_told : (r : Result ℕ Stop) → AreTestedUnless (IsUnfitFlow g h s) r (block_tests (annotation_of g) None 0 0 h s) (λ n. (n ≡ size_block s) × (n < 2 ^ 62)) →
      AreTestedUnless (IsUnfitBody p f (plain_notes g.notes.now) g.instance) r (body_tests p f (annotation_of g)) (λ n. (n ≡ size_block (body_flow p f)) × (n < 2 ^ 62))
  body_told r told =
      subst (λ ts. AreTestedUnless (IsUnfitBody p f (plain_notes g.notes.now) g.instance) r ts (λ n. (n ≡ size_block (body_flow p f)) × (n < 2 ^ 62))) (body_is p f (annotation_of g) s h is from)
      (unless_wider r _ _ _ told unfit (λ n q. (q.0 ∙ ap size_block is, q.1)))
