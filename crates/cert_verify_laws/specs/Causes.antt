-- Causes for which no text's program lacks an answer, and no accepted one a certificate.
use Rattle.std.specs.Prelude.{◌≡◌, ℕ, false, Option, Some, slice_get}
use Rattle.vlt_core.specs.Core.{Func, Program}
use Rattle.vlt_core.specs.Derives.{IsAccepted}
use Rattle.vlt_core.specs.Instances.{instance, IsOrigin}
use Rattle.vlt_core.specs.Bodies.{body_flow}
use Rattle.vlt_rows.specs.Unfit.{HasNoFlow}
use Rattle.vlt_flow_maps.specs.Unfit.{HasNoStart}
use Rattle.vlt_faults.specs.Judge.Faulty.{HasNoNumber}
use Rattle.vlt_fit_laws.specs.Unfit.{HasUnfitBody}
use Rattle.vlt_witness.specs.Unfit.{IsUnfit}
use Rattle.cert_values.specs.Declarations.Names.{HasTextNames}
use Rattle.cert_text_laws.specs.Texts.{IsProgramOfTexts}
use Rattle.cert_emit.specs.Causes.{HasRefused, HasUnfit}

-- Each of its names is UTF-8, some annotation holds in each of its bodies, and each body can be walked and
-- has notes.
pub record CanBeCertified (p : Program) : Type 0 where
  pub named : HasTextNames p
  pub annotated : HasRefused p → ⊥
  pub noted : HasUnfit p → ⊥

abbrev pub AcceptedTextsCanBeCertified : Type 0
AcceptedTextsCanBeCertified =
    (p : Program) → IsProgramOfTexts p → IsAccepted p → CanBeCertified p

-- ---- bodies of texts, accepted or not

-- In no instance of a body does a row, or an entry of the clause, name states of which the code has no
-- set, and its tokens have numbers: the code has its flow, and a map for it to begin with.
pub record HasFlows (p : Program) : Type 0 where
  pub flow : (g : ℕ) (f : Func) (o : Option ℕ) → slice_get p.fns g ≡ Some f →
      f.external ≡ false → IsOrigin p f o → HasNoFlow p (instance p f o) → ⊥
  pub start : (g : ℕ) (f : Func) (o : Option ℕ) → slice_get p.fns g ≡ Some f →
      f.external ≡ false → IsOrigin p f o → HasNoStart p (instance p f o) → ⊥

abbrev pub TextsHaveFlows : Type 0
TextsHaveFlows = (p : Program) → IsProgramOfTexts p → HasFlows p

-- Whatever instance of a body is refused, all in it has numbers: statements, rows, joins and tokens.
abbrev pub TextsHaveNumbers : Type 0
TextsHaveNumbers =
    (p : Program) → IsProgramOfTexts p → (g : ℕ) (f : Func) (o : Option ℕ) →
    slice_get p.fns g ≡ Some f → f.external ≡ false → IsOrigin p f o →
    HasNoNumber (body_flow p (instance p f o)) → ⊥

-- so the check tells of each whether it is accepted
abbrev pub TextsAreJudged : Type 0
TextsAreJudged = (p : Program) → IsProgramOfTexts p → HasUnfitBody p → ⊥

-- paths through a body can be searched for
abbrev pub TextsCanBeSearched : Type 0
TextsCanBeSearched =
    (p : Program) → IsProgramOfTexts p → (g : ℕ) (f : Func) (o : Option ℕ) →
    slice_get p.fns g ≡ Some f → f.external ≡ false → IsOrigin p f o →
    IsUnfit p (instance p f o) → ⊥
