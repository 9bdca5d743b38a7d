-- It can't be that of the notes of a certificate neither all tests hold nor one refuses first.
use Rattle.std.proofs.Common.{◌≡◌, ◌⊎◌, ◌<◌, ◌+◌, inl, inr, ⊎_elim, ℕ, zero, suc, Bool, true, false, true≢false, List, [], ◌∷◌, length, Option, Some, None, slice_get, refl, sym, ap, ◌∙◌, subst, arith}
use Rattle.std.specs.List.{flat_map, enumerate_from}
use Rattle.vlt_base.specs.Sure.{Surely}
use Rattle.vlt_base.proofs.Surely.{sure, surely, so}
use Rattle.vlt_core.specs.Core.{Func, Program}
use Rattle.vlt_core.specs.Bodies.{body_flow}
use Rattle.vlt_core.specs.Derives.{start_map}
use Rattle.vlt_core.specs.Instances.{instance, origins}
use Rattle.vlt_core.specs.Least.{first_number}
use Rattle.vlt_core_laws.specs.Scoped.{IsJumpingBlock}
use Rattle.vlt_core_laws.proofs.Unbroken.{some_same, some_not_none}
use Rattle.cert_format.specs.Notes.{Note}
use Rattle.cert_fit_laws.specs.Annotation.{annotation, IsLocalCertificate}
use Rattle.cert_check.specs.Tests.{Test, Hold, Failure, refused, lost, Refusal, FirstFails, body_tests, instance_tests, function_tests}
use Rattle.cert_check.specs.Whole.{ProgramRefusal, HoldAt, IsRefusedAt, IsFirstRefusal}
use Rattle.cert_check.proofs.Telling.{hold_more, all_hold}
use Rattle.cert_check_laws.proofs.Failing.{none_less, answers}
use Rattle.cert_check_laws.proofs.Jumps.{IsFound, both, body}

abbrev Answer : List Test → Type 0
Answer ts = Hold ts ⊎ ((x : Refusal) × FirstFails ts (refused x))

-- the first test that fails isn't that of a jump in no loop
body_found : (p : Program) (f : Func) (notes : List Note) (i : ℕ) → IsJumpingBlock false (body_flow p f) → IsFound (body_tests p f (annotation notes i))
body_found p f notes i jumping = body (annotation notes i) (body_flow p f) None 0 0 (start_map p f) jumping

pub not_lost : (p : Program) (f : Func) (notes : List Note) (i : ℕ) → IsJumpingBlock false (body_flow p f) → FirstFails (body_tests p f (annotation notes i)) lost → ⊥
not_lost p f notes i jumping t = (body_found p f notes i jumping).never t

-- of all instances
instances_found : (p : Program) (f : Func) (notes : List Note) (i : ℕ) (os : List (Option ℕ)) → ((j : ℕ) (o : Option ℕ) → slice_get os j ≡ Some o → IsJumpingBlock false (body_flow p (instance p f o))) →
    IsFound (flat_map (instance_tests p f notes) (enumerate_from i os))
instances_found p f notes i [] jumping = record { never = λ t. t }
instances_found p f notes i (o ∷ os) jumping =
    both (instance_tests p f notes (i, o)) (flat_map (instance_tests p f notes) (enumerate_from (i + 1) os)) (body_found p (instance p f o) notes i (jumping 0 o refl))
    (instances_found p f notes (i + 1) os (λ j q at. jumping (suc j) q at))

answered : (ts : List Test) → (FirstFails ts lost → ⊥) → Surely (Answer ts)
answered ts never = so (answers ts) (λ a. ⊎_elim (λ held. inl held) (λ x. inr (by x.0 x.1)) a)
  where
    by : (x : Failure) → FirstFails ts x → (r : Refusal) × FirstFails ts (refused r)
    by (refused r) t = (r, t)
    by lost t = absurd (never t)

module _ (p : Program) (all : List (List Note)) where
  abbrev IsJumpingIn : Func → Type 0
  IsJumpingIn f = (i : ℕ) (o : Option ℕ) → slice_get (origins p f) i ≡ Some o → IsJumpingBlock false (body_flow p (instance p f o))

  -- of a function with a body
  body_answered : (f : Func) (notes : List Note) → IsJumpingIn f → Surely (Answer (function_tests p f notes))
  body_answered f notes jumping = answered (function_tests p f notes) (instances_found p f notes 0 (origins p f) jumping).never

  -- the function of this number is tested, or refused
  abbrev AnswerAt : ℕ → Type 0
  AnswerAt g = HoldAt p all g ⊎ ((x : ProgramRefusal) × (x.func ≡ g) × IsRefusedAt p all x)

  refusal_from : (g : ℕ) (f : Func) (notes : List Note) → slice_get p.fns g ≡ Some f → slice_get all g ≡ Some notes → f.external ≡ false →
      (r : Refusal) → FirstFails (function_tests p f notes) (refused r) → AnswerAt g
  refusal_from g f notes there noted own r t = inr (
    record { func = g; statement = first_number p g + r.statement; tok = r.tok; found = r.found; wanted = r.wanted },
    refl,
    record { f = f; notes = notes; there = there; noted = noted; own = own; number = r.statement; counted = refl; first = t },
  )

  module _ (jumping : (g : ℕ) (f : Func) → slice_get p.fns g ≡ Some f → f.external ≡ false → IsJumpingIn f) where
    own_answered : (g : ℕ) (f : Func) (notes : List Note) → slice_get p.fns g ≡ Some f → slice_get all g ≡ Some notes → f.external ≡ false → Surely (AnswerAt g)
    own_answered g f notes there noted own =
        so (body_answered f notes (jumping g f there own)) (λ a. ⊎_elim (λ held. inl (hold held)) (λ x. refusal_from g f notes there noted own x.0 x.1) a)
      where
        hold : Hold (function_tests p f notes) → HoldAt p all g
        hold held h ns at are own = subst (λ ns. Hold (function_tests p h ns)) (some_same notes ns (sym noted ∙ are)) (subst (λ h. Hold (function_tests p h notes)) (some_same f h (sym there ∙ at)) held)

    at_answered : (g : ℕ) → Surely (AnswerAt g)
    at_answered g = by (slice_get p.fns g) (slice_get all g) refl refl
      where
        by : (o : Option Func) (q : Option (List Note)) → slice_get p.fns g ≡ o → slice_get all g ≡ q → Surely (AnswerAt g)
        by None q there noted = sure (inl (λ f notes at are own. absurd (some_not_none f (sym at ∙ there))))
        by (Some f) None there noted = sure (inl (λ h notes at are own. absurd (some_not_none notes (sym are ∙ noted))))
        by (Some f) (Some notes) there noted = either f.external refl
          where
            either : (e : Bool) → f.external ≡ e → Surely (AnswerAt g)
            either true e = sure (inl (λ h ns at are own. absurd (true≢false (sym e ∙ ap (λ (f : Func). f.external) (some_same f h (sym there ∙ at)) ∙ own))))
            either false e = own_answered g f notes there noted e

    before_answered : (n : ℕ) → Surely (((g : ℕ) → g < n → HoldAt p all g) ⊎ ((x : ProgramRefusal) × IsFirstRefusal p all x))
    before_answered zero = sure (inl (λ g less. absurd (none_less g less)))
    before_answered (suc n) =
        surely (before_answered n) (λ a. ⊎_elim (λ held. so (at_answered n) (λ b. ⊎_elim (λ here. inl (λ g less. hold_more p all n held here g (omega (arith, less)))) (λ x. inr (x.0, record { at = x.2; before = λ g less. held g (subst (λ m. g < m) x.1 less) })) b)) (λ x. sure (inr x)) a)

    pub program_answered : Surely (IsLocalCertificate p all ⊎ ((x : ProgramRefusal) × IsFirstRefusal p all x))
    program_answered =
        so (before_answered (length p.fns)) (λ a. ⊎_elim (λ held. inl (all_hold p all (length p.fns) (omega arith) held)) (λ x. inr x) a)
