-- The notes of a certificate aren't unfit, and they have an answer.
use Rattle.std.proofs.Common.{◌≡◌, ◌<◌, ◌≤◌, ◌+◌, ◌^◌, ℕ, suc, Bool, true, false, List, [], ◌∷◌, length, Option, Some, None, slice_get, refl, sym, ap, ◌∙◌, subst, arith}
use Rattle.vlt_core.specs.Core.{Mode, kept, taken, given, fresh, up_to, Entry, Func, Program}
use Rattle.vlt_core.specs.Bodies.{body_flow}
use Rattle.vlt_core.specs.Instances.{Bound, bound_at, or_else, bound_in, instance, origins, IsOriginOf, IsOrigin}
use Rattle.vlt_core.specs.Lookups.{up_to_in, key_states_up_to}
use Rattle.vlt_core.specs.Kinded.{IsKinded, HasKindedParts}
use Rattle.vlt_core.specs.View.{program_of}
use Rattle.vlt_core.specs.declared.program.Program.{Program as CodeProgram}
use Rattle.vlt_core_laws.specs.Fit.{IsWellFormed}
use Rattle.vlt_core_laws.specs.Scoped.{IsJumpingBlock}
use Rattle.vlt_core_laws.proofs.Formed.{formed_bodies}
use Rattle.vlt_core_laws.proofs.Headed.{kinded_parts}
use Rattle.vlt_core_laws.proofs.Origins.{origin_at, origin_is}
use Rattle.vlt_core_laws.proofs.Unbroken.{some_same, some_not_none}
use Rattle.vlt_sound.specs.Sizes.{HasSizes}
use Rattle.cert_format.specs.Notes.{Note}
use Rattle.cert_format.specs.Certificate.{FitsFunction, FitFunctions, FitsCertificate}
use Rattle.cert_fit_laws.specs.Formed.{IsFormed}
use Rattle.cert_fit_laws.proofs.Arms.{have_arms}
use Rattle.cert_fit_laws.proofs.Formed.{formed}
use Rattle.cert_fit_laws.proofs.Listed.{noted, all_at}
use Rattle.cert_fit_laws.proofs.Masked.{IsMaskedFunc}
use Rattle.cert_fit_laws.proofs.MaskedCode.{code_masked}
use Rattle.cert_fit_laws.proofs.States.{have_states}
use Rattle.cert_check.specs.Unfit.{IsUnfitBody, disordered, no_flow, no_start, many_statements, lost_jump, IsUnfitFunc, no_instance, body, IsUnfit, other_count, external_body, unfit_func}
use Rattle.cert_check.specs.Unfit as unfit
use Rattle.cert_check.proofs.Functions.{first_next}
use Rattle.cert_check.proofs.Sizes.{body_size}
use Rattle.cert_check_laws.specs.Laws.{HasFewStatements, CertificatesArentUnfit, CertificatesHaveAnAnswer}
use Rattle.cert_check_laws.proofs.Answering.{not_lost, program_answered}
use Rattle.cert_check_laws.proofs.Limits.{has_flow, has_start}
use Rattle.cert_check_laws.proofs.Order.{notes_in_order}
use Rattle.cert_check_laws.proofs.Sets.{HasSaid, said}

-- there is one list of notes for each function
same_count : (o : Bool) (p : Program) (fs : List Func) (all : List (List Note)) → FitFunctions o p fs all → length all ≡ length fs
same_count o p [] [] h = refl
same_count o p [] (notes ∷ all) h = absurd h
same_count o p (f ∷ fs) [] h = absurd h
same_count o p (f ∷ fs) (notes ∷ all) h = ap (λ n. suc n) (same_count o p fs all h.1)

-- the entry that a clause's bound is of
bound_entry : (es : List Entry) (b : Bound) → bound_in es ≡ Some b → (i : ℕ) × (e : Entry) × (slice_get es i ≡ Some e) × (e.mode ≡ up_to b.state) × (e.key ≡ b.key)
bound_entry [] b is = absurd (some_not_none b (sym is))
bound_entry (x ∷ xs) b is = by x.mode refl (λ more. let q = bound_entry xs b more in (suc q.0, q.1, q.2, q.3, q.4)) is
  where
    Found : Type 0
    Found = (i : ℕ) × (e : Entry) × (slice_get (x ∷ xs) i ≡ Some e) × (e.mode ≡ up_to b.state) × (e.key ≡ b.key)

    by : (m : Mode) → x.mode ≡ m → (bound_in xs ≡ Some b → Found) → or_else (bound_at x.key m) (bound_in xs) ≡ Some b → Found
    by kept mode more is = more is
    by taken mode more is = more is
    by given mode more is = more is
    by fresh mode more is = more is
    by (up_to c) mode more is =
        let same = some_same (record { key = x.key; state = c }) b is in
        (0, x, refl, mode ∙ ap (λ (b : Bound). up_to b.state) same, ap (λ (b : Bound). b.key) same)

some_left : (os : List (Option ℕ)) (i : ℕ) (o : Option ℕ) → slice_get os i ≡ Some o → os ≡ [] → ⊥
some_left os i o at none = some_not_none o (sym (ap (λ os. slice_get os i) (sym none) ∙ at))

too_many : (n : ℕ) → n < 2 ^ 62 → 2 ^ 62 ≤ n → ⊥
too_many n few many = omega (arith, few, many)

module _ (b : Bool) (p : CodeProgram) (all : List (List Note)) (fits : FitsCertificate b (program_of p) all) (kinded : IsKinded (program_of p)) where
  is_formed : IsFormed (program_of p)
  is_formed = formed b (program_of p) all fits

  parts : HasKindedParts (program_of p)
  parts = kinded_parts (program_of p) kinded

  well : IsWellFormed (program_of p)
  well = record {
    kinded = parts;
    states = have_states p is_formed kinded;
    arms = λ g f at. have_arms (program_of p) g f is_formed.some_cases (is_formed.blank g f at) kinded at;
  }

  sizes : HasSizes (program_of p)
  sizes = record { most = is_formed.few_states }

  sets : HasSaid (program_of p)
  sets = said p is_formed parts (λ g f there. (noted b (program_of p) (program_of p).fns all fits.functions g f there).fits.bounds)

  jumping : (g : ℕ) (f : Func) → slice_get (program_of p).fns g ≡ Some f → f.external ≡ false → (i : ℕ) (o : Option ℕ) → slice_get (origins (program_of p) f) i ≡ Some o →
      IsJumpingBlock false (body_flow (program_of p) (instance (program_of p) f o))
  jumping g f there own i o at = (formed_bodies (program_of p) g f o well there own (origin_is (program_of p) f i o at)).fit.jumping

  -- the function's notes are those that fit it
  own_notes : (g : ℕ) (f : Func) (notes : List Note) → slice_get (program_of p).fns g ≡ Some f → slice_get all g ≡ Some notes → FitsFunction b (program_of p) f notes
  own_notes g f notes there at =
      let is = noted b (program_of p) (program_of p).fns all fits.functions g f there in
      subst (FitsFunction b (program_of p) f) (some_same is.notes notes (sym is.at ∙ at)) is.fits

  -- each function has an instance
  some_origin : (g : ℕ) (f : Func) → slice_get (program_of p).fns g ≡ Some f → (o : Option ℕ) × IsOrigin (program_of p) f o
  some_origin g f there = by (bound_in f.clause) refl
    where
      by : (x : Option Bound) → bound_in f.clause ≡ x → (o : Option ℕ) × IsOrigin (program_of p) f o
      by None is = (None, subst (λ x. IsOriginOf (program_of p) f x None) (sym is) tt)
      by (Some x) is =
          let e = bound_entry f.clause x is in
          let k = sets.bounds g f e.0 e.1 x.state there e.2 e.3 in
          let itself : key_states_up_to (program_of p) f e.1.key x.state x.state ≡ true = ap (λ t. up_to_in (program_of p) t x.state x.state) k.typed ∙ k.itself in
          (Some x.state, subst (λ y. IsOriginOf (program_of p) f y (Some x.state)) (sym is) (ap (λ j. key_states_up_to (program_of p) f j x.state x.state) (sym e.4) ∙ itself))

  module _ (few : HasFewStatements (program_of p)) where
    body_fit : (g : ℕ) (f : Func) (notes : List Note) (i : ℕ) (o : Option ℕ) → slice_get (program_of p).fns g ≡ Some f → slice_get all g ≡ Some notes → f.external ≡ false →
        slice_get (origins (program_of p) f) i ≡ Some o → IsUnfitBody (program_of p) (instance (program_of p) f o) notes i → ⊥
    body_fit g f notes i o there at own is (disordered never) = never (notes_in_order b (program_of p) f notes (own_notes g f notes there at) i)
    body_fit g f notes i o there at own is (no_flow never) =
        has_flow (program_of p) is_formed parts g f there kinded sizes well.states sets o (origin_is (program_of p) f i o is) (all_at IsMaskedFunc (program_of p).fns g f (code_masked p).fns there).body own never
    body_fit g f notes i o there at own is (no_start never) = has_start (program_of p) is_formed parts g f there kinded sizes well.states sets o (origin_is (program_of p) f i o is) never
    body_fit g f notes i o there at own is (many_statements many) =
        let next = first_next (program_of p) g f there in
        let less = few (g + 1) in
        let same = body_size (program_of p) f o in
        omega (arith, next, less, many, same)
    body_fit g f notes i o there at own is (lost_jump t) = not_lost (program_of p) (instance (program_of p) f o) notes i (jumping g f there own i o is) t

    func_fits : (g : ℕ) (f : Func) (notes : List Note) → slice_get (program_of p).fns g ≡ Some f → slice_get all g ≡ Some notes → f.external ≡ false → IsUnfitFunc (program_of p) f notes → ⊥
    func_fits g f notes there at own (no_instance none) =
        let o = some_origin g f there in
        let i = origin_at (program_of p) f o.0 o.1 in
        some_left (origins (program_of p) f) i.0 o.0 i.1 none
    func_fits g f notes there at own (body i o listed u) = body_fit g f notes i o there at own listed u

    all_fit : IsUnfit (program_of p) all → ⊥
    all_fit (other_count never) = never (same_count b (program_of p) (program_of p).fns all fits.functions)
    all_fit (unfit.many_statements g many) = too_many _ (few g) many
    all_fit (external_body g f there external never) = never (is_formed.blank g f there external)
    all_fit (unfit_func g f notes there at own u) = func_fits g f notes there at own u

pub arent_unfit : CertificatesArentUnfit
arent_unfit b p all fits kinded few u = all_fit b p all fits kinded few u

pub have_an_answer : CertificatesHaveAnAnswer
have_an_answer b p all fits kinded = program_answered (program_of p) all (jumping b p all fits kinded)
