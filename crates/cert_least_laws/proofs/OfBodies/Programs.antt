-- An accepted program within the limits surely has a least certificate.
use Rattle.std.proofs.Common.{◌≡◌, ◌≤◌, ◌+◌, ℕ, suc, Bool, true, false, true≢false, if◌then◌else◌, List, [], ◌∷◌, length, Option, Some, None, slice_get, refl, sym, subst, ◌∙◌, arith}
use Rattle.vlt_base.specs.Sure.{Surely}
use Rattle.vlt_base.proofs.Surely.{sure, surely, so}
use Rattle.vlt_core.specs.Core.{SetDecl, TypeDecl, an_abstract, a_struct, a_variant, VarDecl, Func, Program}
use Rattle.vlt_core.specs.Derives.{IsAccepted}
use Rattle.vlt_core.specs.Instances.{instance, IsOrigin, origins}
use Rattle.vlt_core.specs.Kinded.{IsKinded, HasKindedParts}
use Rattle.vlt_core.specs.KindedHeads.{type_broken, head_broken}
use Rattle.vlt_core.specs.KindedBodies.{first_ids, stmts_rows}
use Rattle.vlt_core.specs.Lookups.{set_in, count_in, fields_in, fields_of, cases_in, cases_of}
use Rattle.vlt_core_laws.specs.Fit.{IsWellFormed}
use Rattle.vlt_core_laws.proofs.Formed.{formed_bodies}
use Rattle.vlt_core_laws.proofs.Headed.{kinded_parts, function_empty, head_empty, each_at, ranged_keys, entries_fit}
use Rattle.vlt_core_laws.proofs.Origins.{origin_is}
use Rattle.vlt_core_laws.specs.Unbroken.{EachEmpty}
use Rattle.cert_format.specs.Notes.{Note}
use Rattle.cert_fit_laws.specs.Limits.{IsLimitedSet, IsLimitedType, IsLimitedFunc, IsLimitedProgram}
use Rattle.cert_fit_laws.proofs.Listed.{all_at}
use Rattle.cert_fit_laws.proofs.MappedBodies.{same_noted}
use Rattle.cert_fit_laws.proofs.NarrowNumbers.{Bounds}
use Rattle.cert_fit_laws.proofs.Tables.{count_from, sets_there}
use Rattle.cert_least_laws.specs.LeastNotes.{HasLeastNotes, HaveLeastNotes}
use Rattle.cert_least_laws.specs.Bodies.Programs.{AcceptedProgramsHaveOne}
use Rattle.cert_least_laws.proofs.OfBodies.Making.{IsMade, AreMade, body_notes, made_least, made_one}
use Rattle.cert_least_laws.proofs.OfBodies.Tables.{surely_shown}
use Rattle.cert_least_laws.specs.Bodies.Narrow.{HasNarrow}
use Rattle.cert_least_laws.proofs.OfBodies.Typed.{types_of_vars}

module _ (p : Program) (is : IsLimitedProgram p) where
  few_states : (o : Option ℕ) → count_from p o ≤ 32
  few_states None = omega arith
  few_states (Some i) = by (slice_get p.sets i) refl
    where
      by : (o : Option SetDecl) → slice_get p.sets i ≡ o → count_in o ≤ 32
      by None at = omega arith
      by (Some d) at = (all_at IsLimitedSet p.sets i d is.sets at).few

  pub few_fields : (t : ℕ) → length (fields_of p t) ≤ 32
  few_fields t = by (slice_get p.types t) refl
    where
      by : (o : Option TypeDecl) → slice_get p.types t ≡ o → length (fields_in o) ≤ 32
      by None at = omega arith
      by (Some (an_abstract name set)) at = omega arith
      by (Some (a_struct d)) at = (all_at IsLimitedType p.types t (a_struct d) is.types at).1
      by (Some (a_variant d)) at = omega arith

  pub few_cases : (t : ℕ) → length (cases_of p t) ≤ 32
  few_cases t = by (slice_get p.types t) refl
    where
      by : (o : Option TypeDecl) → slice_get p.types t ≡ o → length (cases_in o) ≤ 32
      by None at = omega arith
      by (Some (an_abstract name set)) at = omega arith
      by (Some (a_struct d)) at = omega arith
      by (Some (a_variant d)) at = (all_at IsLimitedType p.types t (a_variant d) is.types at).2

  pub few_functions : length p.fns ≤ 4096
  few_functions = low (length p.sets) (length p.types) (length p.fns) is.few
    where
      low : (a b c : ℕ) → a + b + c ≤ 4096 → c ≤ 4096
      low a b c few = omega (arith, few)

  bounds : (m : ℕ) (f : Func) → HasKindedParts p → head_broken p m f ≡ [] → IsLimitedFunc f → Bounds p f
  bounds m f kinded head limits = record {
    vars = limits.vars;
    keys = limits.keys;
    fns = few_functions;
    fields = few_fields;
    cases = few_cases;
    states = λ t. few_states (set_in (slice_get p.types t));
    sets = sets_there p kinded;
    typed = λ v d at. each_at (λ (d : VarDecl). type_broken p f d.ty) f.vars v d (types_of_vars p m f head) at;
  }

-- ---- functions

module _ (p : Program) (kinded : IsKinded p) (is : IsLimitedProgram p) (well : IsWellFormed p) (sets : HasNarrow p) (accepted : IsAccepted p) where
  parts : HasKindedParts p
  parts = kinded_parts p kinded

  module _ (g : ℕ) (f : Func) (there : slice_get p.fns g ≡ Some f) (own : f.external ≡ false) where
    head : (m : ℕ) × (head_broken p m f ≡ [])
    head = head_empty p g f parts there

    f_bounds : Bounds p f
    f_bounds = bounds p is head.0 f parts head.1 (all_at IsLimitedFunc p.fns g f is.fns there)

    rows : EachEmpty (stmts_rows p f (record { jumps = false; returns = true }) (first_ids p f) false f.body)
    rows = subst (λ x. EachEmpty (if x then [] else stmts_rows p f (record { jumps = false; returns = true }) (first_ids p f) false f.body)) own (function_empty p g f parts there).1.1

    pub instance_sure : (o : Option ℕ) → IsOrigin p f o → Surely (IsMade p f o)
    instance_sure o origin =
        let fit = formed_bodies p g f o well there own origin in
        so (surely_shown p (instance p f o) fit (accepted g f o there own origin)) (λ shown.
        made_one p g f there f_bounds sets (ranged_keys p head.0 f head.1) (entries_fit p head.0 f head.1) rows o (same_noted p g f kinded (all_at IsLimitedFunc p.fns g f is.fns there).blank there (well.arms g f there) o) fit shown)

    instances_sure : (os : List (Option ℕ)) → ((i : ℕ) (o : Option ℕ) → slice_get os i ≡ Some o → IsOrigin p f o) → Surely (AreMade p f os)
    instances_sure [] each = sure tt
    instances_sure (o ∷ os) each = surely (instance_sure o (each 0 o refl)) (λ x. so (instances_sure os (λ i q at. each (suc i) q at)) (λ y. (x, y)))

    body_sure : Surely ((notes : List Note) × HasLeastNotes p f notes)
    body_sure = so (instances_sure (origins p f) (origin_is p f)) (λ are. (
      body_notes p f f_bounds are,
      record { none = λ e. absurd (true≢false (sym e ∙ own)); body = λ e. made_least p f f_bounds are },
    ))

  function_sure : (g : ℕ) (f : Func) → slice_get p.fns g ≡ Some f → Surely ((notes : List Note) × HasLeastNotes p f notes)
  function_sure g f there = by f.external refl
    where
      by : (b : Bool) → f.external ≡ b → Surely ((notes : List Note) × HasLeastNotes p f notes)
      by true e = sure ([], record { none = λ x. refl; body = λ x. absurd (true≢false (sym e ∙ x)) })
      by false e = body_sure g f there e

  all_sure : (fs : List Func) → ((i : ℕ) (f : Func) → slice_get fs i ≡ Some f → (g : ℕ) × (slice_get p.fns g ≡ Some f)) → Surely ((all : List (List Note)) × HaveLeastNotes p fs all)
  all_sure [] there = sure ([], tt)
  all_sure (f ∷ fs) there =
      let own = there 0 f refl in
      surely (function_sure own.0 f own.1) (λ x. so (all_sure fs (λ i h at. there (suc i) h at)) (λ y. (x.0 ∷ y.0, (x.1, y.1))))

pub have_one : AcceptedProgramsHaveOne
have_one p kinded is well sets accepted = all_sure p kinded is well sets accepted p.fns (λ i f at. (i, at))
