-- The answers for functions and for all of them.
use Rattle.std.proofs.Common.{◌≡◌, ◌<◌, ◌≤◌, ◌+◌, ◌^◌, ℕ, zero, suc, true, false, true≢false, List, [], ◌∷◌, map, length, get_or, Option, Some, None, Result, Ok, Err, OnOk, refl, sym, ap, ◌∙◌, subst, arith, ⊎_elim, ◌⊎◌}
use Rattle.std.specs.Prelude.{slice_get}
use Rattle.std.specs.Result.{IsErrAnd}
use Rattle.vlt_core.specs.Core as core
use Rattle.vlt_core.specs.Core.{done}
use Rattle.vlt_core.specs.Flow.{Block, block, size_block}
use Rattle.vlt_core.specs.Bodies.{body_flow, flow_of_stmts}
use Rattle.vlt_core.specs.Least.{first_number}
use Rattle.vlt_core.specs.View.{stmts_of}
use Rattle.vlt_core.specs.declared.program.Stmt.{Stmt}
use Rattle.cert_format.specs.Notes.{Note}
use Rattle.cert_fit_laws.specs.Annotation.{IsLocalCertificate}
use Rattle.cert_check.specs.Tests.{Test, Hold, FirstFails, refused, function_tests}
use Rattle.cert_check.specs.Outcomes.{refusal_of, HasOutcomeUnless, AreTestedUnless}
use Rattle.cert_check.specs.Unfit.{IsUnfitFunc, IsUnfit}
use Rattle.cert_check.specs.Unfit as why
use Rattle.cert_check.specs.Whole.{ProgramRefusal, refusal_in, HoldAt, IsRefusedAt, IsFirstRefusal, IfRefused, IfUnfit}
use Rattle.cert_check.specs.Results.{IsOutcomeAt, IsTestedAt, IsOutcome, IsTested}
use Rattle.cert_check.specs.declared.errors.Refusal.{Refusal}
use Rattle.cert_check.specs.declared.errors.Stop.{Stop}
use Rattle.cert_check.specs.declared.errors.Stop.TheVariants as stop
use Rattle.cert_check.specs.declared.whole.LocalRefusal.{LocalRefusal}
use Rattle.cert_check.specs.declared.whole.LocalError.{LocalError}
use Rattle.cert_check.specs.declared.whole.LocalError.TheVariants as error
use Rattle.cert_check.proofs.Functions.{first_next, holds_local, none_refused, one_refused}

-- ---- functions

pub get_at : {A B : Type 0} (go : A → B) (xs : List A) (i : ℕ) (x : A) → i < length xs → x ≡ get_or xs i x → slice_get (map go xs) i ≡ Some (go x)
get_at go [] i x lt read = absurd (none lt)
  where
    none : i < 0 → ⊥
    none e = omega (arith, e)
get_at go (y ∷ ys) zero x lt read = ap (λ z. Some (go z)) (sym read)
get_at go (y ∷ ys) (suc i) x lt read = get_at go ys i x (omega (arith, lt)) read

some_same : {A : Type 0} (x y : A) → (let o : Option A = Some x in o ≡ Some y) → x ≡ y
some_same x y e = cc

module _ (p : core.Program) (all : List (List Note)) (g first : ℕ) (f : core.Func) (there : slice_get p.fns g ≡ Some f) (from : first ≡ first_number p g) where
  counted : (n : ℕ) → n ≡ size_block (body_flow p f) → first + n ≡ first_number p (g + 1)
  counted n is = let next = first_next p g f there in omega (arith, from, is, next)

  pub external_told : f.external ≡ true → f.body ≡ done → IsTestedAt p all g first (Ok 0)
  external_told is blank = record {
    outcome = (
      counted 0 (sym (ap (λ ss. size_block (core_block ss)) blank)),
      omega arith,
      λ h notes at noted own. absurd (true≢false (sym is ∙ ap (λ (f : core.Func). f.external) (some_same f h (sym there ∙ at)) ∙ own)),
    );
  }
    where
      core_block : core.Stmts → Block
      core_block ss = block (flow_of_stmts p f [] ss) [] f.end

  pub external_unfit : f.external ≡ true → (f.body ≡ done → ⊥) → IsTestedAt p all g first (Err error.Unfit)
  external_unfit is never = record { outcome = why.external_body g f there is never }

  module _ (notes : List Note) (noted : slice_get all g ≡ Some notes) (own : f.external ≡ false) where
    pub func_holds : (n : ℕ) → Hold (function_tests p f notes) → (n ≡ size_block (body_flow p f)) × (n < 2 ^ 62) → IsTestedAt p all g first (Ok n)
    func_holds n held is = record {
      outcome = (
        counted n is.0,
        is.1,
        λ h others at noted_too own_too.
            subst (λ h. Hold (function_tests p h others)) (some_same f h (sym there ∙ at))
            (subst (λ ns. Hold (function_tests p f ns)) (some_same notes others (sym noted ∙ noted_too)) held),
      );
    }

    pub func_refused : (y : LocalRefusal) (x : Refusal) → y ≡ record { func = g; statement = first + x.statement; tok = x.tok; found = x.found; wanted = x.wanted } →
        FirstFails (function_tests p f notes) (refused (refusal_of x)) → IsTestedAt p all g first (Err (error.Refused y))
    func_refused y x is fails = record {
      outcome = subst (λ (y : LocalRefusal). (y.func ≡ g) × IsRefusedAt p all (refusal_in y)) (sym is) (
        refl,
        record { f = f; notes = notes; there = there; noted = noted; own = own; number = x.statement; counted = ap (λ n. n + x.statement) from; first = fails },
      );
    }

    pub func_unfit : IsUnfitFunc p f notes → IsTestedAt p all g first (Err error.Unfit)
    func_unfit u = record { outcome = why.unfit_func g f notes there noted own u }

-- ---- answers by case

pub refused_told : {cause : Type 0} {ts : List Test} {P : ℕ → Type 0} (r : Result ℕ Stop) (x : Refusal) → r ≡ Err (stop.Refused x) → AreTestedUnless cause r ts P → FirstFails ts (refused (refusal_of x)) × (x.statement < 2 ^ 62)
refused_told {cause} {ts} {P} r x e told = subst (λ r. HasOutcomeUnless cause r ts P) e told.outcome

pub unfit_told : {cause : Type 0} {ts : List Test} {P : ℕ → Type 0} (r : Result ℕ Stop) → r ≡ Err stop.Unfit → AreTestedUnless cause r ts P → cause
unfit_told {cause} {ts} {P} r e told = subst (λ r. HasOutcomeUnless cause r ts P) e told.outcome

-- ---- all functions

module _ (p : core.Program) (all : List (List Note)) where
  pub all_stopped : (r : Result (Unit {0}) LocalError) (s : Result ℕ LocalError) (d : LocalError) (g first : ℕ) → IsErrAnd r (λ x. x ≡ d) → s ≡ Err d → IsTestedAt p all g first s →
      ((i : ℕ) → i < g → HoldAt p all i) → IsTested p all r
  all_stopped r s d g first gives was told before = record { outcome = by r gives (subst (IsOutcomeAt p all g first) was told.outcome) }
    where
      one : (e : LocalError) → (let s : Result ℕ LocalError = Err e in IsOutcomeAt p all g first s) → (let r : Result (Unit {0}) LocalError = Err e in IsOutcome p all r)
      one (error.Refused x) t = record { at = t.1; before = λ i lt. before i (subst (λ k. i < k) t.0 lt) }
      one error.Unfit t = t
      one error.Memory t = tt

      by : (r : Result (Unit {0}) LocalError) → IsErrAnd r (λ x. x ≡ d) → (let s : Result ℕ LocalError = Err d in IsOutcomeAt p all g first s) → IsOutcome p all r
      by (Ok u) gives t = absurd gives
      by (Err e) gives t = one e (subst (λ e. let s : Result ℕ LocalError = Err e in IsOutcomeAt p all g first s) (sym gives) t)

  pub hold_more : (g : ℕ) → ((i : ℕ) → i < g → HoldAt p all i) → HoldAt p all g → (i : ℕ) → i < g + 1 → HoldAt p all i
  hold_more g before here i lt = ⊎_elim (λ less. before i less) (λ e. subst (HoldAt p all) (sym e) here) (split lt)
    where
      split : i < g + 1 → (i < g) ⊎ (i ≡ g)
      split lt = grind (arith, lt)

  pub all_hold : (g : ℕ) → length p.fns ≤ g → ((i : ℕ) → i < g → HoldAt p all i) → IsLocalCertificate p all
  all_hold g past before = holds_local p all (λ i f notes there noted own. before i (within i f there) f notes there noted own)
    where
      inside : {A : Type 0} (xs : List A) (i : ℕ) (x : A) → slice_get xs i ≡ Some x → i < length xs
      inside [] i x e = absurd (none x e)
        where
          none : {A : Type 0} (x : A) → (let o : Option A = None in o ≡ Some x) → ⊥
          none x e = cc
      inside (y ∷ ys) zero x e = omega arith
      inside (y ∷ ys) (suc i) x e = let less = inside ys i x e in omega (arith, less)

      within : (i : ℕ) (f : core.Func) → slice_get p.fns i ≡ Some f → i < g
      within i f at = let less = inside p.fns i f at in omega (arith, less, past)

  -- ---- the answer for all

  module _ (r : Result (Unit {0}) LocalError) (told : IsTested p all r) where
    pub is_local : OnOk r (IsLocalCertificate p all)
    is_local = by r told.outcome
      where
        by : (r : Result (Unit {0}) LocalError) → IsOutcome p all r → OnOk r (IsLocalCertificate p all)
        by (Ok u) t = t
        by (Err e) t = tt

    refusal : (x : LocalRefusal) → r ≡ Err (error.Refused x) → IsFirstRefusal p all (refusal_in x)
    refusal x e = subst (IsOutcome p all) e told.outcome

    pub is_refused : IfRefused r (IsFirstRefusal p all)
    is_refused = record { holds = refusal }

    pub is_only : IfRefused r (λ x. (y : ProgramRefusal) → IsFirstRefusal p all y → y ≡ x)
    is_only = record { holds = λ x e y other. one_refused p all y (refusal_in x) other (refusal x e) }

    pub is_never : IfRefused r (λ x. IsLocalCertificate p all → ⊥)
    is_never = record { holds = λ x e loc. none_refused p all (refusal_in x) loc (refusal x e) }

    pub is_unfit : IfUnfit r (IsUnfit p all)
    is_unfit = record { holds = λ e. subst (IsOutcome p all) e told.outcome }

-- ---- lengths

mapped_length : {A B : Type 0} (go : A → B) (xs : List A) → length (map go xs) ≡ length xs
mapped_length go [] = refl
mapped_length go (x ∷ xs) = ap suc (mapped_length go xs)

pub as_many : {A B : Type 0} (go : A → B) (xs : List A) (n : ℕ) → length xs ≤ n → length (map go xs) ≤ n
as_many go xs n few = let e = mapped_length go xs in omega (arith, e, few)

pub same_lengths : {A B C D : Type 0} (go : A → B) (to : C → D) (xs : List A) (ys : List C) → length (map go xs) ≡ length (map to ys) → length xs ≡ length ys
same_lengths go to xs ys e = sym (mapped_length go xs) ∙ e ∙ mapped_length to ys

-- ---- externals

pub blank_of : (xs : List Stmt) → xs ≡ [] → stmts_of xs ≡ done
blank_of xs e = ap stmts_of e

pub filled_of : (xs : List Stmt) → (xs ≡ [] → ⊥) → stmts_of xs ≡ done → ⊥
filled_of [] never e = never refl
filled_of (x ∷ xs) never e = apart _ _ _ e
  where
    apart : (at : ℕ) (s : core.Form) (rest : core.Stmts) → core.next at s rest ≡ done → ⊥
    apart at s rest e = cc
