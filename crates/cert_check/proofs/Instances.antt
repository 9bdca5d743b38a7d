-- The tests of a function, instance by instance.
use Rattle.std.proofs.Common.{◌≡◌, ◌<◌, ◌≤◌, ◌+◌, ◌^◌, ℕ, suc, add-one, List, [], ◌∷◌, ◌++◌, length, drop, drop-cons, get_or, Option, Some, None, IfSome, Result, Ok, Err, refl, sym, ap, ◌∙◌, subst, arith}
use Rattle.std.specs.List.{flat_map, enumerate_from}
use Rattle.std.specs.Result.{IsErrAnd}
use Rattle.std.proofs.lemmas.List.{drop_all}
use Rattle.vlt_core.specs.Core.{Func, Program}
use Rattle.vlt_core.specs.Flow.{size_block}
use Rattle.vlt_core.specs.Bodies.{body_flow}
use Rattle.vlt_core.specs.Instances.{instance, origins}
use Rattle.vlt_core_laws.proofs.Origins.{listed_at}
use Rattle.cert_format.specs.Notes.{Note}
use Rattle.cert_fit_laws.specs.Annotation.{annotation}
use Rattle.cert_check.specs.Tests.{Test, Failure, Hold, FirstFails, body_tests, instance_tests, function_tests}
use Rattle.cert_check.specs.Outcomes.{HasOutcomeUnless, AreTestedUnless}
use Rattle.cert_check.specs.Unfit.{IsUnfitBody, IsUnfitFunc, no_instance, body}
use Rattle.cert_check.specs.declared.errors.Stop.{Stop}
use Rattle.cert_check.specs.declared.errors.Stop.TheVariants.{Refused, Unfit, Memory}
use Rattle.cert_check.proofs.Sequences.{IsRest, first_here, rest_all, rest_after, rest_trans}
use Rattle.cert_check.proofs.Sizes.{body_size}

split_at : {X : Type 0} (xs : List X) (i : ℕ) (x : X) → i < length xs → x ≡ get_or xs i x → drop i xs ≡ x ∷ drop (i + 1) xs
split_at xs i x lt read = rw add-one (drop-cons xs i x lt ∙ ap (λ y. y ∷ drop (suc i) xs) (sym read))

none_past : {X : Type 0} (xs : List X) → length xs ≤ 0 → xs ≡ []
none_past [] past = refl
none_past (x ∷ xs) past = absurd (omega (arith, past))

-- so many statements, which have numbers below 2^62
abbrev pub IsCounted : Program → Func → ℕ → Type 0
IsCounted p f n = (n ≡ size_block (body_flow p f)) × (n < 2 ^ 62)

-- an error that a `?` hands on
stopped_unless : {A B : Type 0} {P : A → Type 0} {Q : B → Type 0} (r : Result B Stop) (s : Result A Stop) (d : Stop) (cause wider : Type 0) (xs ts : List Test) →
    IsErrAnd r (λ x. x ≡ d) → s ≡ Err d → AreTestedUnless cause s xs P → (cause → wider) → ((z : Failure) → FirstFails xs z → FirstFails ts z) →
    AreTestedUnless wider r ts Q
stopped_unless {A} {B} {P} {Q} r s d cause wider xs ts gives was told why f = record { outcome = by r gives (subst (λ r. HasOutcomeUnless cause r xs P) was told.outcome) }
  where
    one : (e : Stop) → (let r : Result A Stop = Err e in HasOutcomeUnless cause r xs P) → (let r : Result B Stop = Err e in HasOutcomeUnless wider r ts Q)
    one (Refused x) t = (f _ t.0, t.1)
    one Unfit t = why t
    one Memory t = tt

    by : (r : Result B Stop) → IsErrAnd r (λ x. x ≡ d) → (let r : Result A Stop = Err d in HasOutcomeUnless cause r xs P) → HasOutcomeUnless wider r ts Q
    by (Ok x) gives t = absurd gives
    by (Err e) gives t = one e (subst (λ e. let r : Result A Stop = Err e in HasOutcomeUnless cause r xs P) (sym gives) t)

pub out_of_memory : {B : Type 0} {Q : B → Type 0} (r : Result B Stop) (cause : Type 0) (ts : List Test) → IsErrAnd r (λ x. x ≡ Memory) → AreTestedUnless cause r ts Q
out_of_memory {B} {Q} r cause ts gives = record { outcome = by r gives }
  where
    by : (r : Result B Stop) → IsErrAnd r (λ x. x ≡ Memory) → HasOutcomeUnless cause r ts Q
    by (Ok x) gives = absurd gives
    by (Err e) gives = subst (λ e. let r : Result B Stop = Err e in HasOutcomeUnless cause r ts Q) (sym gives) tt

-- the tests of the instances from i on are left
pub record Testing (p : Program) (f : Func) (notes : List Note) (os : List (Option ℕ)) (i : ℕ) (count : Option ℕ) : Type 0 where
  pub is : os ≡ origins p f
  pub rest : IsRest (flat_map (instance_tests p f notes) (enumerate_from i (drop i os))) (function_tests p f notes)
  pub counted : IfSome count (IsCounted p f)
  pub none : count ≡ None → i ≡ 0

some_none : {X : Type 0} {A : Type 0} {x : X} → (let o : Option X = Some x in o ≡ None) → A
some_none e = cc

module _ (p : Program) (f : Func) (notes : List Note) (os : List (Option ℕ)) where
  abbrev go : ℕ × Option ℕ → List Test
  go = instance_tests p f notes

  pub testing_first : os ≡ origins p f → Testing p f notes os 0 None
  testing_first is = record {
    is = is;
    rest = subst (λ os. IsRest (flat_map go (enumerate_from 0 os)) (function_tests p f notes)) (sym is) (rest_all (function_tests p f notes));
    counted = tt;
    none = λ e. refl;
  }

  module _ (i : ℕ) (count : Option ℕ) (o : Option ℕ) (lt : i < length os) (read : o ≡ get_or os i o) (t : Testing p f notes os i count) where
    left_tests : IsRest (go (i, o) ++ flat_map go (enumerate_from (i + 1) (drop (i + 1) os))) (function_tests p f notes)
    left_tests = subst (λ l. IsRest (flat_map go (enumerate_from i l)) (function_tests p f notes)) (split_at os i o lt read) t.rest

    pub testing_more : (n : ℕ) → AreTestedUnless (IsUnfitBody p (instance p f o) notes i) (Ok n) (body_tests p (instance p f o) (annotation notes i)) (IsCounted p (instance p f o)) →
        Testing p f notes os (i + 1) (Some n)
    testing_more n told = record {
      is = t.is;
      rest = rest_trans _ _ _ (rest_after (go (i, o)) (flat_map go (enumerate_from (i + 1) (drop (i + 1) os))) told.outcome.0) left_tests;
      counted = (told.outcome.1.0 ∙ body_size p f o, told.outcome.1.1);
      none = λ e. some_none e;
    }

    pub testing_stops : (r s : Result ℕ Stop) (d : Stop) (Q : ℕ → Type 0) → IsErrAnd r (λ x. x ≡ d) → s ≡ Err d →
        AreTestedUnless (IsUnfitBody p (instance p f o) notes i) s (body_tests p (instance p f o) (annotation notes i)) (IsCounted p (instance p f o)) →
        AreTestedUnless (IsUnfitFunc p f notes) r (function_tests p f notes) Q
    testing_stops r s d Q gives was told =
        stopped_unless r s d _ _ _ _ gives was told (λ u. body i o (listed_at p f os i o t.is lt read) u)
        (λ z first. left_tests.first z (first_here (go (i, o)) (flat_map go (enumerate_from (i + 1) (drop (i + 1) os))) z first))

  pub testing_ends : (i : ℕ) (count : Option ℕ) (n : ℕ) → length os ≤ i → count ≡ Some n → Testing p f notes os i count →
      AreTestedUnless (IsUnfitFunc p f notes) (Ok n) (function_tests p f notes) (IsCounted p f)
  testing_ends i count n past is t = record {
    outcome = (
      t.rest.hold (subst (λ l. Hold (flat_map go (enumerate_from i l))) (sym (drop_all i os past)) tt),
      subst (λ c. IfSome c (IsCounted p f)) is t.counted,
    );
  }

  pub testing_none : (i : ℕ) (count : Option ℕ) → length os ≤ i → count ≡ None → Testing p f notes os i count → IsUnfitFunc p f notes
  testing_none i count past is t = no_instance (sym t.is ∙ none_past os (let e = t.none is in omega (arith, past, e)))
