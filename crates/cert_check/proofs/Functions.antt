-- The tests of functions, of all functions, and the numbers of their statements.
use Rattle.std.proofs.Common.{◌≡◌, ◌⊎◌, ◌+◌, ℕ, zero, suc, add-one, List, [], ◌∷◌, ◌++◌, take, Option, Some, None, refl, sym, ap, ◌∙◌, subst, ⊎_elim, arith}
use Rattle.std.specs.Prelude.{slice_get}
use Rattle.std.specs.List.{flat_map, enumerate_from, sum_by, fold}
use Rattle.vlt_core.specs.Core.{a_key, Func, Program}
use Rattle.vlt_core.specs.Maps.{absent, wants_absent}
use Rattle.vlt_core.specs.Flow.{size_block}
use Rattle.vlt_core.specs.Bodies.{body_flow}
use Rattle.vlt_core.specs.Instances.{instance, origins, bound_in}
use Rattle.vlt_core.specs.Least.{first_number}
use Rattle.cert_format.specs.Notes.{Note}
use Rattle.cert_fit_laws.specs.Annotation.{annotation, IsLocalCertificate}
use Rattle.cert_check.specs.Tests.{Test, Hold, FirstFails, Refusal, Failure, refused, lost, refusal, body_tests, instance_tests, function_tests}
use Rattle.cert_check.specs.Whole.{ProgramRefusal, HoldAt, IsRefusedAt, IsFirstRefusal}
use Rattle.cert_check.proofs.Holding.{tests_local, left, right, both}
use Rattle.cert_check.proofs.OneRefusal.{none_fails, fails_one_way, numbers}

-- ---- lists

some_same : {A : Type 0} (x y : A) → (let o : Option A = Some x in o ≡ Some y) → x ≡ y
some_same x y e = cc

none_some : {A : Type 0} {X : Type 0} (x : A) → (let o : Option A = None in o ≡ Some x) → X
none_some x e = cc

nothing_after : (xs : List Test) → xs ++ [] ≡ xs
nothing_after [] = refl
nothing_after (x ∷ xs) = ap (λ l. x ∷ l) (nothing_after xs)

module _ {A : Type 0} (go : ℕ × A → List Test) where
  hold_each : (k : ℕ) (xs : List A) (i : ℕ) (x : A) → slice_get xs i ≡ Some x → Hold (flat_map go (enumerate_from k xs)) → Hold (go (k + i, x))
  hold_each k [] i x at h = none_some x at
  hold_each k (y ∷ ys) zero x at h =
      subst (λ z. Hold (go (k + 0, z))) (some_same y x at) (subst (λ n. Hold (go (n, y))) (let e : k ≡ k + 0 = omega arith in e) (left (go (k, y)) (flat_map go (enumerate_from (k + 1) ys)) h))
  hold_each k (y ∷ ys) (suc i) x at h =
      subst (λ n. Hold (go (n, x))) (let e : k + 1 + i ≡ k + suc i = omega arith in e) (hold_each (k + 1) ys i x at (right (go (k, y)) (flat_map go (enumerate_from (k + 1) ys)) h))

  each_hold : (k : ℕ) (xs : List A) → ((i : ℕ) (x : A) → slice_get xs i ≡ Some x → Hold (go (k + i, x))) → Hold (flat_map go (enumerate_from k xs))
  each_hold k [] f = tt
  each_hold k (y ∷ ys) f =
      both (go (k, y)) (flat_map go (enumerate_from (k + 1) ys)) (subst (λ n. Hold (go (n, y))) (let e : k + 0 ≡ k = omega arith in e) (f 0 y refl))
      (each_hold (k + 1) ys (λ i x at. subst (λ n. Hold (go (n, x))) (let e : k + suc i ≡ k + 1 + i = omega arith in e) (f (suc i) x at)))

-- ---- functions

pub one_instance : (p : Program) (f : Func) (notes : List Note) → bound_in f.clause ≡ None → function_tests p f notes ≡ body_tests p f (annotation notes 0)
one_instance p f notes e = ap (λ os. flat_map (instance_tests p f notes) (enumerate_from 0 os)) (only e) ∙ nothing_after (body_tests p f (annotation notes 0))
  where
    only : bound_in f.clause ≡ None → origins p f ≡ None ∷ []
    only e = rw e refl

-- ---- programs

abbrev refusal_from : Failure → Refusal
refusal_from (refused x) = x
refusal_from lost = refusal 0 (a_key 0) absent wants_absent

module _ (p : Program) (all : List (List Note)) where
  pub local_holds : IsLocalCertificate p all → (g : ℕ) → HoldAt p all g
  local_holds loc g f notes there noted own =
      each_hold (instance_tests p f notes) 0 (origins p f)
      (λ i o at. subst (λ n. Hold (body_tests p (instance p f o) (annotation notes n))) (let e : i ≡ 0 + i = omega arith in e) ((tests_local p (instance p f o) (annotation notes i)).1 (loc.each g f notes there noted own i o at)))

  pub holds_local : ((g : ℕ) → HoldAt p all g) → IsLocalCertificate p all
  holds_local h = record {
    each = λ g f notes there noted own i o at.
        (tests_local p (instance p f o) (annotation notes i)).0
        (subst (λ n. Hold (body_tests p (instance p f o) (annotation notes n))) (let e : 0 + i ≡ i = omega arith in e) (hold_each (instance_tests p f notes) 0 (origins p f) i o at (h g f notes there noted own)));
  }

  -- a function that is refused isn't one whose tests hold
  pub not_hold : (x : ProgramRefusal) → IsRefusedAt p all x → HoldAt p all x.func → ⊥
  not_hold x r h = none_fails (function_tests p r.f r.notes) _ (h r.f r.notes r.there r.noted r.own) r.first

  pub none_refused : (x : ProgramRefusal) → IsLocalCertificate p all → IsFirstRefusal p all x → ⊥
  none_refused x loc r = not_hold x r.at (local_holds loc x.func)

  same_at : (x y : ProgramRefusal) → IsRefusedAt p all x → IsRefusedAt p all y → x.func ≡ y.func → x ≡ y
  same_at x y a b e =
      let f : a.f ≡ b.f = some_same _ _ (sym a.there ∙ ap (slice_get p.fns) e ∙ b.there) in
      let notes : a.notes ≡ b.notes = some_same _ _ (sym a.noted ∙ ap (slice_get all) e ∙ b.noted) in
      let one = fails_one_way (function_tests p b.f b.notes) _ _ (subst (λ ns. FirstFails (function_tests p b.f ns) (refused (refusal a.number x.tok x.found x.wanted))) notes (subst (λ f. FirstFails (function_tests p f a.notes) (refused (refusal a.number x.tok x.found x.wanted))) f a.first)) b.first in
      alike e one a.counted b.counted
    where
      alike : x.func ≡ y.func → refused (refusal a.number x.tok x.found x.wanted) ≡ refused (refusal b.number y.tok y.found y.wanted) → x.statement ≡ first_number p x.func + a.number → y.statement ≡ first_number p y.func + b.number → x ≡ y
      alike func one s t =
          let same = ap refusal_from one in
          let number : a.number ≡ b.number = ap (λ (r : Refusal). r.statement) same in
          let tok : x.tok ≡ y.tok = ap (λ (r : Refusal). r.tok) same in
          let found : x.found ≡ y.found = ap (λ (r : Refusal). r.found) same in
          let wanted : x.wanted ≡ y.wanted = ap (λ (r : Refusal). r.wanted) same in
          let statement : x.statement ≡ y.statement = s ∙ ap (λ g. first_number p g + a.number) func ∙ ap (λ n. first_number p y.func + n) number ∙ sym t in
          λ i. record { func = func i; statement = statement i; tok = tok i; found = found i; wanted = wanted i }

  pub one_refused : (x y : ProgramRefusal) → IsFirstRefusal p all x → IsFirstRefusal p all y → x ≡ y
  one_refused x y a b =
      ⊎_elim (λ lt. absurd (not_hold x a.at (b.before x.func lt))) (λ r. ⊎_elim (λ e. same_at x y a.at b.at e) (λ lt. absurd (not_hold y b.at (a.before y.func lt))) r) (numbers x.func y.func)

-- ---- numbers of statements

fold_next : {A : Type 0} (size : A → ℕ) (xs : List A) (g n : ℕ) (x : A) → slice_get xs g ≡ Some x → fold (λ a x. a + size x) n (take (suc g) xs) ≡ fold (λ a x. a + size x) n (take g xs) + size x
fold_next size [] g n x at = none_some x at
fold_next size (y ∷ ys) zero n x at = ap (λ z. n + size z) (some_same y x at)
fold_next size (y ∷ ys) (suc g) n x at = fold_next size ys g (n + size y) x at

sum_next : {A : Type 0} (size : A → ℕ) (xs : List A) (g : ℕ) (x : A) → slice_get xs g ≡ Some x → sum_by size (take (suc g) xs) ≡ sum_by size (take g xs) + size x
sum_next size xs g x at = fold_next size xs g 0 x at

pub first_next : (p : Program) (g : ℕ) (f : Func) → slice_get p.fns g ≡ Some f → first_number p (g + 1) ≡ first_number p g + size_block (body_flow p f)
first_next p g f at = rw add-one (sum_next (λ f. size_block (body_flow p f)) p.fns g f at)
