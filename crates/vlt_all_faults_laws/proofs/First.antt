-- The first fault that is listed is the first fault.
use Rattle.std.proofs.Common.{◌≡◌, ◌<◌, ◌+◌, ℕ, zero, suc, MatchBool, Bool, true, false, ⊎_elim, refl, sym, ap, ◌∙◌, subst, Option, Some, None, slice_get, List, [], ◌∷◌, arith}
use Rattle.vlt_core.specs.Core.{Func, Program}
use Rattle.vlt_core.specs.Instances.{instance, IsOrigin}
use Rattle.vlt_core.specs.Faults.{HasFault, FlowFault, IsFirstOfAll, IsFirstFault}
use Rattle.vlt_core_laws.proofs.Told.{one_spot}
use Rattle.vlt_all_faults_laws.specs.Each.{Finding, IsFinding, AreFindings, AreFindingsOf, AreFindingsIn}
use Rattle.vlt_all_faults_laws.specs.Laws.{fault_at, BeginsWith}
use Rattle.vlt_all_faults_laws.proofs.Once.{head_or}
use Rattle.vlt_all_faults_laws.proofs.Accepted.{none_listed}

some_same : (f g : Func) → Some f ≡ Some g → f ≡ g
some_same f g e = grind arith

none_there : {X : Type 0} {x : X} → (let o : Option X = None in o ≡ Some x) → ⊥
none_there e = cc

-- the function's first fault is the first one of its list
first_of : (p : Program) (f : Func) (n : ℕ) (x : FlowFault) (xs : List Finding) (rest : List (List Finding)) → x.function ≡ n →
    IsFirstOfAll p f x.origin x.at x.tok x.kind → AreFindings p f xs → BeginsWith x n (xs ∷ rest)
first_of p f n x [] rest e q a = absurd (a.all x.tok x.origin q.first.spot q.is q.first.faulty)
first_of p f n x (y ∷ ys) rest e q a =
    let z : Finding = record { origin = x.origin; spot = q.first.spot; tok = x.tok; kind = x.kind } in
    let is : IsFinding p f z = record {
      is = q.is;
      faulty = q.first.faulty;
      told = q.first.told;
      first = λ o s own fault. q.least o s x.tok own fault;
      origins = λ o own fault. q.origins o own fault;
    } in
    let same : y ≡ z = ⊎_elim (λ d. d)
    (λ ahead. absurd (ahead.1 ((one_spot y.spot z.spot y.tok z.tok ahead.0 (q.least y.origin y.spot y.tok a.each.0.is a.each.0.faulty)).1)))
    (head_or p f z y ys is a.each a.order.0 (a.all x.tok x.origin q.first.spot q.is q.first.faulty)) in
    ap (fault_at n) same ∙ (λ i. record { function = sym e i; origin = x.origin; at = q.first.place i; tok = x.tok; kind = x.kind })

of_body : (p : Program) (f : Func) (b : Bool) (xs : List Finding) → b ≡ false → MatchBool b (xs ≡ []) (AreFindings p f xs) → AreFindings p f xs
of_body p f true xs e q = absurd (cc e)
of_body p f false xs e q = q

empty_or : (p : Program) (f : Func) (b : Bool) (xs : List Finding) → f.external ≡ b → (f.external ≡ false → (o : Option ℕ) → IsOrigin p f o → HasFault p (instance p f o) → ⊥) →
    MatchBool b (xs ≡ []) (AreFindings p f xs) → xs ≡ []
empty_or p f true xs e none q = q
empty_or p f false xs e none q = none_listed p f xs (none e) q.each

-- of the functions from the number n on, among which the faulty one has position k
begins : (p : Program) (x : FlowFault) (q : IsFirstFault p x) (k n : ℕ) (fs : List Func) (all : List (List Finding)) → x.function ≡ n + k → slice_get fs k ≡ Some q.func →
    ((i : ℕ) (f : Func) → slice_get fs i ≡ Some f → slice_get p.fns (n + i) ≡ Some f) → AreFindingsIn p fs all → BeginsWith x n all
begins p x q k n [] all e there at a = absurd (none_there there)
begins p x q k n (f ∷ fs) [] e there at a = absurd a
begins p x q zero n (f ∷ fs) (xs ∷ all) e there at a =
    let same : f ≡ q.func = some_same f q.func there in
    let fits : AreFindingsOf p q.func xs = subst (λ f. AreFindingsOf p f xs) same a.0 in
    first_of p q.func n x xs all (omega (arith, e)) q.first (of_body p q.func q.func.external xs q.with_body fits)
begins p x q (suc k) n (f ∷ fs) (xs ∷ all) e there at a =
    let here : slice_get p.fns n ≡ Some f = subst (λ m. slice_get p.fns m ≡ Some f) (let z : n + 0 ≡ n = omega arith in z) (at 0 f refl) in
    let less : n < x.function = omega (arith, e) in
    let none : xs ≡ [] = empty_or p f f.external xs refl (λ body o own fault. q.before n f o less here body own fault) a.0 in
    subst (λ xs. BeginsWith x n (xs ∷ all)) (sym none)
    (begins p x q k (n + 1) fs all (omega (arith, e)) there
    (λ i g is. subst (λ m. slice_get p.fns m ≡ Some g) (let z : n + suc i ≡ n + 1 + i = omega arith in z) (at (suc i) g is)) a.1)

pub begins_with_first : (p : Program) (x : FlowFault) (all : List (List Finding)) → IsFirstFault p x → AreFindingsIn p p.fns all → BeginsWith x 0 all
begins_with_first p x all q a =
    let e : x.function ≡ 0 + x.function = omega arith in
    begins p x q x.function 0 p.fns all e q.there
    (λ i f there. subst (λ m. slice_get p.fns m ≡ Some f) (let z : i ≡ 0 + i = omega arith in z) there) a
