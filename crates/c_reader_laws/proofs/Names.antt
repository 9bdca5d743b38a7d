-- Declarations that nothing is refused of, also with their names in another order.
use Rattle.std.proofs.Common.{◌≡◌, ◌≤◌, ℕ, ◌+◌, ◌==◌, ◌||◌, IsTrue, Bool, true, false, not, List, [], ◌∷◌, map, refl, sym, ap, ap₂, ◌∙◌, subst, cond, arith}
use Rattle.std.specs.List.{sum_by}
use Rattle.std.specs.List.Sorted.{IsPermutation}
use Rattle.std.proofs.lemmas.Bool.{false≢true}
use Rattle.std.proofs.lemmas.Bool.Decides.{nat_tests}
use Rattle.std.proofs.lemmas.List.Sums.{sum_by-cons}
use Rattle.std.proofs.lemmas.List.Sorted.{sum_by-IsPermutation}
use Rattle.c_syntax.specs.declared.program.CVar.{CVar}
use Rattle.c_syntax.specs.Unit.{Declaration}
use Rattle.c_syntax.specs.Kinds as k
use Rattle.c_syntax.specs.Kinds.{Walk, same_bool, same_variable, is_one_of, names_of}
use Rattle.c_syntax.specs.Canonical.{declaration_of}
use Rattle.c_kinds.proofs.Declared.{quiet, kept, declarations_quiet}
use Rattle.c_kinds.proofs.Main.{bools_same}
use Rattle.c_reader_laws.proofs.Judged.{Calm, passes}

-- each name is new after those, and has the type of its letter
abbrev pub AreNew : List CVar → List Declaration → Type 0
AreNew before [] = Unit {0}
AreNew before (d ∷ ds) = IsTrue (not (is_one_of d.variable before)) × (IsTrue (same_bool d.reference d.variable.reference) × AreNew (d.variable ∷ before) ds)

pub are_new : (before : List CVar) (ds : List Declaration) (w : Walk) → Calm (k.declarations_judged before ds w) → AreNew before ds
are_new before [] w h = tt
are_new before (d ∷ ds) w h =
    let first : Walk = k.skip (k.type_width d.reference) w in
    let second : Walk = k.unless (not (is_one_of d.variable before)) (k.place first) 1 first in
    let third : Walk = k.unless (same_bool d.reference d.variable.reference) (k.place second) 2 second in
    let third_calm : Calm third = declarations_quiet (d.variable ∷ before) ds (k.skip 2 third) h in
    let second_calm : Calm second = quiet (same_bool d.reference d.variable.reference) (k.place second) 2 second third_calm in (
      kept (not (is_one_of d.variable before)) (k.place first) 1 first second_calm,
      (kept (same_bool d.reference d.variable.reference) (k.place second) 2 second third_calm, are_new (d.variable ∷ before) ds (k.skip 2 third) h),
    )

pub new_calm : (before : List CVar) (ds : List Declaration) (w : Walk) → AreNew before ds → Calm w → Calm (k.declarations_judged before ds w)
new_calm before [] w new calm = calm
new_calm before (d ∷ ds) w new calm =
    let first : Walk = k.skip (k.type_width d.reference) w in
    let second : Walk = k.unless (not (is_one_of d.variable before)) (k.place first) 1 first in
    let third : Walk = k.unless (same_bool d.reference d.variable.reference) (k.place second) 2 second in
    let second_calm : Calm second = passes (not (is_one_of d.variable before)) (k.place first) 1 first new.0 calm in
    let third_calm : Calm third = passes (same_bool d.reference d.variable.reference) (k.place second) 2 second new.1.0 second_calm in
    new_calm (d.variable ∷ before) ds (k.skip 2 third) new.1.1 third_calm

pub params_new : (ds : List Declaration) (w : Walk) → Calm (k.params_judged ds w) → AreNew [] ds
params_new [] w h = tt
params_new (d ∷ ds) w h = are_new [] (d ∷ ds) w h

pub params_calm : (ds : List Declaration) (w : Walk) → AreNew [] ds → Calm w → Calm (k.params_judged ds w)
params_calm [] w new calm = calm
params_calm (d ∷ ds) w new calm = new_calm [] (d ∷ ds) w new calm

-- a name that has the type of its letter is declared so
pub declared_again : (before : List CVar) (ds : List Declaration) → AreNew before ds → map declaration_of (names_of ds) ≡ ds
declared_again before [] new = refl
declared_again before (d ∷ ds) new =
    ap₂ (λ x xs. x ∷ xs) (ap (λ r. record { reference = r; variable = d.variable }) (sym (bools_same d.reference d.variable.reference new.1.0))) (declared_again (d.variable ∷ before) ds new.1.1)

-- ---- how often names stand

unfoldable pub count : CVar → CVar → ℕ
count v w = cond (same_variable v w) 1 0

pub same_is : (v w : CVar) → IsTrue (same_variable v w) → v ≡ w
same_is v w e = by v.reference w.reference v.number w.number e
  where
    numbers : (m n : ℕ) → IsTrue (m == n) → m ≡ n
    numbers m n h = grind (arith, h, nat_tests)

    by : (a b : Bool) (m n : ℕ) → IsTrue (same_variable (record { reference = a; number = m }) (record { reference = b; number = n }))
        → ◌≡◌ {A = CVar} (record { reference = a; number = m }) (record { reference = b; number = n })
    by true true m n h = ap (λ i. record { reference = true; number = i }) (numbers m n h)
    by false false m n h = ap (λ i. record { reference = false; number = i }) (numbers m n h)
    by true false m n h = absurd (false≢true h)
    by false true m n h = absurd (false≢true h)

pub same_itself : (v : CVar) → IsTrue (same_variable v v)
same_itself v = by v.reference v.number
  where
    equal : (n : ℕ) → IsTrue (n == n)
    equal n = grind (arith, nat_tests)

    by : (a : Bool) (n : ℕ) → IsTrue (same_variable (record { reference = a; number = n }) (record { reference = a; number = n }))
    by true n = equal n
    by false n = equal n

-- names stand once, and not among those before
abbrev pub AreOnce : List CVar → List CVar → Type 0
AreOnce before vs = (v : CVar) → (sum_by (count v) vs ≤ 1) × (IsTrue (is_one_of v before) → sum_by (count v) vs ≡ 0)

not_true : (b : Bool) → IsTrue (not b) → IsTrue b → ⊥
not_true true h e = false≢true h
not_true false h e = false≢true e

new_once : (before : List CVar) (ds : List Declaration) → AreNew before ds → AreOnce before (names_of ds)
unfolding count
new_once before [] new v = (omega arith, λ _. refl)
new_once before (d ∷ ds) new v = by (same_variable v d.variable) refl (sum_by-cons (count v) d.variable (names_of ds)) (new_once (d.variable ∷ before) ds new.1.1 v)
  where
    first : IsTrue (same_variable v d.variable) → IsTrue (is_one_of v (d.variable ∷ before))
    first e = rw e refl

    by : (t : Bool) → same_variable v d.variable ≡ t → sum_by (count v) (names_of (d ∷ ds)) ≡ cond t 1 0 + sum_by (count v) (names_of ds)
        → (sum_by (count v) (names_of ds) ≤ 1) × (IsTrue (same_variable v d.variable || is_one_of v before) → sum_by (count v) (names_of ds) ≡ 0)
        → (sum_by (count v) (names_of (d ∷ ds)) ≤ 1) × (IsTrue (is_one_of v before) → sum_by (count v) (names_of (d ∷ ds)) ≡ 0)
    by true e s rest =
        let none = rest.1 (first e) in
        (omega (arith, s, none), λ one. absurd (not_true (is_one_of d.variable before) new.0 (subst (λ u. IsTrue (is_one_of u before)) (same_is v d.variable e) one)))
    by false e s rest =
        let few = rest.0 in
        (omega (arith, s, few), λ one. let none = rest.1 (rw e one) in omega (arith, s, none))

once_new : (before vs : List CVar) → AreOnce before vs → AreNew before (map declaration_of vs)
unfolding count
once_new before [] once = tt
once_new before (v ∷ vs) once = (not_before (is_one_of v before) refl, (itself v.reference, once_new (v ∷ before) vs rest))
  where
    here : 1 ≤ sum_by (count v) (v ∷ vs)
    here = let s = sum_by-cons (count v) v vs in let one : count v v ≡ 1 = rw (same_itself v) refl in omega (arith, s, one)

    itself : (r : Bool) → IsTrue (same_bool r r)
    itself true = refl
    itself false = refl

    not_before : (b : Bool) → is_one_of v before ≡ b → IsTrue (not b)
    not_before true e = let none = (once v).1 e in let some = here in absurd (omega (arith, none, some))
    not_before false e = refl

    rest : AreOnce (v ∷ before) vs
    rest u = by (same_variable u v) refl (sum_by-cons (count u) v vs) (once u)
      where
        by : (t : Bool) → same_variable u v ≡ t → sum_by (count u) (v ∷ vs) ≡ cond t 1 0 + sum_by (count u) vs
            → (sum_by (count u) (v ∷ vs) ≤ 1) × (IsTrue (is_one_of u before) → sum_by (count u) (v ∷ vs) ≡ 0)
            → (sum_by (count u) vs ≤ 1) × (IsTrue (t || is_one_of u before) → sum_by (count u) vs ≡ 0)
        by true e s all = let few = all.0 in (omega (arith, s, few), λ _. omega (arith, s, few))
        by false e s all = let few = all.0 in (omega (arith, s, few), λ one. let none = all.1 one in omega (arith, s, none))

-- the names in another order
pub new_in_order : (before : List CVar) (ds : List Declaration) (vs : List CVar) → AreNew before ds → IsPermutation (names_of ds) vs → AreNew before (map declaration_of vs)
new_in_order before ds vs new order =
    once_new before vs (λ v. let once = new_once before ds new v in let same = sum_by-IsPermutation (count v) (names_of ds) vs order in
    (subst (λ n. n ≤ 1) (sym same) once.0, λ one. same ∙ once.1 one))
