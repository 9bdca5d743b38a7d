-- The function that a run begins with has no parameters.
use Rattle.std.proofs.Common.{◌≡◌, ℕ, zero, suc, ◌+◌, ◌-◌, ◌==◌, ◌&&◌, ◌||◌, IsTrue, Bool, true, false, not, if◌then◌else◌, List, [], ◌∷◌, length, slice_get, Some, None, refl, sym, ap, ◌∙◌, subst, arith}
use Rattle.std.proofs.lemmas.Bool.{false≢true}
use Rattle.std.proofs.lemmas.Bool.Decides.{nat_tests}
use Rattle.std.proofs.lemmas.Option.{none-some, same_Some}
use Rattle.std.proofs.lemmas.List.{length-map}
use Rattle.c_syntax.specs.declared.program.CName.{CName}
use Rattle.c_syntax.specs.C.{Func, Program}
use Rattle.c_syntax.specs.Unit.{Head, Body, TranslationUnit}
use Rattle.c_syntax.specs.Kinds as k
use Rattle.c_syntax.specs.Kinds.{Walk, same_bool, same_name, has_name, is_main, has_main, heads_of, names_of}
use Rattle.c_syntax.specs.Programs.{IsFuncOf, AreFuncsOf, bodies_of, IsProgramOf}
use Rattle.c_meaning.specs.Run.{Numbered, number_at, count_in, count_in_all}
use Rattle.c_machine.specs.Machine.{IsRunnable}
use Rattle.c_kinds.proofs.Declared.{quiet, kept, params_quiet, declarations_quiet, stmts_good, bodies_good, kinds_declare}

-- ---- equal names

pub bools_same : (a b : Bool) → IsTrue (same_bool a b) → a ≡ b
bools_same true true e = refl
bools_same true false e = absurd (false≢true e)
bools_same false true e = absurd (false≢true e)
bools_same false false e = refl

pub numbers_same : (m n : ℕ) → IsTrue (m == n) → m ≡ n
numbers_same m n e = grind (arith, nat_tests)

pub and_left : (a b : Bool) → IsTrue (a && b) → IsTrue a
and_left true b e = refl
and_left false b e = absurd (false≢true e)

pub and_right : (a b : Bool) → IsTrue (a && b) → IsTrue b
and_right true b e = e
and_right false b e = absurd (false≢true e)

pub names_same : (f g : CName) → IsTrue (same_name f g) → f ≡ g
names_same f g e =
    let b = bools_same f.glue g.glue (and_left _ _ e) in
    let n = numbers_same f.number g.number (and_right _ _ e) in
    ap (λ x. record { glue = x; number = f.number }) b ∙ ap (λ x. record { glue = g.glue; number = x }) n

pub not_both : (b : Bool) → IsTrue (not b) → IsTrue b → ⊥
not_both true h k = false≢true h
not_both false h k = false≢true k

pub and_both : (a b : Bool) → IsTrue a → IsTrue b → IsTrue (a && b)
and_both true b h k = k
and_both false b h k = absurd (false≢true h)

pub or_right : (a b : Bool) → IsTrue b → IsTrue (a || b)
or_right true b e = refl
or_right false b e = e

-- ---- the names of bodies differ

-- none of the bodies has the name of one before it
abbrev pub AreApart : List Head → List Body → Type 0
AreApart before [] = Unit {0}
AreApart before (b ∷ bs) = IsTrue (not (has_name b.head.name before)) × AreApart (b.head ∷ before) bs

body_apart : (heads before : List Head) (b : Body) (w : Walk) → (k.body_judged heads before b w).least ≡ None → IsTrue (not (has_name b.head.name before))
body_apart heads before b w h =
    let first : Walk = k.skip (k.result_width b.head.result) w in
    let second : Walk = k.unless (not (has_name b.head.name before)) (k.place first) 6 first in
    let third : Walk = k.unless (k.has_head b.head heads) (k.place second) 6 second in
    let fourth : Walk = k.params_judged b.head.params (k.skip 2 third) in
    let start : Walk = k.declarations_judged (names_of b.head.params) b.vars (k.skip 1 fourth) in
    let inside = stmts_good (k.scope_of heads b) false b.stmts start h in
    let quiet_third : third.least ≡ None = params_quiet b.head.params (k.skip 2 third) (declarations_quiet (names_of b.head.params) b.vars (k.skip 1 fourth) inside.before) in
    kept (not (has_name b.head.name before)) (k.place first) 6 first (quiet (k.has_head b.head heads) (k.place second) 6 second quiet_third)

bodies_apart : (heads before : List Head) (bs : List Body) (w : Walk) → (k.bodies_judged heads before bs w).least ≡ None → AreApart before bs
bodies_apart heads before [] w h = tt
bodies_apart heads before (b ∷ bs) w h =
    let rest = bodies_good heads (b.head ∷ before) bs (k.body_judged heads before b w) h in
    (body_apart heads before b w rest.before, bodies_apart heads (b.head ∷ before) bs (k.body_judged heads before b w) h)

-- ---- the main function

abbrev pub main_name : ℕ → CName
main_name n = record { glue = false; number = n }

-- each body of that name has no parameters
abbrev HaveNoParams : ℕ → List Body → Type 0
HaveNoParams n [] = Unit {0}
HaveNoParams n (b ∷ bs) = (IsTrue (same_name (main_name n) b.head.name) → length b.head.params ≡ 0) × HaveNoParams n bs

-- where the name stood before, no body has it
no_other : (n : ℕ) (before : List Head) (bs : List Body) → AreApart before bs → IsTrue (has_name (main_name n) before) → HaveNoParams n bs
no_other n before [] apart there = tt
no_other n before (b ∷ bs) apart there = (
  (λ named. absurd (not_both (has_name b.head.name before) apart.0 (subst (λ f. IsTrue (has_name f before)) (names_same (main_name n) b.head.name named) there))),
  no_other n (b.head ∷ before) bs apart.1 (or_right (same_name (main_name n) b.head.name) (has_name (main_name n) before) there),
)

none_such : (n : ℕ) (before : List Head) (bs : List Body) → AreApart before bs → IsTrue (has_name (main_name n) before) → IsTrue (has_main n (heads_of bs)) → ⊥
none_such n before [] apart there main = false≢true main
none_such n before (b ∷ bs) apart there main = by (is_main n b.head) refl main (none_such n (b.head ∷ before) bs apart.1 (or_right (same_name (main_name n) b.head.name) (has_name (main_name n) before) there))
  where
    by : (t : Bool) → is_main n b.head ≡ t → IsTrue (t || has_main n (heads_of bs)) → (IsTrue (has_main n (heads_of bs)) → ⊥) → ⊥
    by true e m again =
        let named : IsTrue (same_name (main_name n) b.head.name) = and_left _ _ e in
        not_both (has_name b.head.name before) apart.0 (subst (λ f. IsTrue (has_name f before)) (names_same (main_name n) b.head.name named) there)
    by false e m again = again m

main_alone : (n : ℕ) (before : List Head) (bs : List Body) → AreApart before bs → IsTrue (has_main n (heads_of bs)) → HaveNoParams n bs
main_alone n before [] apart main = tt
main_alone n before (b ∷ bs) apart main = by (is_main n b.head) refl main (main_alone n (b.head ∷ before) bs apart.1)
  where
    here : IsTrue (same_name (main_name n) b.head.name) → IsTrue (has_name (main_name n) (b.head ∷ before))
    here named = rw named refl

    by : (t : Bool) → is_main n b.head ≡ t → IsTrue (t || has_main n (heads_of bs)) → (IsTrue (has_main n (heads_of bs)) → HaveNoParams n bs) → HaveNoParams n (b ∷ bs)
    by true e m again = (
      (λ named. numbers_same (length b.head.params) 0 (and_right (same_name (main_name n) b.head.name) _ e)),
      no_other n (b.head ∷ before) bs apart.1 (here (and_left _ _ e)),
    )
    by false e m again = ((λ named. absurd (none_such n (b.head ∷ before) bs apart.1 (here named) m)), again m)

-- ---- the function at its position

abbrev AreNotGlue : List Body → Type 0
AreNotGlue [] = Unit {0}
AreNotGlue (b ∷ bs) = IsTrue (same_bool false b.head.name.glue) × AreNotGlue bs

chosen_none : (n : ℕ) (bs : List Body) → HaveNoParams n bs → HaveNoParams n (bodies_of false bs)
chosen_none n [] h = tt
chosen_none n (b ∷ bs) h = by (same_bool false b.head.name.glue) (chosen_none n bs h.1)
  where
    by : (t : Bool) → HaveNoParams n (bodies_of false bs) → HaveNoParams n (if t then b ∷ bodies_of false bs else bodies_of false bs)
    by true rest = (h.0, rest)
    by false rest = rest

chosen_apart : (bs : List Body) → AreNotGlue (bodies_of false bs)
chosen_apart [] = tt
chosen_apart (b ∷ bs) = by (same_bool false b.head.name.glue) refl (chosen_apart bs)
  where
    by : (t : Bool) → same_bool false b.head.name.glue ≡ t → AreNotGlue (bodies_of false bs) → AreNotGlue (if t then b ∷ bodies_of false bs else bodies_of false bs)
    by true e rest = (e, rest)
    by false e rest = rest

func_none : (n : ℕ) (b : Body) (f : Func) → (IsTrue (same_name (main_name n) b.head.name) → length b.head.params ≡ 0) → IsTrue (same_bool false b.head.name.glue) → IsFuncOf b f → f.number ≡ n → length f.params ≡ 0
func_none n b f h plain is same =
    let number : n ≡ b.head.name.number = sym same ∙ is.number in
    let equal : IsTrue (n == b.head.name.number) = grind (arith, nat_tests, number) in
    let named : IsTrue (same_name (main_name n) b.head.name) = and_both (same_bool false b.head.name.glue) (n == b.head.name.number) plain equal in
    ap length is.params ∙ length-map b.head.params (λ d. d.variable) ∙ h named

at_none : (n : ℕ) (bs : List Body) (fs : List Func) (i : ℕ) (f : Func) → HaveNoParams n bs → AreNotGlue bs → AreFuncsOf bs fs → slice_get fs i ≡ Some f → f.number ≡ n → length f.params ≡ 0
at_none n [] [] i f h plain are is same = absurd (none-some f is)
at_none n [] (g ∷ fs) i f h plain are is same = absurd are
at_none n (b ∷ bs) [] i f h plain are is same = absurd are
at_none n (b ∷ bs) (g ∷ fs) zero f h plain are is same = func_none n b f h.0 plain.0 (subst (IsFuncOf b) (same_Some g f is) are.0) same
at_none n (b ∷ bs) (g ∷ fs) (suc i) f h plain are is same = at_none n bs fs i f h.1 plain.1 are.1 is same

func_at : (first : ℕ) (fs : List Func) (i : ℕ) (g : Numbered) → number_at first fs i ≡ Some g → slice_get fs i ≡ Some g.func
func_at first [] i g e = absurd (none-some g e)
func_at first (f ∷ fs) zero g e = ap (λ x. Some x.func) (same_Some (record { func = f; first = first }) g e)
func_at first (f ∷ fs) (suc i) g e = func_at (first + count_in f.body) fs i g e

pub heads_quiet : (bodies before hs : List Head) (w : Walk) → (k.heads_judged bodies before hs w).least ≡ None → w.least ≡ None
heads_quiet bodies before [] w h = h
heads_quiet bodies before (g ∷ gs) w h =
    let first : Walk = k.skip (k.result_width g.result) w in
    let second : Walk = k.unless (not (has_name g.name before)) (k.place first) 1 first in
    let third : Walk = k.unless (k.has_head g bodies) (k.place second) 6 second in
    let fourth : Walk = k.params_judged g.params (k.skip 2 third) in
    let quiet_fourth : fourth.least ≡ None = heads_quiet bodies (g ∷ before) gs (k.skip 1 fourth) h in
    quiet (not (has_name g.name before)) (k.place first) 1 first (quiet (k.has_head g bodies) (k.place second) 6 second (params_quiet g.params (k.skip 2 third) quiet_fourth))

-- what follows the two first lines begins here
abbrev after_main : List ℕ → TranslationUnit → Walk
after_main places u = k.skip 2 (k.main_judged u (k.skip 3 (record { places = places; least = None })))

pub main_there : (places : List ℕ) (u : TranslationUnit) → k.unit_refusal places u ≡ None → IsTrue (has_main u.main (heads_of u.bodies))
main_there places u none =
    let start : Walk = k.skip 3 (record { places = places; least = None }) in
    let second : Walk = after_main places u in
    let third : Walk = k.heads_judged (heads_of u.bodies) [] u.heads second in
    let quiet_second : second.least ≡ None = heads_quiet (heads_of u.bodies) [] u.heads second (bodies_good u.heads [] u.bodies third none).before in
    kept (has_main u.main (heads_of u.bodies)) (k.place start - 1) 6 start quiet_second

-- where no rule refuses a text, the names of its bodies differ
pub names_apart : (places : List ℕ) (u : TranslationUnit) → k.unit_refusal places u ≡ None → AreApart [] u.bodies
names_apart places u none = bodies_apart u.heads [] u.bodies (k.heads_judged (heads_of u.bodies) [] u.heads (after_main places u)) none

main_is : (places : List ℕ) (u : TranslationUnit) → k.unit_refusal places u ≡ None → HaveNoParams u.main u.bodies
main_is places u none = main_alone u.main [] u.bodies (names_apart places u none) (main_there places u none)

pub can_run : (places : List ℕ) (u : TranslationUnit) (p : Program) → k.unit_refusal places u ≡ None → IsProgramOf u p → IsRunnable p
can_run places u p none is = record {
  declared = kinds_declare places u p is none;
  no_params = λ g e.
      let there : slice_get p.fns p.main ≡ Some g.func = func_at (count_in_all p.glue) p.fns p.main g e in
      let same : is.main.0 ≡ g.func = same_Some is.main.0 g.func (sym is.main.1 ∙ there) in
      at_none u.main (bodies_of false u.bodies) p.fns p.main g.func (chosen_none u.main u.bodies (main_is places u none)) (chosen_apart u.bodies) is.fns there (ap (λ f. f.number) (sym same) ∙ is.main.2);
}
