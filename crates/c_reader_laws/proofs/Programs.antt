-- A text as it is written stands for one program, where no rule on its names and types is broken.
use Rattle.std.proofs.Common.{◌≡◌, ℕ, zero, suc, ◌==◌, ◌||◌, IsTrue, Bool, true, false, if◌then◌else◌, List, [], ◌∷◌, map, Some, None, refl, sym, ap, ap₂, ◌∙◌, subst, arith}
use Rattle.std.specs.Prelude.{slice_get}
use Rattle.std.proofs.lemmas.Bool.{false≢true}
use Rattle.std.proofs.lemmas.Bool.Decides.{nat_tests}
use Rattle.std.proofs.lemmas.Option.{none-some, same_Some}
use Rattle.c_syntax.specs.declared.program.CName.{CName}
use Rattle.c_syntax.specs.declared.program.CVar.{CVar}
use Rattle.c_syntax.specs.declared.program.CResult.{CResult}
use Rattle.c_syntax.specs.C.{Stmts, Func, Program}
use Rattle.c_syntax.specs.Unit.{Head, Body, TranslationUnit}
use Rattle.c_syntax.specs.Kinds.{unit_refusal, same_bool, same_name, has_name, is_main, has_main, heads_of, names_of}
use Rattle.c_syntax.specs.Programs.{IsFuncOf, AreFuncsOf, bodies_of, IsProgramOf}
use Rattle.c_kinds.proofs.Main.{AreApart, names_apart, main_there, main_name, names_same, and_left, and_right, and_both, or_right, not_both, numbers_same, bools_same}
use Rattle.c_reader_laws.proofs.Order.{in_order, order_moves, order_sorted, sorted_once}

-- ---- one function

made : (number : ℕ) (result : CResult) (params vars : List CVar) (body : Stmts) → Func
made number result params vars body = record { number = number; result = result; params = params; vars = vars; body = body }

func_once : (b : Body) (f g : Func) → IsFuncOf b f → IsFuncOf b g → f ≡ g
unfolding made
func_once b f g is also =
    let number : f.number ≡ g.number = is.number ∙ sym also.number in
    let result : f.result ≡ g.result = is.result ∙ sym also.result in
    let params : f.params ≡ g.params = is.params ∙ sym also.params in
    let vars : f.vars ≡ g.vars = sorted_once (names_of b.vars) f.vars g.vars is.declares also.declares is.sorted also.sorted in
    let body : f.body ≡ g.body = is.body ∙ sym also.body in
    ap (λ x. made x f.result f.params f.vars f.body) number
    ∙ ap (λ x. made g.number x f.params f.vars f.body) result
    ∙ ap (λ x. made g.number g.result x f.vars f.body) params
    ∙ ap (λ x. made g.number g.result g.params x f.body) vars
    ∙ ap (λ x. made g.number g.result g.params g.vars x) body

funcs_once : (bs : List Body) (fs gs : List Func) → AreFuncsOf bs fs → AreFuncsOf bs gs → fs ≡ gs
funcs_once [] [] [] are also = refl
funcs_once [] [] (g ∷ gs) are also = absurd also
funcs_once [] (f ∷ fs) gs are also = absurd are
funcs_once (b ∷ bs) [] gs are also = absurd are
funcs_once (b ∷ bs) (f ∷ fs) [] are also = absurd also
funcs_once (b ∷ bs) (f ∷ fs) (g ∷ gs) are also = ap₂ (λ x xs. x ∷ xs) (func_once b f g are.0 also.0) (funcs_once bs fs gs are.1 also.1)

-- ---- one position of the function of a number

number_named : (n : ℕ) (f : CName) → f.glue ≡ false → f.number ≡ n → IsTrue (same_name (main_name n) f)
number_named n f plain same = and_both (same_bool false f.glue) (n == f.number) (ap (same_bool false) plain) (grind (arith, same, nat_tests))

plain_name : (f : CName) → same_bool false f.glue ≡ true → f.glue ≡ false
plain_name f e = sym (bools_same false f.glue e)

-- where the name stood before, no function has the number
abbrev NoneHas : ℕ → List Func → Type 0
NoneHas n fs = (i : ℕ) (f : Func) → slice_get fs i ≡ Some f → f.number ≡ n → ⊥

none_again : (n : ℕ) (before : List Head) (bs : List Body) (fs : List Func) → AreApart before bs → IsTrue (has_name (main_name n) before) → AreFuncsOf (bodies_of false bs) fs → NoneHas n fs
none_again n before [] [] apart there are = λ i f is same. none-some f is
none_again n before [] (g ∷ fs) apart there are = absurd are
none_again n before (b ∷ bs) fs apart there are =
    by (same_bool false b.head.name.glue) refl fs are (λ gs. none_again n (b.head ∷ before) bs gs apart.1 (or_right (same_name (main_name n) b.head.name) (has_name (main_name n) before) there))
  where
    other : b.head.name.glue ≡ false → b.head.name.number ≡ n → ⊥
    other plain same =
        not_both (has_name b.head.name before) apart.0 (subst (λ f. IsTrue (has_name f before)) (names_same (main_name n) b.head.name (number_named n b.head.name plain same)) there)

    by : (d : Bool) → same_bool false b.head.name.glue ≡ d → (gs : List Func) → AreFuncsOf (if d then b ∷ bodies_of false bs else bodies_of false bs) gs
        → ((hs : List Func) → AreFuncsOf (bodies_of false bs) hs → NoneHas n hs) → NoneHas n gs
    by false e gs are again = again gs are
    by true e [] are again = absurd are
    by true e (g ∷ gs) are again = λ i f is same. at i f is same
      where
        at : (i : ℕ) (f : Func) → slice_get (g ∷ gs) i ≡ Some f → f.number ≡ n → ⊥
        at zero f is same = other (plain_name b.head.name e) (sym are.0.number ∙ ap (λ x. x.number) (same_Some g f is) ∙ same)
        at (suc i) f is same = again gs are.1 i f is same

-- two positions of the number are one
abbrev OneHas : ℕ → List Func → Type 0
OneHas n fs = (i j : ℕ) (f g : Func) → slice_get fs i ≡ Some f → slice_get fs j ≡ Some g → f.number ≡ n → g.number ≡ n → i ≡ j

one_has : (n : ℕ) (before : List Head) (bs : List Body) (fs : List Func) → AreApart before bs → AreFuncsOf (bodies_of false bs) fs → OneHas n fs
one_has n before [] [] apart are = λ i j f g is also same equal. absurd (none-some f is)
one_has n before [] (g ∷ fs) apart are = absurd are
one_has n before (b ∷ bs) fs apart are =
    by (same_bool false b.head.name.glue) refl fs are (λ gs. one_has n (b.head ∷ before) bs gs apart.1) (λ gs. none_again n (b.head ∷ before) bs gs apart.1)
  where
    by : (d : Bool) → same_bool false b.head.name.glue ≡ d → (gs : List Func) → AreFuncsOf (if d then b ∷ bodies_of false bs else bodies_of false bs) gs
        → ((hs : List Func) → AreFuncsOf (bodies_of false bs) hs → OneHas n hs)
        → ((hs : List Func) → IsTrue (has_name (main_name n) (b.head ∷ before)) → AreFuncsOf (bodies_of false bs) hs → NoneHas n hs) → OneHas n gs
    by false e gs are again none = again gs are
    by true e [] are again none = absurd are
    by true e (h ∷ hs) are again none = at
      where
        here : (f : Func) → h ≡ f → f.number ≡ n → IsTrue (has_name (main_name n) (b.head ∷ before))
        here f is same = let named = number_named n b.head.name (plain_name b.head.name e) (sym are.0.number ∙ ap (λ x. x.number) is ∙ same) in rw named refl

        at : (i j : ℕ) (f g : Func) → slice_get (h ∷ hs) i ≡ Some f → slice_get (h ∷ hs) j ≡ Some g → f.number ≡ n → g.number ≡ n → i ≡ j
        at zero zero f g is also same equal = refl
        at zero (suc j) f g is also same equal = absurd (none hs (here f (same_Some h f is) same) are.1 j g also equal)
        at (suc i) zero f g is also same equal = absurd (none hs (here g (same_Some h g also) equal) are.1 i f is same)
        at (suc i) (suc j) f g is also same equal = ap (λ k. suc k) (again hs are.1 i j f g is also same equal)

pub program_once : (places : List ℕ) (u : TranslationUnit) (p q : Program) → unit_refusal places u ≡ None → IsProgramOf u p → IsProgramOf u q → p ≡ q
program_once places u p q none is also =
    let glue : p.glue ≡ q.glue = funcs_once (bodies_of true u.bodies) p.glue q.glue is.glue also.glue in
    let fns : p.fns ≡ q.fns = funcs_once (bodies_of false u.bodies) p.fns q.fns is.fns also.fns in
    let here : slice_get q.fns p.main ≡ Some is.main.0 = sym (ap (λ fs. slice_get fs p.main) fns) ∙ is.main.1 in
    let main : p.main ≡ q.main = one_has u.main [] u.bodies q.fns (names_apart places u none) also.fns p.main q.main is.main.0 also.main.0 here also.main.1 is.main.2 also.main.2 in
    ap (λ x. record { glue = x; fns = p.fns; main = p.main }) glue ∙ ap (λ x. record { glue = q.glue; fns = x; main = p.main }) fns ∙ ap (λ x. record { glue = q.glue; fns = q.fns; main = x }) main

-- ---- some program

func_of : Body → Func
func_of b = made b.head.name.number b.head.result (names_of b.head.params) (in_order (names_of b.vars)) b.stmts

func_is : (b : Body) → IsFuncOf b (func_of b)
unfolding func_of made
func_is b = record { number = refl; result = refl; params = refl; declares = order_moves (names_of b.vars); sorted = order_sorted (names_of b.vars); body = refl }

funcs_are : (bs : List Body) → AreFuncsOf bs (map func_of bs)
funcs_are [] = tt
funcs_are (b ∷ bs) = (func_is b, funcs_are bs)

-- the function of a number stands at some position
abbrev Has : ℕ → List Func → Type 0
Has n fs = (i : ℕ) × (f : Func) × (slice_get fs i ≡ Some f) × (f.number ≡ n)

main_stands : (n : ℕ) (bs : List Body) → IsTrue (has_main n (heads_of bs)) → Has n (map func_of (bodies_of false bs))
main_stands n [] main = absurd (false≢true main)
main_stands n (b ∷ bs) main = by (is_main n b.head) refl main (same_bool false b.head.name.glue) refl (main_stands n bs)
  where
    by : (d : Bool) → is_main n b.head ≡ d → IsTrue (d || has_main n (heads_of bs)) → (c : Bool) → same_bool false b.head.name.glue ≡ c
        → (IsTrue (has_main n (heads_of bs)) → Has n (map func_of (bodies_of false bs))) → Has n (map func_of (if c then b ∷ bodies_of false bs else bodies_of false bs))
    by true e m true plain again =
        let named : IsTrue (same_name (main_name n) b.head.name) = and_left _ _ e in
        (0, func_of b, refl, (func_is b).number ∙ sym (numbers_same n b.head.name.number (and_right _ _ named)))
    by true e m false plain again = absurd (false≢true (sym plain ∙ and_left _ _ (and_left _ _ e)))
    by false e m true plain again = let k = again m in (suc k.0, k.1, k.2, k.3)
    by false e m false plain again = again m

pub some_program : (places : List ℕ) (u : TranslationUnit) → unit_refusal places u ≡ None → (p : Program) × IsProgramOf u p
some_program places u none =
    let main = main_stands u.main u.bodies (main_there places u none) in (
      record { glue = map func_of (bodies_of true u.bodies); fns = map func_of (bodies_of false u.bodies); main = main.0 },
      record { glue = funcs_are (bodies_of true u.bodies); fns = funcs_are (bodies_of false u.bodies); main = (main.1, main.2, main.3) },
    )
